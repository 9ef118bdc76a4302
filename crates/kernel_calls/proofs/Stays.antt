-- What stays of a page, whichever process has it, while it is mapped.
use Rattle.kernel_calls.proofs.Prelude.{◌≡◌, ◌≢◌, ℕ, ◌+◌, Bool, true, false, List, [], ◌∷◌, refl, sym, ap, ◌∙◌, Option, Some, None, unwrap_or, inl, inr, arith, ◌⊎◌, if◌then◌else◌, slice_index, option_map, ne_eqb, same_Some, offset_number, byte_count, touched, Size, same, Set, get-map_values, contains-retain, no_value, same_cases, same_apart, Slot, slot_order, Cell, Spaces, fresh, cell_or_fresh, with_bytes, write_at, bytes_of, without, is_slot, is_of, at_page, slot_at, accessed, stored, with_page, with_pages, all_accessed, all_stored, copied-other, left, get-without, State, is_live, child_of, accept_refusal, fork_refusal, map_refusal, offered, after_load, after_store, after_map, after_unmap, after_protect, after_accept, after_fork, after_exit, IsWellFormed, child_free, live_differ, get-inserted, get-inserted_other, may_fork, may_accept, may_map, giver_mapped, IsStoreInto, answer_of, after, next, completes, Call, Event}
use Rattle.kernel_calls.proofs.Decided.{by_next}
use Rattle.kernel_calls.proofs.Runs.{not-refused}
use Rattle.kernel_calls.proofs.UntouchedSlots.{store_bytes, Untouched}
use Rattle.kernel_calls.proofs.Untouched.{get_joined, widen, widen_kept}
use Rattle.page_words.specs.FiniteMap as map
use Rattle.page_words.specs.FiniteSet as set
use Rattle.kernel_calls.specs.declared.calls.Call.TheVariants as call

-- ---- Something of a cell that stays

-- what is mapped still is, and has the same of it
abbrev pub Keeps : {A : Type 0} → (Cell → A) → Spaces → Spaces → Type 0
Keeps P S T = (slot : Slot) (c : Cell) → map.get S slot ≡ Some c → option_map P (map.get T slot) ≡ Some (P c)

module _ {A : Type 0} (P : Cell → A) where
  keeps_all : (S : Spaces) → Keeps P S S
  keeps_all S slot c h = ap (option_map P) h

  pub keeps_through : (S T U : Spaces) → Keeps P S T → Keeps P T U → Keeps P S U
  keeps_through S T U a b slot c h = by (map.get T slot) refl (a slot c h)
    where
      by : (x : Option Cell) → map.get T slot ≡ x → option_map P x ≡ Some (P c)
          → option_map P (map.get U slot) ≡ Some (P c)
      by x at k = grind arith

  keeps_insert : (S : Spaces) (at : Slot) (x : Cell) → ((c : Cell) → map.get S at ≡ Some c → P x ≡ P c)
      → Keeps P S (map.insert S at x)
  keeps_insert S at x own slot c h = grind (arith, same_cases, get-inserted, get-inserted_other)

  pub keeps_new : (S : Spaces) (at : Slot) (x : Cell) → map.get S at ≡ None → Keeps P S (map.insert S at x)
  keeps_new S at x none = keeps_insert S at x (λ c h. let n = none in absurd (let e : None ≡ Some c = sym n ∙ h in cc))

  pub keeps_set : (S : Spaces) (at : Slot) (x : Cell) → P x ≡ P (cell_or_fresh S at) → Keeps P S (map.insert S at x)
  keeps_set S at x same = grind (arith, keeps_insert)

  keeps_changed : (S : Spaces) (f : Slot → Cell → Cell)
      → ((slot : Slot) (c : Cell) → map.get S slot ≡ Some c → P (f slot c) ≡ P c) → Keeps P S (map.map_values f S)
  keeps_changed S f same slot c h = grind (arith, get-map_values)

  keeps_page : (S : Spaces) (q page : ℕ) → Keeps P S (with_page S q page)
  keeps_page S q page = grind (arith, keeps_all, keeps_new, no_value)

  pub keeps_pages : (S : Spaces) (q : ℕ) (pages : List ℕ) → Keeps P S (with_pages S q pages)
  keeps_pages S q [] = keeps_all S
  keeps_pages S q (page ∷ pages) = keeps_through S (with_page S q page) (with_pages (with_page S q page) q pages)
      (keeps_page S q page) (keeps_pages (with_page S q page) q pages)

  pub keeps_accessed : ((c : Cell) → P (record c { accessed = true }) ≡ P c) → (S : Spaces) (q : ℕ) (pages : List ℕ)
      → Keeps P S (all_accessed S q pages)
  keeps_accessed same S q [] = keeps_all S
  keeps_accessed same S q (page ∷ pages) =
      keeps_through S (accessed S (at_page q page)) (all_accessed (accessed S (at_page q page)) q pages)
      (keeps_set S (at_page q page) (record (cell_or_fresh S (at_page q page)) { accessed = true })
      (same (cell_or_fresh S (at_page q page))))
      (keeps_accessed same (accessed S (at_page q page)) q pages)

-- ---- But for bytes

-- what it may have, and whether a slot is in its group
abbrev Rest : Type 0
Rest = Bool × Bool

abbrev pub rest_of : Slot → Cell → Rest
rest_of other c = (c.may, set.contains c.holders other)

rest_stored : (S : Spaces) (slot : Slot) (at : ℕ) (new : List ℕ) (other : Slot)
    → Keeps (rest_of other) S (stored S slot at new)
rest_stored S slot at new other =
    let c : Cell = cell_or_fresh S slot in
    let bytes : List ℕ = write_at c.bytes at new in
    let f : Slot → Cell → Cell = (λ r d. if set.contains c.holders r then with_bytes d bytes else d) in
    keeps_through (rest_of other) S (map.map_values f S) (stored S slot at new)
    (keeps_changed (rest_of other) S f (λ r d h. either (set.contains c.holders r) d bytes))
    (keeps_set (rest_of other) (map.map_values f S) slot (record c { bytes = bytes; accessed = true; dirty = true })
    (sym (ap (λ (x : Option Cell). rest_of other (unwrap_or x (fresh slot true))) (get-map_values slot_order f S slot)
    ∙ by c.holders bytes (map.get S slot))))
  where
    either : (b : Bool) (d : Cell) (bytes : List ℕ)
        → rest_of other (if b then with_bytes d bytes else d) ≡ rest_of other d
    either true d bytes = refl
    either false d bytes = refl

    by : (g : Set slot_order) (bytes : List ℕ) (x : Option Cell)
        → rest_of other (unwrap_or (option_map (λ (d : Cell). if set.contains g slot then with_bytes d bytes else d) x)
        (fresh slot true)) ≡ rest_of other (unwrap_or x (fresh slot true))
    by g bytes None = refl
    by g bytes (Some d) = either (set.contains g slot) d bytes

pub rest_all_stored : (S : Spaces) (q addr : ℕ) (bytes : List ℕ) (other : Slot)
    → Keeps (rest_of other) S (all_stored S q addr bytes)
rest_all_stored S q addr [] other = keeps_all (rest_of other) S
rest_all_stored S q addr (byte ∷ bytes) other =
    keeps_through (rest_of other) S (stored S (slot_at q addr) (offset_number addr) (byte ∷ []))
    (all_stored S q addr (byte ∷ bytes))
    (rest_stored S (slot_at q addr) (offset_number addr) (byte ∷ []) other)
    (rest_all_stored (stored S (slot_at q addr) (offset_number addr) (byte ∷ [])) q (addr + 1) bytes other)

-- ---- All

-- the same, and the bytes
abbrev Whole : Type 0
Whole = Bool × (List ℕ × Bool)

abbrev whole_of : Slot → Cell → Whole
whole_of other c = (c.may, (c.bytes, set.contains c.holders other))

-- what stays of a cell, in which the event of e's process changes no more than bytes that it stores
pub record Same (s t : State) (e : Event) (slot other : Slot) (before after : Cell) : Type 0 where
  pub may : after.may ≡ before.may
  pub group : set.contains after.holders other ≡ set.contains before.holders other
  pub bytes : (place : ℕ) → (slice_index after.bytes place ≡ slice_index before.bytes place)
      ⊎ IsStoreInto s t e slot place

-- a slot that doesn't come or go: of another process, or mapped before and after
abbrev pub Bystands : State → Event → State → Slot → Type 0
Bystands s e t other = (other.pid ≢ e.pid) ⊎ ((map.contains_key s.spaces other ≡ true)
    × (map.contains_key t.spaces other ≡ true))

abbrev pub Stays : State → Event → State → Type 0
Stays s e t = (slot other : Slot) (before after : Cell) → Bystands s e t other → map.get s.spaces slot ≡ Some before
    → map.get t.spaces slot ≡ Some after → Same s t e slot other before after

whole_same : (s t : State) (e : Event) (slot other : Slot) (before after : Cell)
    → whole_of other after ≡ whole_of other before → Same s t e slot other before after
whole_same s t e slot other before after h = grind arith

kept_stays : (s : State) (e : Event) (t : State)
    → ((other : Slot) → Bystands s e t other → Keeps (whole_of other) s.spaces t.spaces) → Stays s e t
kept_stays s e t keeps slot other before after o at_s at_t =
    whole_same s t e slot other before after (same_Some (whole_of other after) (whole_of other before)
    (sym (ap (option_map (whole_of other)) at_t) ∙ keeps other o slot before at_s))

without_stays : (s : State) (e : Event) (t : State) (gone : Slot → Bool) → t.spaces ≡ without s.spaces gone
    → ((other : Slot) → other.pid ≢ e.pid → gone other ≡ false) → Stays s e t
without_stays s e t gone is stays slot other before after o at_s at_t =
    grind (arith, get-without, left, contains-retain, whole_same, same_Some)

module _ (s : State) (e : Event) (w : IsWellFormed s) (live : is_live s e.pid ≡ true) where
  abbrev q : ℕ
  q = e.pid

  all_stay : (t : State) → t.spaces ≡ s.spaces → Stays s e t
  all_stay t is = grind (arith, kept_stays)

  load_stays : (addr : ℕ) (size : Size) → Stays s e (after_load s e.pid addr size)
  load_stays addr size =
      let pages = touched addr size in
      let T : Spaces = with_pages s.spaces e.pid pages in
      kept_stays s e (after_load s e.pid addr size)
      (λ other o. keeps_through (whole_of other) s.spaces T (all_accessed T e.pid pages)
      (keeps_pages (whole_of other) s.spaces e.pid pages)
      (keeps_accessed (whole_of other) (λ c. refl) T e.pid pages))

  store_stays : (addr : ℕ) (size : Size) (value : ℕ) → e.call ≡ call.Store addr size value
      → completes (answer_of s e.pid (call.Store addr size value)) ≡ true
      → Stays s e (after_store s e.pid addr size value)
  store_stays addr size value is done slot other before after o at_s at_t =
      let T : Spaces = with_pages s.spaces e.pid (touched addr size) in
      let bytes = bytes_of (byte_count size) value in
      let rest : rest_of other after ≡ rest_of other before =
      same_Some (rest_of other after) (rest_of other before) (sym (ap (option_map (rest_of other)) at_t)
      ∙ keeps_through (rest_of other) s.spaces T (all_stored T e.pid addr bytes)
      (keeps_pages (rest_of other) s.spaces e.pid (touched addr size)) (rest_all_stored T e.pid addr bytes other)
      slot before at_s) in
      record {
        may = ap (λ (k : Rest). k.0) rest;
        group = ap (λ (k : Rest). k.1) rest;
        bytes = λ place. elim (store_bytes s e addr value size is w live done slot before place at_s) [
          | inl same_byte ↦ grind arith
          | inr into ↦ inr into
        ];
      }

  accept_stays : (giver giver_page page : ℕ) → accept_refusal s e.pid giver giver_page page ≡ None
      → Stays s e (after_accept s e.pid giver giver_page page)
  accept_stays giver giver_page page allowed =
      let may = may_accept s e.pid giver giver_page page allowed in
      let g = giver_mapped s e.pid giver giver_page w may.there in
      let new : Slot = at_page e.pid page in
      kept_stays s e (after_accept s e.pid giver giver_page page)
      (λ other o slot c h.
      let apart : slot ≢ new = (λ is. let x : Some c ≡ None = sym h ∙ ap (map.get s.spaces) is ∙ may.none in cc) in
      ap (option_map (whole_of other)) (get_joined s e.pid giver giver_page page (offered s giver giver_page e.pid) w
      g.0 g.1 slot apart ∙ ap (option_map (widen s e.pid giver giver_page page (offered s giver giver_page e.pid) w
      g.0 g.1 slot)) h)
      ∙ ap (λ (k : Untouched). Some (k.0.may, k.1)) (widen_kept s e.pid giver giver_page page
      (offered s giver giver_page e.pid) w g.0 g.1 slot other c h (not_new other o)))
    where
      not_new : (other : Slot) → Bystands s e (after_accept s e.pid giver giver_page page) other
          → other ≢ at_page e.pid page
      not_new other o is = grind (arith, may_accept)

  after_stays : (c : Call) → e.call ≡ c → completes (answer_of s e.pid c) ≡ true → Stays s e (after s e.pid c)
  after_stays (call.Load addr size) is h = load_stays addr size
  after_stays (call.Store addr size value) is h = store_stays addr size value is h
  after_stays (call.Map page write) is h =
      kept_stays s e (after_map s e.pid page write)
      (λ other o. keeps_new (whole_of other) s.spaces (at_page e.pid page) (fresh (at_page e.pid page) write)
      (may_map s e.pid page (not-refused (map_refusal s e.pid page) _ h)).none)
  after_stays (call.Unmap page) is h =
      without_stays s e (after_unmap s e.pid page) (is_slot e.pid page) refl
      (λ other o. same_apart slot_order (at_page e.pid page) other (λ x. o (ap (λ (r : Slot). r.pid) (sym x))))
  after_stays (call.Protect page write) is h =
      kept_stays s e (after_protect s e.pid page write)
      (λ other o. keeps_set (whole_of other) s.spaces (at_page e.pid page)
      (record (cell_or_fresh s.spaces (at_page e.pid page)) { write = write }) refl)
  after_stays (call.Accept giver giver_page page) is h =
      accept_stays giver giver_page page (not-refused (accept_refusal s e.pid giver giver_page page) _ h)
  after_stays (call.Fork quota) is h =
      let free = child_free s e.pid quota (may_fork s e.pid quota (not-refused (fork_refusal s e.pid quota) _ h)).spawn
      in
      kept_stays s e (after_fork s e.pid quota) (λ other o slot c k.
      ap (option_map (whole_of other)) (copied-other s.spaces e.pid (child_of s) slot
      (live_differ s slot.pid (child_of s) (w.owners slot c k) free) ∙ k))
  after_stays call.Exit is h = without_stays s e (after_exit s e.pid) (is_of e.pid) refl
      (λ other o. ne_eqb other.pid e.pid o)
  after_stays c is h = all_stay (after s e.pid c) refl

-- after any event, at a slot that is mapped before and after it
pub next_stays : (s : State) (e : Event) → IsWellFormed s → Stays s e (next s e)
next_stays s e w = by_next (Stays s e) s e (kept_stays s e s (λ other o slot c at. ap (option_map (whole_of other)) at))
    (λ live. after_stays s e w live e.call refl)
