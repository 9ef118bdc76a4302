-- What an event leaves of the flags of a slot that is mapped before and after it.
use Rattle.kernel_calls.proofs.Prelude.{◌≡◌, ◌≢◌, ℕ, suc, ◌+◌, Bool, true, false, List, [], ◌∷◌, refl, sym, ap, subst, ◌∙◌, Option, Some, None, unwrap_or, arith, inl, inr, IsTrue, ◌⊎◌, if◌then◌else◌, option_map, same_Some, offset_number, byte_count, touched, Set, get-map_values, no_value, same_cases, Slot, slot_order, Cell, Spaces, fresh, cell_or_fresh, with_bytes, with_holders, write_at, bytes_of, without, is_slot, is_of, at_page, slot_at, accessed, stored, with_page, with_pages, all_accessed, all_stored, copied-other, left, get-without, State, child_of, accept_refusal, fork_refusal, map_refusal, offered, after_load, after_store, after_map, after_accept, after_fork, IsWellFormed, child_free, live_differ, get-inserted, get-inserted_other, may_fork, may_accept, may_map, giver_mapped, ChangesAreRightful, answer_of, after, next, completes, Call, Event}
use Rattle.kernel_calls.proofs.Decided.{by_next}
use Rattle.kernel_calls.proofs.Runs.{not-refused}
use Rattle.kernel_calls.proofs.Stays.{next_stays}
use Rattle.kernel_calls.proofs.Untouched.{get_joined, widen}
use Rattle.page_words.specs.FiniteMap as map
use Rattle.page_words.specs.FiniteSet as set
use Rattle.kernel_calls.specs.declared.calls.Call.TheVariants as call

-- ---- The right to write stays, and what was accessed and dirty

pub record Marked (c d : Cell) : Type 0 where
  pub write : d.write ≡ c.write
  pub may : d.may ≡ c.may
  pub accessed : IsTrue c.accessed → IsTrue d.accessed
  pub dirty : IsTrue c.dirty → IsTrue d.dirty

unmarked : (c : Cell) → Marked c c
unmarked c = record { write = refl; may = refl; accessed = λ h. h; dirty = λ h. h }

-- what is mapped still is, so marked
abbrev pub Marks : Spaces → Spaces → Type 0
Marks S T = (slot : Slot) (c : Cell) → map.get S slot ≡ Some c → (d : Cell) × (map.get T slot ≡ Some d) × Marked c d

marks_all : (S : Spaces) → Marks S S
marks_all S slot c h = (c, h, unmarked c)

marks_through : (S T U : Spaces) → Marks S T → Marks T U → Marks S U
marks_through S T U a b slot c h =
    let x = a slot c h in
    let y = b slot x.0 x.1 in (
      y.0,
      y.1,
      record {
        write = y.2.write ∙ x.2.write;
        may = y.2.may ∙ x.2.may;
        accessed = λ k. y.2.accessed (x.2.accessed k);
        dirty = λ k. y.2.dirty (x.2.dirty k);
      },
    )

marks_insert : (S : Spaces) (at : Slot) (x : Cell) → ((c : Cell) → map.get S at ≡ Some c → Marked c x)
    → Marks S (map.insert S at x)
marks_insert S at x own slot c h = elim (same_cases slot_order slot at) [
  | inl is ↦ (
    x,
    ap (map.get (map.insert S at x)) is.0 ∙ get-inserted S at x,
    own c (sym (ap (map.get S) is.0) ∙ h),
  )
  | inr other ↦ (c, get-inserted_other S at x slot other.0 ∙ h, unmarked c)
]

marks_new : (S : Spaces) (at : Slot) (x : Cell) → map.get S at ≡ None → Marks S (map.insert S at x)
marks_new S at x none = marks_insert S at x (λ c h. absurd (let e : None ≡ Some c = sym none ∙ h in cc))

marks_set : (S : Spaces) (at : Slot) (x : Cell) → Marked (cell_or_fresh S at) x → Marks S (map.insert S at x)
marks_set S at x marked = marks_insert S at x (λ c h.
    subst (λ (d : Cell). Marked d x) (ap (λ (o : Option Cell). unwrap_or o (fresh at true)) h) marked)

marks_changed : (S : Spaces) (f : Slot → Cell → Cell) → ((slot : Slot) (c : Cell) → Marked c (f slot c))
    → Marks S (map.map_values f S)
marks_changed S f marked slot c h = (
  f slot c,
  get-map_values slot_order f S slot ∙ ap (option_map (f slot)) h,
  marked slot c,
)

marks_page : (S : Spaces) (q page : ℕ) → Marks S (with_page S q page)
marks_page S q page = by (map.contains_key S (at_page q page)) refl
  where
    by : (b : Bool) → map.contains_key S (at_page q page) ≡ b
        → Marks S (if b then S else map.insert S (at_page q page) (fresh (at_page q page) true))
    by true is = marks_all S
    by false is = marks_new S (at_page q page) (fresh (at_page q page) true) (no_value (map.get S (at_page q page)) is)

marks_pages : (S : Spaces) (q : ℕ) (pages : List ℕ) → Marks S (with_pages S q pages)
marks_pages S q [] = marks_all S
marks_pages S q (page ∷ pages) = marks_through S (with_page S q page) (with_pages (with_page S q page) q pages)
    (marks_page S q page) (marks_pages (with_page S q page) q pages)

marks_accessed : (S : Spaces) (q : ℕ) (pages : List ℕ) → Marks S (all_accessed S q pages)
marks_accessed S q [] = marks_all S
marks_accessed S q (page ∷ pages) =
    marks_through S (accessed S (at_page q page)) (all_accessed (accessed S (at_page q page)) q pages)
    (marks_set S (at_page q page) (record (cell_or_fresh S (at_page q page)) { accessed = true })
    (record { write = refl; may = refl; accessed = λ h. refl; dirty = λ h. h }))
    (marks_accessed (accessed S (at_page q page)) q pages)

marks_stored : (S : Spaces) (slot : Slot) (at : ℕ) (new : List ℕ) → Marks S (stored S slot at new)
marks_stored S slot at new =
    let c : Cell = cell_or_fresh S slot in
    let bytes : List ℕ = write_at c.bytes at new in
    let f : Slot → Cell → Cell = (λ r d. if set.contains c.holders r then with_bytes d bytes else d) in
    marks_through S (map.map_values f S) (stored S slot at new)
    (marks_changed S f (λ r d. either (set.contains c.holders r) d bytes))
    (marks_set (map.map_values f S) slot (record c { bytes = bytes; accessed = true; dirty = true })
    (record {
      write = grind (arith, get-map_values, by);
      may = grind (arith, get-map_values, by_may);
      accessed = λ h. refl;
      dirty = λ h. refl;
    }))
  where
    either : (b : Bool) (d : Cell) (bytes : List ℕ) → Marked d (if b then with_bytes d bytes else d)
    either true d bytes = record { write = refl; may = refl; accessed = λ h. h; dirty = λ h. h }
    either false d bytes = unmarked d

    same_write : (b : Bool) (d : Cell) (bytes : List ℕ) → (if b then with_bytes d bytes else d).write ≡ d.write
    same_write true d bytes = refl
    same_write false d bytes = refl

    by : (g : Set slot_order) (bytes : List ℕ) (x : Option Cell)
        → (unwrap_or (option_map (λ (d : Cell). if set.contains g slot then with_bytes d bytes else d) x)
        (fresh slot true)).write ≡ (unwrap_or x (fresh slot true)).write
    by g bytes None = refl
    by g bytes (Some d) = same_write (set.contains g slot) d bytes

    same_may : (b : Bool) (d : Cell) (bytes : List ℕ) → (if b then with_bytes d bytes else d).may ≡ d.may
    same_may true d bytes = refl
    same_may false d bytes = refl

    by_may : (g : Set slot_order) (bytes : List ℕ) (x : Option Cell)
        → (unwrap_or (option_map (λ (d : Cell). if set.contains g slot then with_bytes d bytes else d) x)
        (fresh slot true)).may ≡ (unwrap_or x (fresh slot true)).may
    by_may g bytes None = refl
    by_may g bytes (Some d) = same_may (set.contains g slot) d bytes

pub marks_all_stored : (S : Spaces) (q addr : ℕ) (bytes : List ℕ) → Marks S (all_stored S q addr bytes)
marks_all_stored S q addr [] = marks_all S
marks_all_stored S q addr (byte ∷ bytes) =
    marks_through S (stored S (slot_at q addr) (offset_number addr) (byte ∷ []))
    (all_stored S q addr (byte ∷ bytes))
    (marks_stored S (slot_at q addr) (offset_number addr) (byte ∷ []))
    (marks_all_stored (stored S (slot_at q addr) (offset_number addr) (byte ∷ [])) q (addr + 1) bytes)

-- ---- By call

-- what an event leaves of the flags of a slot
record FlagsChange (e : Event) (slot : Slot) (before after : Cell) : Type 0 where
  write : (after.write ≡ before.write) ⊎ ((slot.pid ≡ e.pid) × (e.call ≡ call.Protect slot.page after.write))
  marks : (IsTrue before.accessed → IsTrue after.accessed) × (IsTrue before.dirty → IsTrue after.dirty)

abbrev Keeps : State → State → Event → Type 0
Keeps s t e = (slot : Slot) (before after : Cell) → map.get s.spaces slot ≡ Some before
    → map.get t.spaces slot ≡ Some after → FlagsChange e slot before after

marks_keep : (s t : State) (e : Event) → Marks s.spaces t.spaces → Keeps s t e
marks_keep s t e marks slot before after at_s at_t = grind (arith, same_Some)

without_keep : (s t : State) (e : Event) (gone : Slot → Bool) → t.spaces ≡ without s.spaces gone → Keeps s t e
without_keep s t e gone is slot before after at_s at_t = grind (arith, get-without, left, same_Some)

module _ (s : State) (e : Event) (w : IsWellFormed s) where
  all_keep : (t : State) → t.spaces ≡ s.spaces → Keeps s t e
  all_keep t is slot before after at_s at_t = grind (arith, same_Some, unmarked)

  protect_keeps : (page : ℕ) (write : Bool) → e.call ≡ call.Protect page write
      → Keeps s (after s e.pid (call.Protect page write)) e
  protect_keeps page write is slot before after_cell at_s at_t =
      grind (arith, same_cases, same_Some, get-inserted, get-inserted_other, unmarked)

  accept_keeps : (giver giver_page page : ℕ) → accept_refusal s e.pid giver giver_page page ≡ None
      → Marks s.spaces (after_accept s e.pid giver giver_page page).spaces
  accept_keeps giver giver_page page allowed slot c at =
      let may = may_accept s e.pid giver giver_page page allowed in
      let g = giver_mapped s e.pid giver giver_page w may.there in
      let right = offered s giver giver_page e.pid in
      let apart : slot ≢ at_page e.pid page = (λ is. let x : Some c ≡ None = sym at ∙ ap (map.get s.spaces) is
      ∙ may.none in cc) in (
        widen s e.pid giver giver_page page right w g.0 g.1 slot c,
        get_joined s e.pid giver giver_page page right w g.0 g.1 slot apart
            ∙ ap (option_map (widen s e.pid giver giver_page page right w g.0 g.1 slot)) at,
        wider (set.contains g.0.holders slot) (set.insert g.0.holders (at_page e.pid page)) c,
      )
    where
      wider : (b : Bool) (group : Set slot_order) (c : Cell) → Marked c (if b then with_holders c group else c)
      wider true group c = record { write = refl; may = refl; accessed = λ h. h; dirty = λ h. h }
      wider false group c = unmarked c

  after_keeps : (c : Call) → e.call ≡ c → completes (answer_of s e.pid c) ≡ true → Keeps s (after s e.pid c) e
  after_keeps (call.Load addr size) is h =
      let pages = touched addr size in
      let T : Spaces = with_pages s.spaces e.pid pages in
      marks_keep s (after_load s e.pid addr size) e (marks_through s.spaces T (all_accessed T e.pid pages)
      (marks_pages s.spaces e.pid pages) (marks_accessed T e.pid pages))
  after_keeps (call.Store addr size value) is h =
      let T : Spaces = with_pages s.spaces e.pid (touched addr size) in
      let bytes = bytes_of (byte_count size) value in
      marks_keep s (after_store s e.pid addr size value) e (marks_through s.spaces T (all_stored T e.pid addr bytes)
      (marks_pages s.spaces e.pid (touched addr size)) (marks_all_stored T e.pid addr bytes))
  after_keeps (call.Map page write) is h =
      marks_keep s (after_map s e.pid page write) e (marks_new s.spaces (at_page e.pid page)
      (fresh (at_page e.pid page) write) (may_map s e.pid page (not-refused (map_refusal s e.pid page) _ h)).none)
  after_keeps (call.Unmap page) is h = without_keep s (after s e.pid (call.Unmap page)) e (is_slot e.pid page) refl
  after_keeps (call.Protect page write) is h = protect_keeps page write is
  after_keeps (call.Accept giver giver_page page) is h = grind (arith, marks_keep, accept_keeps, not-refused)
  after_keeps (call.Fork quota) is h =
      let free = child_free s e.pid quota (may_fork s e.pid quota (not-refused (fork_refusal s e.pid quota) _ h)).spawn
      in
      marks_keep s (after_fork s e.pid quota) e (λ slot c at. (
        c,
        copied-other s.spaces e.pid (child_of s) slot (live_differ s slot.pid (child_of s) (w.owners slot c at) free)
            ∙ at,
        unmarked c,
      ))
  after_keeps call.Exit is h = without_keep s (after s e.pid call.Exit) e (is_of e.pid) refl
  after_keeps c is h = all_keep (after s e.pid c) refl

  next_keeps : Keeps s (next s e) e
  next_keeps = by_next (λ t. Keeps s t e) s e (all_keep s refl) (λ live h. after_keeps e.call refl h)

pub changes_are_rightful : ChangesAreRightful
changes_are_rightful s e slot before after w at_s at_t =
    let flags = next_keeps s e w slot before after at_s at_t in
    let rest = next_stays s e w slot (at_page (suc e.pid) 0) before after (inl (λ is. absurd (omega (arith, is)))) at_s
    at_t in
    record { may = rest.may; write = flags.write; marks = flags.marks; bytes = rest.bytes }
