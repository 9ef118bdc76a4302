-- No call clears a flag of a slot that stays mapped, except by a change of the right to write.
use Rattle.kernel_calls.proofs.Prelude.{◌≡◌, ℕ, ◌+◌, Bool, true, false, not, cond, List, [], ◌∷◌, refl, ap, sym, ◌∙◌, inl, inr, Option, Some, None, arith, option_map, offset_number, Set, get-insert, same_or_not, get-map_values, Slot, slot_order, Cell, Spaces, at_page, slot_at, is_slot, is_of, cell_or_fresh, with_bytes, with_holders, set_bytes, set_holders, accessed, stored, write_at, with_page, with_pages, all_accessed, all_stored, protected, joined, without, copied, cases_eq, copied-other, State, IsWellFormed, without-stays, may_map, may_accept, no_page, fork_free, answer_of, after, completes, Call}
use Rattle.kernel_calls.proofs.Runs.{not-refused}
use Rattle.page_words.specs.FiniteMap as map
use Rattle.page_words.specs.FiniteSet as set
use Rattle.kernel_calls.specs.declared.calls.Call.TheVariants as call

-- a flag that an access never clears
pub record IsFlag (flag : Cell → Bool) : Type 0 where
  pub accessed : (c : Cell) → flag c ≡ true → flag (record c { accessed = true }) ≡ true
  pub stored : (c : Cell) (bytes : List ℕ) → flag c ≡ true
      → flag (record c { bytes = bytes; accessed = true; dirty = true }) ≡ true
  pub bytes : (c : Cell) (bytes : List ℕ) → flag (with_bytes c bytes) ≡ flag c
  pub holders : (c : Cell) (holders : Set slot_order) → flag (with_holders c holders) ≡ flag c

pub right_is_flag : IsFlag (λ c. c.write)
right_is_flag = record { accessed = λ c h. h; stored = λ c b h. h; bytes = λ c b. refl; holders = λ c g. refl }

pub accessed_is_flag : IsFlag (λ c. c.accessed)
accessed_is_flag = record { accessed = λ c h. refl; stored = λ c b h. refl; bytes = λ c b. refl; holders = λ c g. refl }

pub dirty_is_flag : IsFlag (λ c. c.dirty)
dirty_is_flag = record { accessed = λ c h. h; stored = λ c b h. refl; bytes = λ c b. refl; holders = λ c g. refl }

-- a slot is mapped, with that flag
abbrev pub has : (Cell → Bool) → Option Cell → Bool
has flag None = false
has flag (Some c) = flag c

module _ (flag : Cell → Bool) (F : IsFlag flag) where
  -- each slot that is mapped with the flag is so afterwards
  abbrev pub Keeps : Spaces → Spaces → Type 0
  Keeps S T = (q : Slot) → has flag (map.get S q) ≡ true → has flag (map.get T q) ≡ true

  keeps_insert : (S : Spaces) (slot : Slot) (new : Cell) → (has flag (map.get S slot) ≡ true → flag new ≡ true)
      → Keeps S (map.insert S slot new)
  keeps_insert S slot new kept q h =
      ap (has flag) (get-insert S slot new q)
      ∙ elim (same_or_not slot_order q slot) [
        | inl same ↦ grind arith
        | inr other ↦ ap (λ b. has flag (cond b (Some new) (map.get S q))) other ∙ h
      ]

  has_map : (f : Cell → Cell) → ((c : Cell) → flag (f c) ≡ flag c) → (x : Option Cell)
      → has flag (option_map f x) ≡ has flag x
  has_map f same x = grind arith

  has_bytes : (S : Spaces) (group : Set slot_order) (bytes : List ℕ) (q : Slot)
      → has flag (map.get (set_bytes S group bytes) q) ≡ has flag (map.get S q)
  has_bytes S group bytes = grind (arith, get-map_values, has_map)

  has_holders : (S : Spaces) (group holders : Set slot_order) (q : Slot)
      → has flag (map.get (set_holders S group holders) q) ≡ has flag (map.get S q)
  has_holders S group holders = grind (arith, get-map_values, has_map)

  -- the cell of a slot with the flag has it
  pub own : (S : Spaces) (slot : Slot) → has flag (map.get S slot) ≡ true → flag (cell_or_fresh S slot) ≡ true
  own S slot h = grind arith

  keeps_accessed : (S : Spaces) (slot : Slot) → Keeps S (accessed S slot)
  keeps_accessed S slot = keeps_insert S slot _ (λ h. F.accessed (cell_or_fresh S slot) (own S slot h))

  keeps_stored : (S : Spaces) (slot : Slot) (at : ℕ) (new : List ℕ) → Keeps S (stored S slot at new)
  keeps_stored S slot at new q h =
      let cell = cell_or_fresh S slot in
      let bytes = write_at cell.bytes at new in
      let S1 = set_bytes S cell.holders bytes in
      keeps_insert S1 slot (record cell { bytes = bytes; accessed = true; dirty = true })
      (λ k. F.stored cell bytes (own S slot (sym (has_bytes S cell.holders bytes slot) ∙ k))) q
      (has_bytes S cell.holders bytes q ∙ h)

  -- a slot that isn't mapped has no flag to lose
  keeps_new : (S : Spaces) (slot : Slot) (new : Cell) → map.get S slot ≡ None → Keeps S (map.insert S slot new)
  keeps_new S slot new none = grind (arith, keeps_insert)

  keeps_page : (S : Spaces) (p page : ℕ) → Keeps S (with_page S p page)
  keeps_page S p page q h = grind (arith, keeps_new)

  keeps_pages : (S : Spaces) (p : ℕ) (pages : List ℕ) → Keeps S (with_pages S p pages)
  keeps_pages S p [] q h = h
  keeps_pages S p (page ∷ pages) q h = keeps_pages (with_page S p page) p pages q (keeps_page S p page q h)

  keeps_all_accessed : (S : Spaces) (p : ℕ) (pages : List ℕ) → Keeps S (all_accessed S p pages)
  keeps_all_accessed S p [] q h = h
  keeps_all_accessed S p (page ∷ pages) q h = keeps_all_accessed (accessed S (at_page p page)) p pages q
      (keeps_accessed S (at_page p page) q h)

  pub keeps_all_stored : (S : Spaces) (p address : ℕ) (bytes : List ℕ) → Keeps S (all_stored S p address bytes)
  keeps_all_stored S p address [] q h = h
  keeps_all_stored S p address (byte ∷ bytes) q h =
      keeps_all_stored (stored S (slot_at p address) (offset_number address) (byte ∷ [])) p (address + 1) bytes q
      (keeps_stored S (slot_at p address) (offset_number address) (byte ∷ []) q h)

  keeps_joined : (S : Spaces) (giver slot : Slot) (right : Bool) → map.get S slot ≡ None
      → Keeps S (joined S giver slot right)
  keeps_joined S giver slot right none q h =
      let cell = cell_or_fresh S giver in
      let holders = set.insert cell.holders slot in
      let S1 = set_holders S cell.holders holders in
      keeps_insert S1 slot _ (λ k. absurd (let e : false ≡ true =
      sym (has_holders S cell.holders holders slot ∙ ap (has flag) none) ∙ k in cc)) q
      (has_holders S cell.holders holders q ∙ h)

  keeps_without : (S : Spaces) (gone : Slot → Bool) (q : Slot) → gone q ≡ false → has flag (map.get S q) ≡ true
      → has flag (map.get (without S gone) q) ≡ true
  keeps_without S gone q stays h = by (map.get S q) refl h
    where
      by : (x : Option Cell) → map.get S q ≡ x → has flag x ≡ true → has flag (map.get (without S gone) q) ≡ true
      by None is k = cc
      by (Some c) is k = ap (has flag) (without-stays S gone q c is stays)
          ∙ F.holders c (set.retain c.holders (λ s. not (gone s))) ∙ k

  keeps_copied : (S : Spaces) (from to : ℕ) → ((page : ℕ) → map.get S (at_page to page) ≡ None)
      → Keeps S (copied S from to)
  keeps_copied S from to empty q h = elim (cases_eq q.pid to) [
    | inl same ↦ absurd (
        let here : q ≡ at_page to q.page = (λ i. record { pid = same i; page = q.page }) in
        let k : false ≡ true = sym (ap (has flag) (ap (map.get S) here ∙ empty q.page)) ∙ h in
        cc)
    | inr other ↦ ap (has flag) (copied-other S from to q other) ∙ h
  ]

  keeps_protected : (S : Spaces) (slot : Slot) (write : Bool) (q : Slot)
      → (q ≡ slot → flag (record (cell_or_fresh S slot) { write = write }) ≡ true) → has flag (map.get S q) ≡ true
      → has flag (map.get (protected S slot write) q) ≡ true
  keeps_protected S slot write q kept h = grind (arith, get-insert, same_or_not)

  -- a slot that a call neither takes away nor sets the right of
  abbrev pub Spared : State → ℕ → Call → Slot → Type 0
  Spared s p (call.Unmap page) q = is_slot p page q ≡ false
  Spared s p (call.Protect page write) q = q ≡ at_page p page
      → flag (record (cell_or_fresh s.spaces (at_page p page)) { write = write }) ≡ true
  Spared s p call.Exit q = is_of p q ≡ false
  Spared s p _ q = Unit {0}

  -- keeps its flag, where the call is not refused
  pub keeps_call : (s : State) (p : ℕ) (c : Call) (q : Slot) → IsWellFormed s → completes (answer_of s p c) ≡ true
      → Spared s p c q
      → has flag (map.get s.spaces q) ≡ true → has flag (map.get (after s p c).spaces q) ≡ true
  keeps_call s p (call.Accept giver giver_page page) q w goes spared h =
      grind (arith, keeps_joined, may_accept, not-refused)
  keeps_call s p _ q w goes spared h =
      grind (
        arith,
        keeps_all_accessed,
        keeps_pages,
        keeps_all_stored,
        keeps_new,
        may_map,
        not-refused,
        keeps_without,
        keeps_protected,
        keeps_copied,
        no_page,
        fork_free,
      )
