-- The flags of a slot that stays mapped change only if its process accesses or protects it.
use Rattle.kernel_laws.proofs.Prelude.{◌≡◌, ℕ, zero, suc, ◌+◌, ◌<◌, ◌≤◌, ◌/◌, ◌%◌, Bool, true, false, List, [], ◌∷◌, refl, sym, ap, ◌∙◌, Option, Some, None, arith, inl, inr, ◌⊎◌, if◌then◌else◌, IfSome, option_map, page_number, offset_number, second_page, page_and, touched, Size, Set, get-map_values, some_value, same_cases, Slot, slot_order, Cell, Spaces, at_page, slot_at, cell_or_fresh, bytes_of, with_page, with_pages, with_bytes, with_holders, set_holders, set_bytes, write_at, accessed, stored, all_accessed, all_stored, without, copied-other, with_page-keeps, left, get-without, State, is_mapped, child_of, fork_refusal, offered, IsWellFormed, fork_free, live_differ, get-inserted_other, Flags, flags_of, flags_at, Maps, FlagsChange, answer, answer_of, after, next, completes, Call, Event, next-stays, next-goes, Touches, first_touched, second_touched, not-refused, caller_live}
use Rattle.page_words.specs.FiniteMap as map
use Rattle.page_words.specs.FiniteSet as set
use Rattle.kernel_calls.specs.declared.calls.Call.TheVariants as call

abbrev flags_in : Spaces → Slot → Option Flags
flags_in S slot = option_map flags_of (map.get S slot)

insert_flags : (S : Spaces) (at : Slot) (c : Cell) (slot : Slot)
    → (flags_in (map.insert S at c) slot ≡ flags_in S slot) ⊎ (slot ≡ at)
insert_flags S at c slot = grind (arith, same_cases, get-inserted_other)

changed_flags : (S : Spaces) (f : Slot → Cell → Cell) (slot : Slot) → ((c : Cell) → flags_of (f slot c) ≡ flags_of c)
    → flags_in (map.map_values f S) slot ≡ flags_in S slot
changed_flags S f slot same = grind (arith, get-map_values)

-- ---- Accesses

page_flags : (S : Spaces) (q page : ℕ) (slot : Slot) → map.contains_key S slot ≡ true
    → flags_in (with_page S q page) slot ≡ flags_in S slot
page_flags S q page slot there = grind (arith, insert_flags)

pages_flags : (S : Spaces) (q : ℕ) (pages : List ℕ) (slot : Slot) → map.contains_key S slot ≡ true
    → flags_in (with_pages S q pages) slot ≡ flags_in S slot
pages_flags S q [] slot there = refl
pages_flags S q (page ∷ pages) slot there =
    pages_flags (with_page S q page) q pages slot (with_page-keeps S q page slot there)
    ∙ page_flags S q page slot there

-- a slot of q whose page is touched
abbrev IsTouched : ℕ → ℕ → Size → Slot → Type 0
IsTouched q address size slot = (slot.pid ≡ q) × Touches address size slot.page

touched_at : (q address : ℕ) (size : Size) (slot : Slot) (page : ℕ) → Touches address size page → slot ≡ at_page q page
    → IsTouched q address size slot
touched_at q address size slot page x is = grind arith

accessed_flags : (T : Spaces) (q address : ℕ) (size : Size) (slot : Slot)
    → (flags_in (all_accessed T q (touched address size)) slot ≡ flags_in T slot) ⊎ IsTouched q address size slot
accessed_flags T q address size slot = by (second_page address size) (second_touched address size)
  where
    one : (S : Spaces) (page : ℕ) → Touches address size page
        → (flags_in (accessed S (at_page q page)) slot ≡ flags_in S slot) ⊎ IsTouched q address size slot
    one S page x = grind (arith, insert_flags, touched_at)

    by : (x : Option ℕ) → IfSome x (Touches address size)
        → (flags_in (all_accessed T q (page_and (page_number address) x)) slot ≡ flags_in T slot)
        ⊎ IsTouched q address size slot
    by None second = one T (page_number address) (first_touched address size)
    by (Some page) second = elim (one T (page_number address) (first_touched address size)) [
      | inl first ↦ elim (one (accessed T (at_page q (page_number address))) page second) [
        | inl same ↦ inl (same ∙ first)
        | inr is ↦ inr is
      ]
      | inr is ↦ inr is
    ]

abbrev Reached : ℕ → ℕ → ℕ → Slot → Type 0
Reached q addr k slot = (b : ℕ) × (addr ≤ b) × (b < addr + k) × (slot ≡ slot_at q b)

stored_flags : (S : Spaces) (q addr k v : ℕ) (slot : Slot)
    → (flags_in (all_stored S q addr (bytes_of k v)) slot ≡ flags_in S slot) ⊎ Reached q addr k slot
stored_flags S q addr zero v slot = inl refl
stored_flags S q addr (suc k) v slot = elim one [
  | inl first ↦ elim (stored_flags (stored S (slot_at q addr) (offset_number addr) (v % 256 ∷ [])) q (addr + 1) k
      (v / 256) slot) [
        | inl same ↦ inl (same ∙ first)
        | inr r ↦ inr (let low = r.1 in let high = r.2 in (r.0, omega (arith, low), omega (arith, high), r.3))
      ]
  | inr is ↦ inr (addr, omega arith, omega arith, is)
]
  where
    either : (b : Bool) (c : Cell) (bytes : List ℕ) → flags_of (if b then with_bytes c bytes else c) ≡ flags_of c
    either true c bytes = refl
    either false c bytes = refl

    one : (flags_in (stored S (slot_at q addr) (offset_number addr) (v % 256 ∷ [])) slot ≡ flags_in S slot)
        ⊎ (slot ≡ slot_at q addr)
    one =
        let c : Cell = cell_or_fresh S (slot_at q addr) in
        let bytes : List ℕ = write_at c.bytes (offset_number addr) (v % 256 ∷ []) in
        let f : Slot → Cell → Cell = (λ r d. if set.contains c.holders r then with_bytes d bytes else d) in
        elim (insert_flags (set_bytes S c.holders bytes) (slot_at q addr)
        (record c { bytes = bytes; accessed = true; dirty = true }) slot) [
          | inl same ↦ inl (same ∙ changed_flags S f slot (λ d. either (set.contains c.holders slot) d bytes))
          | inr is ↦ inr is
        ]

-- ---- By call

module _ (s : State) (e : Event) (slot : Slot) (w : IsWellFormed s) (was : is_mapped s slot ≡ true) where
  abbrev Changed : Call → Type 0
  Changed c = (slot.pid ≡ e.pid) × (Maps c slot.page ⊎ ((write : Bool) × (c ≡ call.Protect slot.page write)))

  abbrev Stays : Call → Type 0
  Stays c = (flags_at (after s e.pid c) slot ≡ flags_at s slot) ⊎ Changed c

  without_flags : (gone : Slot → Bool) → map.contains_key (without s.spaces gone) slot ≡ true
      → flags_in (without s.spaces gone) slot ≡ flags_in s.spaces slot
  without_flags gone now = grind (arith, left, get-without)

  flags_by : (c : Call) → completes (answer_of s e.pid c) ≡ true
      → map.contains_key (after s e.pid c).spaces slot ≡ true → Stays c
  flags_by (call.Accept giver giver_page page) h now =
      let c : Cell = cell_or_fresh s.spaces (at_page giver giver_page) in
      let holders = set.insert c.holders (at_page e.pid page) in
      let f : Slot → Cell → Cell = (λ r d. if set.contains c.holders r then with_holders d holders else d) in
      let right = offered s giver giver_page e.pid in
      elim (insert_flags (set_holders s.spaces c.holders holders) (at_page e.pid page) (record {
        write = right;
        may = right;
        accessed = false;
        dirty = false;
        bytes = c.bytes;
        holders = holders;
      }) slot) [
        | inl same ↦ inl (same ∙ changed_flags s.spaces f slot (λ d. either (set.contains c.holders slot) d holders))
        | inr is ↦ inr (ap (λ (x : Slot). x.pid) is, inl (sym (ap (λ (x : Slot). x.page) is)))
      ]
    where
      either : (b : Bool) (d : Cell) (group : Set slot_order) → flags_of (if b then with_holders d group else d) ≡ flags_of d
      either true d group = refl
      either false d group = refl
  flags_by (call.Fork quota) h now =
      let c = some_value (map.get s.spaces slot) was in
      let free = fork_free s e.pid quota (not-refused (fork_refusal s e.pid quota) _ h) in
      inl (ap (option_map flags_of) (copied-other s.spaces e.pid (child_of s) slot
      (live_differ s slot.pid (child_of s) (w.owners slot c.0 c.1) free)))
  flags_by _ h now = grind (arith, accessed_flags, pages_flags, stored_flags, insert_flags, without_flags)

pub flags_change : FlagsChange
flags_change s e slot w was now = by (completes (answer s e)) refl
  where
    by : (b : Bool) → completes (answer s e) ≡ b → (flags_at (next s e) slot ≡ flags_at s slot)
        ⊎ ((slot.pid ≡ e.pid) × (Maps e.call slot.page ⊎ ((write : Bool) × (e.call ≡ call.Protect slot.page write))))
    by true h = grind (arith, next-goes, flags_by, caller_live)
    by false h = inl (ap (λ (t : State). flags_at t slot) (next-stays s e h))
