-- The slots that become mapped.
use Rattle.kernel_calls.proofs.Prelude.{◌≡◌, ℕ, Bool, true, false, refl, sym, ap, ◌∙◌, arith, inl, inr, ◌⊎◌, if◌then◌else◌, IfSome, cases_eq, page_number, byte_count, second_page, touched, Size, same, get-map_values, is_some-map, same_cases, Slot, Cell, Spaces, at_page, cell_or_fresh, with_pages, with_holders, set_holders, without, is_slot, copied-other, touched-there, bytes_there, key-all_accessed, key-all_stored, left, get-without, State, is_mapped, child_of, offered, get-inserted_other, Tells, IsCovered, Maps, SlotsCome, answer, answer_of, after, completes, Call, Event}
use Rattle.kernel_calls.proofs.Decided.{next-stays, next-goes}
use Rattle.kernel_calls.proofs.Runs.{not-refused}
use Rattle.kernel_calls.proofs.Tellings.{completes_by_kind}
use Rattle.kernel_calls.proofs.Untouched.{caller_live}
use Rattle.page_words.specs.FiniteMap as map
use Rattle.page_words.specs.FiniteSet as set
use Rattle.kernel_calls.specs.declared.calls.Call.TheVariants as call
use Rattle.kernel_calls.specs.declared.calls.Reply.TheVariants as reply

insert_comes : (S : Spaces) (at : Slot) (c : Cell) (slot : Slot) → map.contains_key (map.insert S at c) slot ≡ true
    → (map.contains_key S slot ≡ true) ⊎ (slot ≡ at)
insert_comes S at c slot h = grind (arith, same_cases, get-inserted_other)

abbrev pub Touches : ℕ → Size → ℕ → Type 0
Touches address size page = (a : ℕ) × IsCovered address size a × (page_number a ≡ page)

pub first_touched : (address : ℕ) (size : Size) → Touches address size (page_number address)
first_touched address size = grind arith

pub second_touched : (address : ℕ) (size : Size) → IfSome (second_page address size) (Touches address size)
second_touched address size = grind arith

pages_come : (S : Spaces) (q address : ℕ) (size : Size) (slot : Slot)
    → map.contains_key (with_pages S q (touched address size)) slot ≡ true
    → (map.contains_key S slot ≡ true) ⊎ ((slot.pid ≡ q) × Touches address size slot.page)
pages_come S q address size slot = grind (arith, second_touched, insert_comes, first_touched)

module _ (s : State) (e : Event) (slot : Slot) (was : is_mapped s slot ≡ false) where
  abbrev Comes : Call → Type 0
  Comes c = ((slot.pid ≡ e.pid) × Maps c slot.page) ⊎ (answer s e ≡ reply.Child slot.pid)

  same_slots : (S : Spaces) → map.contains_key S slot ≡ map.contains_key s.spaces slot → map.contains_key S slot ≡ true → ⊥
  same_slots S same h = let a = same in let b = was in let c = h in cc

  without_comes : (gone : Slot → Bool) → map.contains_key (without s.spaces gone) slot ≡ true → ⊥
  without_comes gone h = grind (arith, left, get-without, is_some-map)

  own_page : (page : ℕ) → slot ≡ at_page e.pid page → (slot.pid ≡ e.pid) × (page ≡ slot.page)
  own_page page is = (ap (λ (x : Slot). x.pid) is, sym (ap (λ (x : Slot). x.page) is))

  comes : (c : Call) → completes (answer_of s e.pid c) ≡ true → Tells s e.pid c (answer s e)
      → (answer s e ≡ answer_of s e.pid c) → map.contains_key (after s e.pid c).spaces slot ≡ true → Comes c
  comes (call.Load address size) h told is now = grind (arith, pages_come, key-all_accessed, touched-there)
  comes (call.Store address size value) h told is now = elim (pages_come s.spaces e.pid address size slot
      (sym (key-all_stored (with_pages s.spaces e.pid (touched address size)) e.pid address (byte_count size) value
      (bytes_there (with_pages s.spaces e.pid (touched address size)) e.pid address size
      (touched-there s.spaces e.pid address size)) slot) ∙ now)) [
        | inl before ↦ absurd (same_slots s.spaces refl before)
        | inr came ↦ inl came
      ]
  comes (call.Map page write) h told is now = grind (arith, insert_comes)
  comes (call.Unmap page) h told is now = absurd (without_comes (is_slot e.pid page) now)
  comes (call.Protect page write) h told is now = grind (arith, insert_comes)
  comes (call.Accept giver giver_page page) h told is now =
      let c : Cell = cell_or_fresh s.spaces (at_page giver giver_page) in
      let holders = set.insert c.holders (at_page e.pid page) in
      let f : Slot → Cell → Cell = (λ r d. if set.contains c.holders r then with_holders d holders else d) in
      let right = offered s giver giver_page e.pid in
      elim (insert_comes (set_holders s.spaces c.holders holders) (at_page e.pid page) (record {
        write = right;
        may = right;
        accessed = false;
        dirty = false;
        bytes = c.bytes;
        holders = holders;
      }) slot now) [
        | inl before ↦ grind (arith, (same_slots s.spaces refl (grind (arith, get-map_values))))
        | inr here ↦ inl (own_page page here)
      ]
  comes (call.Fork quota) h told is now = grind (arith, (cases_eq slot.pid (child_of s)), not-refused, copied-other)
  comes _ h told is now = grind (arith, without_comes)

pub slots_come : SlotsCome
slots_come s e slot was now = grind (arith, caller_live, comes, completes_by_kind, next-goes, next-stays)
