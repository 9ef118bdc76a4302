-- A state with the bytes of frames in its cells: events that only take away leave these as they are, and a store
-- changes one frame's.
use Rattle.shootdowns.proofs.Prelude.{◌≡◌, ℕ, Bool, true, false, cond, List, refl, ap, sym, ◌∙◌, Option, Some, None, ◌⊎◌, not, option_map, same, same_map, same_or_not, get-map_values, is_some-map, frame_bytes, Slot, slot_order, Cell, Spaces, at_page, with_bytes, protected, without, is_slot, is_of, State, is_mapped, answer, answer_of, after, next, completes, Call, Event, Reply, fewer, get_gone, next-stays, next-goes, only_takes, arith, some_value}
use Rattle.std.specs.Prelude.{is_some}
use Rattle.page_words.specs.FiniteMap as map
use Rattle.process_table.specs.declared.causes.Cause.TheVariants as cause
use Rattle.kernel_calls.specs.declared.calls.Call.TheVariants as call
use Rattle.kernel_calls.specs.declared.calls.Reply.TheVariants as reply
use Rattle.shootdowns.proofs.Cells.{get_protected}

-- each cell has the bytes of its slot's frame
abbrev pub fill : (Slot → ℕ) → List ℕ → Slot → Cell → Cell
fill F bytes slot c = with_bytes c (frame_bytes bytes (F slot))

abbrev pub filled : (Slot → ℕ) → List ℕ → Spaces → Spaces
filled F bytes S = map.map_values (fill F bytes) S

abbrev pub filled_state : (Slot → ℕ) → List ℕ → State → State
filled_state F bytes s = record s { spaces = filled F bytes s.spaces }

-- a Protect that completes is of a mapped page
pub protects_mapped : (s : State) (p page : ℕ) → completes (answer_of s p (call.Protect page false)) ≡ true → is_mapped s (at_page p page) ≡ true
protects_mapped s p page done = grind arith

-- an event that completes is a live process's
pub completed : (s : State) (e : Event) → completes (answer s e) ≡ true → completes (answer_of s e.pid e.call) ≡ true
completed s e = grind arith

pub same_answer : (s t : State) (e : Event) → only_takes e.call ≡ true → t.book ≡ s.book → ((slot : Slot) → map.contains_key t.spaces slot ≡ map.contains_key s.spaces slot)
    → answer t e ≡ answer s e
same_answer s t e h book keys = grind arith

module _ (F : Slot → ℕ) (bytes : List ℕ) where
  pub get_filled : (S : Spaces) (r : Slot) → map.get (filled F bytes S) r ≡ option_map (fill F bytes r) (map.get S r)
  get_filled S r = get-map_values slot_order (fill F bytes) S r

  pub mapped_filled : (S : Spaces) (r : Slot) → map.contains_key (filled F bytes S) r ≡ map.contains_key S r
  mapped_filled S r = ap is_some (get_filled S r) ∙ is_some-map (fill F bytes r) (map.get S r)

  -- ---- Slots that go, and rights

  gone_filled : (S : Spaces) (gone : Slot → Bool) → without (filled F bytes S) gone ≡ filled F bytes (without S gone)
  gone_filled S gone = same_map _ _ (λ r.
      get_gone (filled F bytes S) gone r
      ∙ ap (λ (z : Option Cell). option_map (fewer gone) (cond (not (gone r)) z None)) (get_filled S r)
      ∙ by r (not (gone r)) (map.get S r)
      ∙ sym (get_filled (without S gone) r ∙ ap (option_map (fill F bytes r)) (get_gone S gone r)))
    where
      by : (r : Slot) (b : Bool) (z : Option Cell)
          → option_map (fewer gone) (cond b (option_map (fill F bytes r) z) None) ≡ option_map (fill F bytes r) (option_map (fewer gone) (cond b z None))
      by r x1 x2 = grind arith

  right_filled : (S : Spaces) (slot : Slot) (w : Bool) → is_some (map.get S slot) ≡ true
      → protected (filled F bytes S) slot w ≡ filled F bytes (protected S slot w)
  right_filled S slot w there = same_map _ _ (λ r.
      get_protected (filled F bytes S) slot (fill F bytes slot has.0) (get_filled S slot ∙ ap (option_map (fill F bytes slot)) has.1) w r
      ∙ ap (cond (same slot_order r slot) (Some (fill F bytes slot (record has.0 { write = w })))) (get_filled S r)
      ∙ by r (same_or_not slot_order r slot)
      ∙ sym (get_filled (protected S slot w) r ∙ ap (option_map (fill F bytes r)) (get_protected S slot has.0 has.1 w r)))
    where
      has : (c : Cell) × (map.get S slot ≡ Some c)
      has = some_value (map.get S slot) there

      by : (r : Slot) → ((r ≡ slot) × (same slot_order r slot ≡ true)) ⊎ (same slot_order r slot ≡ false)
          → cond (same slot_order r slot) (Some (fill F bytes slot (record has.0 { write = w }))) (option_map (fill F bytes r) (map.get S r))
          ≡ option_map (fill F bytes r) (cond (same slot_order r slot) (Some (record has.0 { write = w })) (map.get S r))
      by r x1 = grind arith

  -- ---- Events

  pub answer_filled : (s : State) (e : Event) → only_takes e.call ≡ true → answer (filled_state F bytes s) e ≡ answer s e
  answer_filled s e h = same_answer s (filled_state F bytes s) e h refl (mapped_filled s.spaces)

  after_filled : (s : State) (p : ℕ) (c : Call) → only_takes c ≡ true → completes (answer_of s p c) ≡ true
      → after (filled_state F bytes s) p c ≡ filled_state F bytes (after s p c)
  after_filled s p (call.Unmap page) h done = ap (λ (S : Spaces). record (after s p (call.Unmap page)) { spaces = S }) (gone_filled s.spaces (is_slot p page))
  after_filled s p (call.Protect page false) h done = ap (λ (S : Spaces). record s { spaces = S }) (right_filled s.spaces (at_page p page) false (protects_mapped s p page done))
  after_filled s p call.Exit h done = ap (λ (S : Spaces). record (after s p call.Exit) { spaces = S }) (gone_filled s.spaces (is_of p))
  after_filled s p _ h done = cc

  pub next_filled : (s : State) (e : Event) → only_takes e.call ≡ true → next (filled_state F bytes s) e ≡ filled_state F bytes (next s e)
  next_filled s e h = grind (arith, next-stays, answer_filled, next-goes, after_filled, completed)
