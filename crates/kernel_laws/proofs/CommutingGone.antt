-- Slots that go and accesses of another process, in either order.
use Rattle.kernel_laws.proofs.Prelude.{◌≡◌, ℕ, Bool, true, false, not, cond, ◌&&◌, List, refl, ap, sym, ◌∙◌, subst, Option, Some, None, arith, ◌⊎◌, option_map, same, Set, same_map, same_set, same_or_not, get-insert, contains-retain, Slot, slot_order, Cell, Spaces, at_page, cell_or_fresh, with_holders, set_bytes, write_at, stored, without, at_slot, group_at, group_set, fewer, get_gone, bytes_gone}
use Rattle.kernel_laws.proofs.Commuting.{Commutes}
use Rattle.page_words.specs.FiniteMap as map
use Rattle.page_words.specs.FiniteSet as set

-- none of the slots that go is in a group
abbrev pub NoneOf : (Slot → Bool) → Set slot_order → Type 0
NoneOf gone g = (x : Slot) → set.contains g x ≡ true → gone x ≡ false

kept_all : (gone : Slot → Bool) (g : Set slot_order) → NoneOf gone g → set.retain g (λ x. not (gone x)) ≡ g
kept_all gone g none = same_set _ _ (λ x. contains-retain g (λ y. not (gone y)) x ∙ by x (set.contains g x) refl)
  where
    by : (x : Slot) (b : Bool) → set.contains g x ≡ b → (b && not (gone x)) ≡ b
    by x b is = grind arith

fewer_same : (gone : Slot → Bool) (c : Cell) → NoneOf gone c.holders → fewer gone c ≡ c
fewer_same gone c none = ap (with_holders c) (kept_all gone c.holders none)

module _ (gone : Slot → Bool) (b : Slot) (stays : gone b ≡ false) where
  -- a slot that stays is changed
  pub gone_beside : (g : Option Cell → Cell) (S : Spaces) → NoneOf gone (group_at S b) → NoneOf gone (g (map.get S b)).holders
      → without (at_slot b g S) gone ≡ at_slot b g (without S gone)
  gone_beside g S none new = same_map _ _ (λ r.
      get_gone (at_slot b g S) gone r
      ∙ ap (λ (z : Option Cell). option_map (fewer gone) (cond (not (gone r)) z None)) (get-insert S b (g (map.get S b)) r)
      ∙ by r (same_or_not slot_order r b)
      ∙ sym (get-insert (without S gone) b (g (map.get (without S gone) b)) r
      ∙ ap (λ (z : Option Cell). cond (same slot_order r b) (Some (g z)) (map.get (without S gone) r)) (there (map.get S b) refl)
      ∙ ap (cond (same slot_order r b) (Some (g (map.get S b)))) (get_gone S gone r)))
    where
      there : (z : Option Cell) → map.get S b ≡ z → map.get (without S gone) b ≡ map.get S b
      there z is = grind (arith, get_gone, fewer_same)

      by : (r : Slot) → ((r ≡ b) × (same slot_order r b ≡ true)) ⊎ (same slot_order r b ≡ false)
          → option_map (fewer gone) (cond (not (gone r)) (cond (same slot_order r b) (Some (g (map.get S b))) (map.get S r)) None)
          ≡ cond (same slot_order r b) (Some (g (map.get S b))) (option_map (fewer gone) (cond (not (gone r)) (map.get S r) None))
      by r h = grind (arith, fewer_same)

  cell_beside : (S : Spaces) → NoneOf gone (group_at S b) → cell_or_fresh (without S gone) b ≡ cell_or_fresh S b
  cell_beside S none = grind (arith, get_gone, fewer_same)

stored_gone : (gone : Slot → Bool) (b : Slot) → gone b ≡ false → (S : Spaces) (at : ℕ) (ys : List ℕ)
    → NoneOf gone (group_at S b) → without (stored S b at ys) gone ≡ stored (without S gone) b at ys
stored_gone gone b stays S at ys none =
    gone_beside gone b stays (λ _. written) (set_bytes S (group_at S b) new)
    (subst (NoneOf gone) (sym (group_set S (group_at S b) new b)) none) none
    ∙ ap (λ (T : Spaces). map.insert T b written) (bytes_gone S gone (group_at S b) new)
    ∙ ap (λ (c : Cell). map.insert (set_bytes (without S gone) c.holders (write_at c.bytes at ys)) b
    (record c { bytes = write_at c.bytes at ys; accessed = true; dirty = true })) (sym (cell_beside gone b stays S none))
  where
    new : List ℕ
    new = write_at (cell_or_fresh S b).bytes at ys

    written : Cell
    written = record (cell_or_fresh S b) { bytes = new; accessed = true; dirty = true }

-- ---- Whole accesses

-- no slot that goes is in a group of a process
abbrev pub NoneWith : (Slot → Bool) → ℕ → Spaces → Type 0
NoneWith gone q S = (n : ℕ) → NoneOf gone (group_at S (at_page q n))

-- then that they go commutes with its accesses
pub gone_commutes : (gone : Slot → Bool) (q : ℕ) → ((n : ℕ) → gone (at_page q n) ≡ false)
    → Commutes q (λ S. without S gone) (NoneWith gone q) (λ _ _. Unit {0})
gone_commutes gone q stays = record {
  good = λ S T same none n. subst (NoneOf gone) (sym (same (at_page q n))) (none n);
  free = λ S T x same free. tt;
  slots = λ n f S none kept. gone_beside gone (at_page q n) (stays n) f S (none n) (subst (NoneOf gone) (sym kept) (none n));
  stores = λ n at ys S none free. stored_gone gone (at_page q n) (stays n) S at ys (none n);
}
