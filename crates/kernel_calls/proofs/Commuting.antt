-- Changes of two slots in either order, and groups that a store leaves.
use Rattle.kernel_calls.proofs.Prelude.{◌≡◌, ◌≢◌, ℕ, Bool, true, cond, List, ap, sym, ◌∙◌, arith, Option, Some, unwrap_or, same, Set, same-true, same_map, get-insert, get-map_values, same_cases, inl, inr, Slot, slot_order, Cell, Spaces, cell_or_fresh, fresh, set_bytes, stored, get-inserted, get-inserted_other}
use Rattle.page_words.specs.FiniteMap as map

-- one slot changes, by what stands there
abbrev pub at_slot : Slot → (Option Cell → Cell) → Spaces → Spaces
at_slot a f S = map.insert S a (f (map.get S a))

swap_cond : {X : Type 0} (A B : Bool) (x y g : X) → (A ≡ true → B ≡ true → ⊥) → cond A x (cond B y g) ≡ cond B y (cond A x g)
swap_cond A B x y g not = grind arith

module _ (a b : Slot) (apart : a ≢ b) where
  pub back : b ≢ a
  back is = apart (sym is)

  pub swap : (S : Spaces) (x y : Cell) → map.insert (map.insert S b y) a x ≡ map.insert (map.insert S a x) b y
  swap S x y = same_map _ _ (λ r.
      get-insert (map.insert S b y) a x r
      ∙ ap (cond (same slot_order r a) (Some x)) (get-insert S b y r)
      ∙ swap_cond (same slot_order r a) (same slot_order r b) (Some x) (Some y) (map.get S r)
      (λ u v. apart (sym (same-true slot_order r a u) ∙ same-true slot_order r b v))
      ∙ sym (get-insert (map.insert S a x) b y r ∙ ap (cond (same slot_order r b) (Some y)) (get-insert S a x r)))

  -- two slots change
  pub two_slots : (f g : Option Cell → Cell) (S : Spaces) → at_slot a f (at_slot b g S) ≡ at_slot b g (at_slot a f S)
  two_slots f g S = grind (arith, get-inserted_other, swap, back)

-- the group of a slot, or its own where it isn't mapped
abbrev pub group_at : Spaces → Slot → Set slot_order
group_at S x = (cell_or_fresh S x).holders

abbrev pub SameGroups : Spaces → Spaces → Type 0
SameGroups S T = (x : Slot) → group_at T x ≡ group_at S x

pub group_set : (S : Spaces) (h : Set slot_order) (ys : List ℕ) → SameGroups S (set_bytes S h ys)
group_set S h ys b = grind (arith, get-map_values)

pub group_stored : (S : Spaces) (b x : Slot) (at : ℕ) (ys : List ℕ) → group_at (stored S b at ys) x ≡ group_at S x
group_stored S b x at ys = elim (same_cases slot_order x b) [
  | inl here ↦
      ap (group_at (stored S b at ys)) here.0
      ∙ ap (λ (z : Option Cell). (unwrap_or z (fresh b true)).holders) (get-inserted (set_bytes S (group_at S b) _) b _)
      ∙ sym (ap (group_at S) here.0)
  | inr other ↦
      ap (λ (z : Option Cell). (unwrap_or z (fresh x true)).holders)
      (get-inserted_other (set_bytes S (group_at S b) _) b _ x other.0)
      ∙ group_set S (group_at S b) _ x
]
