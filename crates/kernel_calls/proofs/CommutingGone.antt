-- Slots that go, and bytes of a group that are written, in either order.
use Rattle.kernel_calls.proofs.Prelude.{◌≡◌, ℕ, Bool, not, cond, List, ap, sym, ◌∙◌, Option, None, arith, if◌then◌else◌, option_map, Set, same_map, get-retain_keys, get-map_values, Slot, slot_order, Cell, Spaces, with_bytes, with_holders, set_bytes, without}
use Rattle.page_words.specs.FiniteMap as map
use Rattle.page_words.specs.FiniteSet as set

-- a cell without them
abbrev pub fewer : (Slot → Bool) → Cell → Cell
fewer gone c = with_holders c (set.retain c.holders (λ x. not (gone x)))

pub get_gone : (S : Spaces) (gone : Slot → Bool) (x : Slot)
    → map.get (without S gone) x ≡ option_map (fewer gone) (cond (not (gone x)) (map.get S x) None)
get_gone S gone x =
    get-map_values slot_order (λ _ (c : Cell). fewer gone c) (map.retain_keys S (λ s. not (gone s))) x
    ∙ ap (option_map (fewer gone)) (get-retain_keys S (λ s. not (gone s)) x)

-- bytes of a group
pub bytes_gone : (S : Spaces) (gone : Slot → Bool) (h : Set slot_order) (ys : List ℕ)
    → without (set_bytes S h ys) gone ≡ set_bytes (without S gone) h ys
bytes_gone S gone h ys = same_map _ _ (λ r.
    get_gone (set_bytes S h ys) gone r
    ∙ ap (λ (z : Option Cell). option_map (fewer gone) (cond (not (gone r)) z None))
    (get-map_values slot_order (λ k (c : Cell). if set.contains h k then with_bytes c ys else c) S r)
    ∙ by (not (gone r)) (set.contains h r) (map.get S r)
    ∙ sym (get-map_values slot_order (λ k (c : Cell). if set.contains h k then with_bytes c ys else c) (without S gone) r
    ∙ ap (option_map (λ (c : Cell). if set.contains h r then with_bytes c ys else c)) (get_gone S gone r)))
  where
    by : (j k : Bool) (z : Option Cell)
        → option_map (fewer gone) (cond j (option_map (λ (c : Cell). if k then with_bytes c ys else c) z) None)
        ≡ option_map (λ (c : Cell). if k then with_bytes c ys else c) (option_map (fewer gone) (cond j z None))
    by j k z = grind arith
