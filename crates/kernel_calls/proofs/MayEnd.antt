-- Beyond the user range no page is lazy, and none takes stores.
use Rattle.kernel_calls.proofs.Prelude.{◌≡◌, ◌&&◌, ℕ, Bool, true, false, not, refl, arith, Option, Some, None, is_some, unwrap_or, Cell, fresh, nat_tests, IsUserPage, slot_number, is_user_slot, is_lazy_at, takes_stores, at_page, State, View, IsWellFormed, Image, place_at}
use Rattle.page_words.specs.FiniteMap as map

pub no_place : (v : View) (p page : ℕ) → place_at v p page ≡ None → IsUserPage page → ⊥
no_place v p page none user = grind (arith, nat_tests)

outside_slot : (page : ℕ) → (IsUserPage page → ⊥) → is_user_slot (slot_number page) ≡ false
outside_slot page out = grind (arith, nat_tests)

pub outside_lazy : (image : Image) (p page : ℕ) → (IsUserPage page → ⊥) → is_lazy_at image (at_page p page) ≡ false
outside_lazy image p page out = grind (arith, outside_slot)

pub outside_takes : (s : State) (image : Image) (p page : ℕ) → IsWellFormed s → (IsUserPage page → ⊥) → takes_stores s.spaces image (at_page p page) ≡ false
outside_takes s image p page well out = by (map.get s.spaces (at_page p page)) refl
  where
    by : (x : Option Cell) → map.get s.spaces (at_page p page) ≡ x
        → (is_some x && ((unwrap_or x (fresh (at_page p page) true)).write && not (is_lazy_at image (at_page p page)))) ≡ false
    by None is = refl
    by (Some c) is = absurd (out (well.cells (at_page p page) c is).user)
