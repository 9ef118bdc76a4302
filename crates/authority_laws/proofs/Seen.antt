-- What is left of offers, and of a process that exits.
use Rattle.authority_laws.proofs.Prelude.{◌≡◌, ℕ, Bool, true, arith, get-retain_keys, some_value, given, number_of_children, number-remove, OfferKey, Offers, State, is_live, given_none}
use Rattle.page_words.specs.FiniteMap as map

-- offers that are kept or dropped by their keys
pub kept_offers : (O P : Offers) (stay : OfferKey → Bool) (key : OfferKey) → map.get O key ≡ map.get P key
    → map.get (map.retain_keys O stay) key ≡ map.get (map.retain_keys P stay) key
kept_offers O P stay key h = grind (arith, get-retain_keys)

pub kept_key : (O : Offers) (stay : OfferKey → Bool) (key : OfferKey)
    → map.contains_key (map.retain_keys O stay) key ≡ true → map.contains_key O key ≡ true
kept_key O stay key h = grind (arith, get-retain_keys)

-- ---- An exit: nothing of it is left

module _ (s : State) (q : ℕ) (live : is_live s q ≡ true) (childless : number_of_children s.book q ≡ 0) where
  pub exit_children : number_of_children (map.remove s.book q) q ≡ 0
  exit_children = let m = some_value (map.get s.book q) live in let a = number-remove s.book q m.0 m.1 q in let b =
      childless in omega (arith, a, b)

  pub exit_given : given (map.remove s.book q) q ≡ 0
  exit_given = given_none (map.remove s.book q) q exit_children
