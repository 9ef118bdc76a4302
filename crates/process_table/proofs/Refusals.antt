-- What follows where a call is not refused.
use Rattle.process_table.proofs.Prelude.{◌≡◌, ◌≢◌, ℕ, ◌+◌, ◌<◌, Bool, true, false, [], ◌∷◌, sym, ap, ◌∙◌, Option, Some, None, Ok, Err, arith, is_some, if◌then◌else◌, IsOk, is_user_page, fresh, cell_or_fresh, cost, need, at_page, cost-insert, cost-joined, offer_key, pending, State, is_live, is_mapped, overdrawn, map_refusal, unmap_refusal, protect_refusal, offer_refusal, accept_refusal, Cause, NoProcess, Mapped, Quota, no_value, first_cause, number_unless, done_unless, map_answer, accept_answer, not-false, eqb-false}
use Rattle.page_words.specs.FiniteMap as map

choice : (b : Bool) (c : Cause) (y : Option Cause) → (if b then Some c else y) ≡ None → (b ≡ false) × (y ≡ None)
choice b c y h = grind arith

-- a page may be mapped: what it tells
pub record MayMap (s : State) (p page : ℕ) : Type 0 where
  pub user : is_user_page page ≡ true
  pub none : map.get s.spaces (at_page p page) ≡ None
  pub room : overdrawn s p (page ∷ []) ≡ false

pub may_map : (s : State) (p page : ℕ) → map_refusal s p page ≡ None → MayMap s p page
may_map s p page h = grind (arith, not-false, no_value)

-- a page may be unmapped: it is mapped
pub may_unmap : (s : State) (p page : ℕ) → unmap_refusal s p page ≡ None → is_some (map.get s.spaces (at_page p page)) ≡ true
may_unmap s p page h = grind (arith, not-false)

-- a page's right may be set: what it tells
pub record MayProtect (s : State) (p page : ℕ) (write : Bool) : Type 0 where
  pub user : is_user_page page ≡ true
  pub mapped : is_some (map.get s.spaces (at_page p page)) ≡ true
  pub right : write ≡ true → (cell_or_fresh s.spaces (at_page p page)).may ≡ true

pub may_protect : (s : State) (p page : ℕ) (write : Bool) → protect_refusal s p page write ≡ None → MayProtect s p page write
may_protect s p page write h = grind (arith, not-false)

-- a page may be offered: what it tells
pub record MayOffer (s : State) (p page target : ℕ) (write : Bool) : Type 0 where
  pub user : is_user_page page ≡ true
  pub mapped : is_some (map.get s.spaces (at_page p page)) ≡ true
  pub another : target ≢ p
  pub live : is_live s target ≡ true
  pub right : write ≡ true → (cell_or_fresh s.spaces (at_page p page)).may ≡ true
  pub new : map.contains_key s.offers (offer_key p page target) ≡ false
  pub few : map.len (pending s.offers p) < 32

pub may_offer : (s : State) (p page target : ℕ) (write : Bool) → offer_refusal s p page target write ≡ None → MayOffer s p page target write
may_offer s p page target write h = grind (arith, choice, not-false, eqb-false)

-- an offer may be accepted: what it tells
pub record MayAccept (s : State) (p giver giver_page page : ℕ) : Type 0 where
  pub user : is_user_page page ≡ true
  pub there : map.contains_key s.offers (offer_key giver giver_page p) ≡ true
  pub none : map.get s.spaces (at_page p page) ≡ None
  pub room : overdrawn s p (page ∷ []) ≡ false

pub may_accept : (s : State) (p giver giver_page page : ℕ) → accept_refusal s p giver giver_page page ≡ None → MayAccept s p giver giver_page page
may_accept s p giver giver_page page h = grind (arith, not-false, no_value)

-- a test that answers a number has found no cause
pub no_cause : (s : State) (p : ℕ) (cause : Option Cause) (number : ℕ) → IsOk (number_unless (first_cause s p cause) number) → (is_live s p ≡ true) × (cause ≡ None)
no_cause s p cause number ok = grind arith

-- a call that nothing is against is of a live process
pub may_be : (s : State) (p : ℕ) (cause : Option Cause) → first_cause s p cause ≡ None → (is_live s p ≡ true) × (cause ≡ None)
may_be s p cause none = grind arith

-- a call whose test answers a number is done
pub is_done : (x : Option Cause) (number : ℕ) → IsOk (number_unless x number) → IsOk (done_unless x)
is_done x number ok = grind arith

-- the charge that the test of a map answers
pub map-charge : (s : State) (p page charge : ℕ) → is_live s p ≡ true → map_refusal s p page ≡ None → charge ≡ cost s.spaces p + need s.spaces p page → map_answer s p page ≡ Ok charge
map-charge s p page charge live free is =
    let e : first_cause s p (map_refusal s p page) ≡ None = ap (λ b. if b then map_refusal s p page else Some NoProcess) live ∙ free in
    ap (λ x. number_unless x (cost (map.insert s.spaces (at_page p page) (fresh (at_page p page) true)) p)) e
    ∙ ap Ok (cost-insert s.spaces (at_page p page) (fresh (at_page p page) true) (may_map s p page free).none ∙ sym is)

-- ---- A page that is not mapped, by whether there is room for it

-- what the test of a map answers
pub test_map : (s : State) (p page : ℕ) → is_live s p ≡ true → is_user_page page ≡ true
    → (if is_mapped s (at_page p page) then Err Mapped else if overdrawn s p (page ∷ []) then Err Quota else Ok (cost s.spaces p + need s.spaces p page)) ≡ map_answer s p page
test_map s p page live user = grind (arith, map-charge)

-- what the test of an accept answers
pub test_accept : (s : State) (p giver giver_page page : ℕ) → is_live s p ≡ true → is_user_page page ≡ true → map.contains_key s.offers (offer_key giver giver_page p) ≡ true
    → (if is_mapped s (at_page p page) then Err Mapped else if overdrawn s p (page ∷ []) then Err Quota else Ok (cost s.spaces p + need s.spaces p page)) ≡ accept_answer s p giver giver_page page
test_accept s p giver giver_page page live user there = grind (arith, cost-joined, may_accept)
