-- What stands where after a process's pages were copied to another, and what they cost it.
use Rattle.address_space.proofs.Prelude.{arith, ◌≡◌, ◌≢◌, ℕ, Bool, true, false, ◌||◌, ◌==◌, List, [], ◌∷◌, ◌++◌, map, refl, sym, ap, ◌∙◌, Option, Some, None, if◌then◌else◌, is_some, ◌⊎◌, option_map, list_any, is_some-find, or-true, ne_eqb, Order, same, same_or_not, same_itself, get-collect, list_any-map, Slot, slot_order, slot_cmp, Cell, Spaces, cost, cost_of, copy_of, copied_at, copied, at_page, eqb-true, eq-eqb, list_any-append}
use Rattle.address_space.proofs.costs.Costs.{same_pages}
use Rattle.page_words.specs.FiniteMap as map_of

-- a key among others passes a test, so one of them does
passes : {K : Type 0} (o : Order K) (t : K → Bool) (k : K) (ks : List K) → t k ≡ true → list_any (same o k) ks ≡ true → list_any t ks ≡ true
passes o t k [] h there = cc
passes o t k (x ∷ xs) h there = one (same_or_not o k x) (passes o t k xs h)
  where
    one : ((k ≡ x) × (same o k x ≡ true)) ⊎ (same o k x ≡ false) → (list_any (same o k) xs ≡ true → list_any t xs ≡ true) → (t x || list_any t xs) ≡ true
    one which rest = grind (arith, or-true)

-- what stands at a slot
pub get-copied : (S : Spaces) (from to : ℕ) (q : Slot) → map_of.get (copied S from to) q ≡ copied_at S from to q
get-copied S from to q = get-collect slot_order (copied_at S from to) (map_of.keys S ++ map (λ slot. at_page to slot.page) (map_of.keys S)) q ∙ (grind (arith, nothing))
  where
    ks : List Slot
    ks = map_of.keys S

    copies : List Slot
    copies = map (λ slot. at_page to slot.page) ks

    there : (p : Slot) (c : Cell) → map_of.get S p ≡ Some c → list_any (same slot_order p) ks ≡ true
    there p c is = sym (is_some-find slot_cmp p S.entries) ∙ ap is_some is

    of_other : (c : Cell) → map_of.get S q ≡ Some c → list_any (same slot_order q) (ks ++ copies) ≡ true
    of_other c is = list_any-append (same slot_order q) ks copies ∙ ap (λ b. b || list_any (same slot_order q) copies) (there q c is)

    nothing : (own : Bool) → (q.pid == to) ≡ own → list_any (same slot_order q) (ks ++ copies) ≡ false → None ≡ copied_at S from to q
    nothing true own none = at (map_of.get S (at_page from q.page)) refl
      where
        at : (x : Option Cell) → map_of.get S (at_page from q.page) ≡ x → None ≡ copied_at S from to q
        at x is =
            grind (arith, eqb-true, list_any-append, ks, copies, list_any-map, passes, same_itself, there, or-true)
    nothing false own none = at (map_of.get S q) refl
      where
        at : (x : Option Cell) → map_of.get S q ≡ x → None ≡ copied_at S from to q
        at x is = grind (arith, of_other)

-- at a page of the other process a copy, where there is one to make
pub copied-own : (S : Spaces) (from to page : ℕ) → map_of.get (copied S from to) (at_page to page) ≡ option_map (copy_of (at_page to page)) (map_of.get S (at_page from page))
copied-own S from to page = get-copied S from to (at_page to page) ∙ ap (λ b. if b then option_map (copy_of (at_page to page)) (map_of.get S (at_page from page)) else map_of.get S (at_page to page)) (eq-eqb to to refl)

-- and at any other slot what stood there
pub copied-other : (S : Spaces) (from to : ℕ) (q : Slot) → q.pid ≢ to → map_of.get (copied S from to) q ≡ map_of.get S q
copied-other S from to q n = get-copied S from to q ∙ ap (λ b. if b then option_map (copy_of q) (map_of.get S (at_page from q.page)) else map_of.get S q) (ne_eqb q.pid to n)

-- the other process costs what the first one does
pub cost-copied : (S : Spaces) (from to : ℕ) → cost (copied S from to) to ≡ cost S from
cost-copied S from to = ap cost_of (same_pages (copied S from to) S to from (λ page. ap is_some (copied-own S from to page) ∙ (grind arith)))

-- and each further one what it did
pub cost-copied_other : (S : Spaces) (from to p : ℕ) → p ≢ to → cost (copied S from to) p ≡ cost S p
cost-copied_other S from to p n = ap cost_of (same_pages (copied S from to) S p p (λ page. ap is_some (copied-other S from to (at_page p page) n)))
