-- What pages cost a process more, by what it needs for them.
use Rattle.process_table.proofs.Prelude.{◌≡◌, ℕ, ◌+◌, ◌-◌, ◌∙◌, false, List, [], ◌∷◌, ap, arith, if◌then◌else◌, touched, Size, cost, need, page_need, access_need, with_pages, at_page, State, is_mapped, cost-with_page, cost-with_touched, extra_cost}

rest_of : (a b n : ℕ) → a ≡ b + n → a - b ≡ n
rest_of a b n is = omega (arith, is)

extra_is : (s : State) (p : ℕ) (pages : List ℕ) (n : ℕ) → cost (with_pages s.spaces p pages) p ≡ cost s.spaces p + n
    → extra_cost s p pages ≡ n
extra_is s p pages n is = rest_of (cost (with_pages s.spaces p pages) p) (cost s.spaces p) n is

-- one page
pub extra_page : (s : State) (p page : ℕ) → extra_cost s p (page ∷ []) ≡ page_need s.spaces p page
extra_page s p page = extra_is s p (page ∷ []) (page_need s.spaces p page) (cost-with_page s.spaces p page)

-- one page that is not mapped
pub extra_new : (s : State) (p page : ℕ) → is_mapped s (at_page p page) ≡ false
    → extra_cost s p (page ∷ []) ≡ need s.spaces p page
extra_new s p page none = extra_page s p page ∙ ap (λ b. if b then 0 else need s.spaces p page) none

-- the pages that an access touches
pub extra_touched : (s : State) (p address : ℕ) (size : Size)
    → extra_cost s p (touched address size) ≡ access_need s.spaces p address size
extra_touched s p address size = grind (arith, extra_is, cost-with_touched)
