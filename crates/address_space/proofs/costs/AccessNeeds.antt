-- What an access needs: what its first page needs, and what the second needs once the first is mapped.
use Rattle.address_space.proofs.Prelude.{◌≡◌, ◌≢◌, ℕ, ◌+◌, ◌==◌, Bool, true, false, cond, not, [], ◌∷◌, refl, ap, sym, ◌∙◌, arith, Option, Some, None, ◌&&◌, is_some, if◌then◌else◌, eqb-true, eq-eqb, slot_number, page_number, touched, page_and, second_page, Size, nat_order, same, Set, crosses, no_value, same_apart, Spaces, Cell, at_page, fresh, cost, pages_of, regions_of, need, page_need, with_page, with_pages, missing, access_need, Place, found_of, same_itself, contains-insert, retain-insert, retain-insert_other, len-insert}
use Rattle.address_space.specs.Spaces.{need_of}
use Rattle.address_space.proofs.Lemmas.{key-insert, pages-insert, regions-insert, cost-insert}
use Rattle.page_words.specs.FiniteMap as map
use Rattle.page_words.specs.FiniteSet as set
use Rattle.address_space.specs.Places as places

-- a page that is mapped now costs what it needed
pub cost-with_page : (S : Spaces) (p page : ℕ) → cost (with_page S p page) p ≡ cost S p + page_need S p page
cost-with_page S p page = by (map.contains_key S (at_page p page)) refl
  where
    by : (b : Bool) → map.contains_key S (at_page p page) ≡ b → cost (if b then S else map.insert S (at_page p page) (fresh (at_page p page) true)) p ≡ cost S p + (if b then 0 else need S p page)
    by true is = omega arith
    by false is = cost-insert S (at_page p page) (fresh (at_page p page) true) (no_value _ is)

-- a page beside one that is mapped now
pub need-beside : (S : Spaces) (p page second : ℕ) (cell : Cell) → need (map.insert S (at_page p page) cell) p second ≡ (if slot_number page == slot_number second then 1 else need S p second)
need-beside S p page second cell =
    let r : ℕ = slot_number second in
    ap (λ (s : Set nat_order). if set.contains s r then 1 else 2) (ap regions_of (pages-insert S (at_page p page) cell) ∙ regions-insert (pages_of S p) page)
    ∙ ap (λ b. if b then 1 else 2) (contains-insert (regions_of (pages_of S p)) (slot_number page) r)
    ∙ (grind (arith, eqb-true, r, same_itself, same_apart, eq-eqb))
  where
    r : ℕ
    r = slot_number second

-- ---- What pages need together

module _ (S : Spaces) (p : ℕ) where
  abbrev R : Set nat_order
  R = regions_of (pages_of S p)

  abbrev is_new : ℕ → Bool
  is_new region = not (set.contains R region)

  abbrev is_missing : ℕ → Bool
  is_missing page = not (map.contains_key S (at_page p page))

  abbrev new_regions : Set nat_order → ℕ
  new_regions regions = set.len (set.retain regions is_new)

  kept_one : (s : Set nat_order) (t : ℕ → Bool) (k : ℕ) → (b : Bool) → t k ≡ b → set.retain (set.insert s k) t ≡ cond b (set.insert (set.retain s t) k) (set.retain s t)
  kept_one s t k b is = grind (arith, retain-insert, retain-insert_other)

  -- one page alone
  need-one_page : (page : ℕ) → need_of S p (set.retain (set.from_list (page ∷ [])) is_missing) ≡ page_need S p page
  need-one_page page = grind arith

  -- how many regions of two pages, neither of which is mapped, are new
  two_new : (x y : ℕ) → new_regions (set.insert (set.insert set.empty y) x) ≡ (if set.contains R x then 0 else 1) + (if x == y then 0 else (if set.contains R y then 0 else 1))
  two_new x y = grind (arith, same_apart, eq-eqb, eqb-true, same_itself, len-insert, contains-insert)

  -- two pages
  need-two_pages : (page second : ℕ) → second ≢ page → need_of S p (set.retain (set.from_list (page ∷ second ∷ [])) is_missing) ≡ page_need S p page + page_need (with_page S p page) p second
  need-two_pages page second apart = grind (arith, kept_one, need-one_page, unmapped)
    where
      rest : Set nat_order
      rest = set.retain {o = nat_order} (set.insert set.empty second) is_missing

      last : (b : Bool) → map.contains_key S (at_page p second) ≡ b → rest ≡ cond (not b) (set.insert set.empty second) set.empty
      last b is = kept_one set.empty is_missing second (not b) (ap not is)

      regions : regions_of (set.insert (set.insert set.empty second) page) ≡ set.insert (set.insert set.empty (slot_number second)) (slot_number page)
      regions = regions-insert (set.insert set.empty second) page

      lone : same nat_order page second ≡ false
      lone = same_apart nat_order page second (λ e. apart (sym e))

      both : (cell : Cell) → need_of S p (set.insert (set.insert set.empty second) page) ≡ need S p page + need (map.insert S (at_page p page) cell) p second
      both cell = grind (arith, len-insert, contains-insert, lone, regions, two_new, need-beside)

      unmapped : (d : Bool) → map.contains_key S (at_page p second) ≡ d → (cell : Cell)
          → need_of S p (set.insert rest page) ≡ need S p page + (if map.contains_key (map.insert S (at_page p page) cell) (at_page p second) then 0 else need (map.insert S (at_page p page) cell) p second)
      unmapped true is cell =
          ap (λ s. need_of S p (set.insert s page)) (last true is)
          ∙ (grind (arith, kept_one))
          ∙ sym (ap (λ b. need S p page + (if b then 0 else need (map.insert S (at_page p page) cell) p second)) ((grind (arith, key-insert, same_apart)) ∙ is))
      unmapped false is cell = grind (arith, last, both, key-insert, same_apart)

-- what a page needs once another is mapped
pub second_need : (S : Spaces) (p page second : ℕ) → second ≢ page
    → page_need (with_page S p page) p second ≡ (if map.contains_key S (at_page p second) then 0 else (if not (map.contains_key S (at_page p page)) && (slot_number page == slot_number second) then 1 else need S p second))
second_need S p page second apart = grind (arith, key-insert, same_apart, need-beside)

-- what the place of a page says that the process needs for it
pub page_need_at : (S : Spaces) (p page : ℕ) (place : Place) → is_some (found_of place) ≡ map.contains_key S (at_page p page) → places.need_of place ≡ need S p page
    → (if is_some (found_of place) then 0 else places.need_of place) ≡ page_need S p page
page_need_at S p page place there costs = (λ i. if there i then 0 else costs i)

-- and, of two pages, for the second behind the first
pub second_need_at : (S : Spaces) (p page second : ℕ) (place other : Place) → second ≢ page → is_some (found_of place) ≡ map.contains_key S (at_page p page)
    → is_some (found_of other) ≡ map.contains_key S (at_page p second) → places.need_of other ≡ need S p second
    → (if is_some (found_of other) then 0 else (if not (is_some (found_of place)) && (slot_number page == slot_number second) then 1 else places.need_of other)) ≡ page_need (with_page S p page) p second
second_need_at S p page second place other apart first there costs = grind (arith, second_need)

-- what an access needs
pub need-in_one : (S : Spaces) (p address : ℕ) (size : Size) → second_page address size ≡ None → access_need S p address size ≡ page_need S p (page_number address)
need-in_one S p address size none = ap (λ x. need_of S p (missing S p (page_and (page_number address) x))) none ∙ need-one_page S p (page_number address)

pub need-in_two : (S : Spaces) (p address : ℕ) (size : Size) (second : ℕ) → second_page address size ≡ Some second → access_need S p address size ≡ page_need S p (page_number address) + page_need (with_page S p (page_number address)) p second
need-in_two S p address size second some = grind (arith, crosses, need-two_pages)

-- the pages that an access touches, mapped, cost what it needs
pub cost-with_touched : (S : Spaces) (p address : ℕ) (size : Size) → cost (with_pages S p (touched address size)) p ≡ cost S p + access_need S p address size
cost-with_touched S p address size = by (second_page address size) refl
  where
    page : ℕ
    page = page_number address

    by : (x : Option ℕ) → second_page address size ≡ x → cost (with_pages S p (touched address size)) p ≡ cost S p + access_need S p address size
    by None is = grind (arith, page, cost-with_page, need-in_one)
    by (Some second) is = grind (arith, cost-with_page, page, need-in_two)
