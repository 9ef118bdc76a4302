-- The pages of a process, and what one more page adds to the costs.
use Rattle.address_space.proofs.Prelude.{◌≡◌, ℕ, ◌+◌, true, false, cond, ◌||◌, ◌==◌, List, [], ◌∷◌, map, refl, sym, ap, ◌∙◌, None, arith, ◌&&◌, is_some, list_any, where_key, is_some-find, nat_order, same, Set, slot_number, Slot, slot_order, slot_cmp, Cell, Spaces, cost, cost_of, need, pages_of, regions_of, at_page, get-insert, same_set, contains-insert, contains-from_list, len-insert, list_any-map, list_any-put, unsigned_tied, eq_by_cmp_equiv, tied_then}
use Rattle.page_words.specs.FiniteMap as map
use Rattle.page_words.specs.FiniteSet as set
use Rattle.std.specs.Ordering.{is_eq, nat_cmp}

-- whether a page stands among the slots of a process
among : (p page : ℕ) (es : List (Slot × Cell))
    → list_any (λ e. same nat_order page e.0.page) (where_key slot_cmp (λ slot. slot.pid == p) es) ≡ list_any (λ slot. same slot_order (at_page p page) slot) (map (λ e. e.0) es)
among p page [] = refl
among p page (e ∷ es) =
    elim (e.0.pid == p) as (λ b. (e.0.pid == p) ≡ b → list_any (λ e. same nat_order page e.0.page) (cond b (e ∷ where_key slot_cmp (λ slot. slot.pid == p) es) (where_key slot_cmp (λ slot. slot.pid == p) es)) ≡ (same slot_order (at_page p page) e.0 || list_any (λ slot. same slot_order (at_page p page) slot) (map (λ e. e.0) es))) [
      | true ↦ λ is. λ i. (sym (tied ∙ ap (λ b. b && same nat_order page e.0.page) (turned ∙ is)) i || among p page es i)
      | false ↦ λ is. among p page es ∙ ap (λ b. b || list_any (λ slot. same slot_order (at_page p page) slot) (map (λ e. e.0) es)) (sym (tied ∙ ap (λ b. b && same nat_order page e.0.page) (turned ∙ is)))
    ] refl
  where
    tied : same slot_order (at_page p page) e.0 ≡ (is_eq (nat_cmp p e.0.pid) && same nat_order page e.0.page)
    tied = sym (tied_then (nat_cmp p e.0.pid) (nat_cmp page e.0.page))

    turned : is_eq (nat_cmp p e.0.pid) ≡ (e.0.pid == p)
    turned = (eq_by_cmp_equiv nat_order.total).symm p e.0.pid ∙ unsigned_tied e.0.pid p

pub contains-pages_of : (spaces : Spaces) (p page : ℕ) → set.contains (pages_of spaces p) page ≡ map.contains_key spaces (at_page p page)
contains-pages_of spaces p page =
    contains-from_list nat_order (map (λ entry. entry.0.page) (map.retain_keys spaces (λ slot. slot.pid == p)).entries) page
    ∙ list_any-map (λ entry. entry.0.page) (same nat_order page) (map.retain_keys spaces (λ slot. slot.pid == p)).entries
    ∙ among p page spaces.entries
    ∙ sym (is_some-find slot_cmp (at_page p page) spaces.entries)

-- spaces with the same pages of a process cost it the same
pub same_pages : (s t : Spaces) (p q : ℕ) → ((page : ℕ) → map.contains_key s (at_page p page) ≡ map.contains_key t (at_page q page)) → pages_of s p ≡ pages_of t q
same_pages s t p q is = same_set (pages_of s p) (pages_of t q) (λ page. contains-pages_of s p page ∙ is page ∙ sym (contains-pages_of t q page))

-- one more page of a process
pub pages-insert : (spaces : Spaces) (slot : Slot) (cell : Cell) → pages_of (map.insert spaces slot cell) slot.pid ≡ set.insert (pages_of spaces slot.pid) slot.page
pages-insert spaces slot cell = same_set (pages_of (map.insert spaces slot cell) slot.pid) (set.insert (pages_of spaces slot.pid) slot.page) (λ page.
    contains-pages_of (map.insert spaces slot cell) slot.pid page
    ∙ ap is_some (get-insert spaces slot cell (at_page slot.pid page))
    ∙ (grind arith)
    ∙ (λ i. (sym (tied_then (nat_cmp slot.pid slot.pid) (nat_cmp page slot.page)) ∙ ap (λ b. b && same nat_order page slot.page) ((eq_by_cmp_equiv nat_order.total).refl slot.pid)) i || sym (contains-pages_of spaces slot.pid page) i)
    ∙ sym (contains-insert (pages_of spaces slot.pid) slot.page page))

pub regions-insert : (pages : Set nat_order) (page : ℕ) → regions_of (set.insert pages page) ≡ set.insert (regions_of pages) (slot_number page)
regions-insert pages page = same_set (regions_of (set.insert pages page)) (set.insert (regions_of pages) (slot_number page)) (λ r.
    contains-regions (set.insert pages page) r
    ∙ list_any-put nat_order (λ n. same nat_order r (slot_number n)) page tt pages.entries
    ∙ ap (λ b. same nat_order r (slot_number page) || b) (sym (contains-regions pages r))
    ∙ sym (contains-insert (regions_of pages) (slot_number page) r))
  where
    contains-regions : (pages : Set nat_order) (r : ℕ) → set.contains (regions_of pages) r ≡ list_any (λ e. same nat_order r (slot_number e.0)) pages.entries
    contains-regions pages r = contains-from_list nat_order (map slot_number (set.items pages)) r ∙ list_any-map slot_number (same nat_order r) (set.items pages) ∙ list_any-map (λ e. e.0) (λ n. same nat_order r (slot_number n)) pages.entries

-- a new page costs its process what it needs
pub cost-insert : (spaces : Spaces) (slot : Slot) (cell : Cell) → map.get spaces slot ≡ None → cost (map.insert spaces slot cell) slot.pid ≡ cost spaces slot.pid + need spaces slot.pid slot.page
cost-insert spaces slot cell none =
    let pages : Set nat_order = pages_of spaces slot.pid in
    let new : set.contains pages slot.page ≡ false = contains-pages_of spaces slot.pid slot.page ∙ ap is_some none in
    ap cost_of (pages-insert spaces slot cell)
    ∙ ap (λ (s : Set nat_order). 1 + set.len s + set.len (set.insert pages slot.page)) (regions-insert pages slot.page)
    ∙ (λ i. 1 + len-insert (regions_of pages) (slot_number slot.page) tt i + (len-insert pages slot.page tt ∙ ap (λ b. cond b (set.len pages) (set.len pages + 1)) new) i)
    ∙ (grind arith)
