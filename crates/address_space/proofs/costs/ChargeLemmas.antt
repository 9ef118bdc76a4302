-- What a process is charged for, as its directory and tables show it.
use Rattle.address_space.proofs.Prelude.{◌≡◌, ℕ, ◌+◌, ◌*◌, ◌<◌, ◌≤◌, Bool, true, false, cond, ◌||◌, List, refl, ap, sym, ◌∙◌, arith, inl, inr, Option, Some, ◌&&◌, is_some, nat_lt, if◌then◌else◌, option_and_then, cases_lt, nat_tests, slot_number, nat_order, Set, same_or_not, same_set, contains-insert, contains-retain, len-insert, get-map_values, len-change_each, frame_bytes, Role, PageEntry, table_of, get-entries_user, get-entries_other, user_cases, Cell, Spaces, cost, pages_of, regions_of, at_page, cell_of, directory_of, table_in, entries_in, spaces_in, IsSpaces, and-false, and-true, is_some-map, entries_of, counted}
use Rattle.address_space.proofs.Lemmas.{contains-pages_of, region_member, no_cell_outside, cost_within, need_read, get-spaces_in, live_small}
use Rattle.page_words.specs.FiniteMap as map
use Rattle.page_words.specs.FiniteSet as set

-- what a page costs where its region has a table, and where it has none
abbrev priced : Bool → ℕ
priced b = if b then 1 else 2

one_price : (b c : Bool) → priced b ≡ priced c → b ≡ c
one_price b c h = grind arith

-- how many of some regions are below one
abbrev pub regions_below : Set nat_order → ℕ → ℕ
regions_below regions s = set.len (set.retain regions (λ r. nat_lt r s))

-- ---- A count of regions that goes on

lt_true : (q s : ℕ) → q < s → nat_lt q s ≡ true
lt_true q s l = grind (arith, nat_tests)

below_next : (regions : Set nat_order) (s : ℕ) → regions_below regions (s + 1) ≡ regions_below regions s + counted (set.contains regions s)
below_next regions s = by (set.contains regions s) refl
  where
    old : Set nat_order
    old = set.retain regions (λ r. nat_lt r s)

    new : Set nat_order
    new = set.retain regions (λ r. nat_lt r (s + 1))

    -- below the next one is below this one, or it is this one
    at : (q : ℕ) → set.contains new q ≡ (set.contains regions q && nat_lt q (s + 1))
    at q = contains-retain regions (λ r. nat_lt r (s + 1)) q

    before : (q : ℕ) → set.contains old q ≡ (set.contains regions q && nat_lt q s)
    before q = contains-retain regions (λ r. nat_lt r s) q

    with_it : set.contains regions s ≡ true → new ≡ set.insert old s
    with_it there = same_set new (set.insert old s) (λ q.
        at q ∙ elim (same_or_not nat_order q s) [
          | inl h ↦ (λ i. (ap (set.contains regions) h.0 ∙ there) i && (ap (λ n. nat_lt n (s + 1)) h.0 ∙ lt_true s (s + 1) (omega arith)) i) ∙ sym (ap (λ b. b || set.contains old q) h.1)
          | inr h ↦ ap (λ b. set.contains regions q && b) (grind (arith, cases_lt, lt_true, nat_tests)) ∙ sym (before q) ∙ sym (ap (λ b. b || set.contains old q) h)
        ]
        ∙ sym (contains-insert old s q))

    without_it : set.contains regions s ≡ false → new ≡ old
    without_it none = same_set new old (λ q.
        at q ∙ elim (same_or_not nat_order q s) [
          | inl h ↦ (let n : set.contains regions q ≡ false = ap (set.contains regions) h.0 ∙ none in ap (λ b. b && nat_lt q (s + 1)) n ∙ sym (ap (λ b. b && nat_lt q s) n))
          | inr h ↦ ap (λ b. set.contains regions q && b) (grind (arith, cases_lt, lt_true, nat_tests))
        ]
        ∙ sym (before q))

    fresh_one : map.contains_key old s ≡ false
    fresh_one = before s ∙ ap (λ b. set.contains regions s && b) (grind (arith, nat_tests)) ∙ and-false (set.contains regions s)

    by : (b : Bool) → set.contains regions s ≡ b → set.len new ≡ set.len old + counted b
    by true there = ap set.len (with_it there) ∙ len-insert old s tt ∙ ap (λ b. cond b (set.len old) (set.len old + 1)) fresh_one
    by false none = ap set.len (without_it none) ∙ omega arith

-- ---- The regions of a process

module _ (directories : List (Option ℕ)) (bytes : List ℕ) (roles : List Role) (p d : ℕ) (spaces : IsSpaces directories bytes roles) (live : directory_of directories p ≡ Some d) where
  abbrev S : Spaces
  S = spaces_in directories bytes

  abbrev regions : Set nat_order
  regions = regions_of (pages_of S p)

  few : p < 64
  few = live_small directories p d spaces.sound.pids live

  -- what is mapped lies in the user range
  user_cell : (page : ℕ) → map.contains_key S (at_page p page) ≡ true → (0x40000 ≤ page) × (page < 0xf0000)
  user_cell page there = grind (arith, user_cases, no_cell_outside)

  user_region : (s : ℕ) → set.contains regions s ≡ true → (256 ≤ s) × (s < 960)
  user_region s there =
      let r = region_member (pages_of S p) s there in
      let user = user_cell r.0 (sym (contains-pages_of S p r.0) ∙ r.2) in
      (omega (arith, r.1, user.0), omega (arith, r.1, user.1))

  -- a region with a page has a table
  region_table : (s : ℕ) → 256 ≤ s → s < 960 → set.contains regions s ≡ is_some (table_of (frame_bytes bytes) d s)
  region_table s low high =
      let e : slot_number (1024 * s) ≡ s = omega arith in
      one_price (set.contains regions s) (is_some (table_of (frame_bytes bytes) d s))
      (ap (λ n. priced (set.contains regions n)) (sym e) ∙ need_read directories bytes p (1024 * s) spaces.in_use few (omega arith) (omega arith)
      ∙ ap (λ n. priced (is_some (table_in (directory_of directories) (frame_bytes bytes) p n))) e
      ∙ ap (λ x. priced (is_some (option_and_then (λ d. table_of (frame_bytes bytes) d s) x))) live)

  pub regions_at_first : 0 ≡ regions_below regions 256
  regions_at_first = sym (ap set.len (same_set (set.retain regions (λ r. nat_lt r 256)) set.empty (λ q. contains-retain regions (λ r. nat_lt r 256) q ∙ (grind (arith, user_region, nat_tests)))))

  pub regions_at_last : regions_below regions 960 ≡ set.len regions
  regions_at_last = ap set.len (same_set (set.retain regions (λ r. nat_lt r 960)) regions (λ q. contains-retain regions (λ r. nat_lt r 960) q ∙ (grind (arith, user_region, lt_true, and-true))))

  pub regions_next : (s n k : ℕ) → 256 ≤ s → s < 960 → n ≡ regions_below regions s → k ≡ counted (is_some (table_of (frame_bytes bytes) d s)) → n + k ≡ regions_below regions (s + 1)
  regions_next s n k low high so_far one = grind (arith, below_next, region_table)

  -- ---- Its pages

  pages_are_entries : pages_of S p ≡ map.map_values (λ page (e : PageEntry). tt) (entries_of (frame_bytes bytes) d)
  pages_are_entries = same_set (pages_of S p) (map.map_values (λ page (e : PageEntry). tt) (entries_of (frame_bytes bytes) d)) (λ page.
      contains-pages_of S p page
      ∙ elim (user_cases page) [
        | inl user ↦ grind (arith, get-spaces_in, few, cell, is_some-map, get-entries_user)
        | inr out ↦ ap is_some (no_cell_outside directories bytes roles p page spaces.sound out) ∙ sym (ap is_some (get-entries_other (frame_bytes bytes) d page out))
      ]
      ∙ sym (ap is_some (get-map_values nat_order (λ page (e : PageEntry). tt) (entries_of (frame_bytes bytes) d) page) ∙ is_some-map (λ (e : PageEntry). tt) (map.get (entries_of (frame_bytes bytes) d) page)))
    where
      cell : ℕ → PageEntry → Cell
      cell page = cell_of (entries_in (directory_of directories) (frame_bytes bytes)) (frame_bytes bytes) (at_page p page)

  count_pages : set.len (pages_of S p) ≡ map.len (entries_of (frame_bytes bytes) d)
  count_pages = ap set.len pages_are_entries ∙ len-change_each (λ page (e : PageEntry). tt) (entries_of (frame_bytes bytes) d).entries

  pub charged : (tables pages : ℕ) → tables ≡ set.len regions → pages ≡ map.len (entries_of (frame_bytes bytes) d) → 1 + tables + pages ≡ cost S p
  charged tables pages t n = let k = count_pages in omega (arith, t, n, k)

  pub cost_fits : cost S p ≤ 1048576
  cost_fits = grind (arith, cost_within, few)

  pub charge_fits : (tables pages : ℕ) → tables ≡ set.len regions → pages ≡ map.len (entries_of (frame_bytes bytes) d) → 1 + tables + pages ≤ 1048576
  charge_fits tables pages t n = grind (arith, charged, cost_fits)
