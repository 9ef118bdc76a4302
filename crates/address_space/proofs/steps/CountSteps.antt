-- How the counts of the tables' pages change.
use Rattle.address_space.proofs.Prelude.{◌≡◌, ◌≢◌, ℕ, zero, suc, ◌+◌, ◌-◌, ◌*◌, ◌<◌, ◌≤◌, Bool, true, false, List, length, replicate, refl, ap, sym, ◌∙◌, subst, arith, inl, inr, Option, Some, None, is_some, slice_get, slice_set, option_map, option_and_then, cases_eq, slice_get_within, slot_number, IsUserPage, is_some-map, frame_bytes, Role, Free, Table, Page, get-set_same, get-set_other, table_of, entry_at, IsCleared, counted, count_range, PageEntry, same, same_or_not, same_itself, Slot, Cell, Spaces, without, is_slot, at_page, TableFreed, EntryLeft, cell_of, directory_of, table_in, entries_in, spaces_in, IsSound, region_pages, pages_by, pages_under, IsCounted, AlwaysMapsAlike, KeepsCounts, MapsOneMore, MapsAlike, IsTaken, IsHeld, IsReleased, released, opening_roles, count_range-same, count_range-le, count-no_table, count_some, table_mapped}
use Rattle.page_map.proofs.MapChanges.{table_there}
use Rattle.address_space.proofs.costs.AccessCosts.{key-insert}
use Rattle.address_space.proofs.costs.Relief.{is_gone}
use Rattle.address_space.proofs.costs.Totals.{key-without}
use Rattle.address_space.proofs.steps.Stores.{named_entry, page_of_name, entry_rules}
use Rattle.address_space.proofs.entries.Readings.{get-spaces_in}
use Rattle.address_space.proofs.steps.Steps.{role_own, role_other, live_small}
use Rattle.page_words.specs.FiniteMap as map

-- ---- What is mapped stays, or the roles do

map_alike : (S T : Spaces) (x : Option Role) → ((r : Role) → x ≡ Some r → pages_by T r ≡ pages_by S r) → option_map (pages_by T) x ≡ option_map (pages_by S) x
map_alike S T x is = grind arith

-- the same slots are mapped
pub counted_keys : (S T : Spaces) (roles : List Role) (counts : List ℕ) → ((q : Slot) → map.contains_key T q ≡ map.contains_key S q) → IsCounted S roles counts → IsCounted T roles counts
counted_keys S T roles counts is C f = C f ∙ sym (map_alike S T (slice_get roles f) (λ r _. (grind arith)))

pub counted_same : (S T : Spaces) (roles : List Role) (counts : List ℕ) → T ≡ S → IsCounted S roles counts → IsCounted T roles counts
counted_same S T roles counts is C f = C f ∙ ap (λ x. pages_under x roles f) (sym is)

pub counted_roles : (S : Spaces) (roles roles' : List Role) (counts : List ℕ) → MapsAlike S roles roles' → IsCounted S roles counts → IsCounted S roles' counts
counted_roles S roles roles' counts alike C f = C f ∙ sym (alike f)

-- a frame's role changes, and it maps as many pages as before
alike_set : (S : Spaces) (roles roles' : List Role) (f : ℕ) (was role : Role) → slice_get roles f ≡ Some was → roles' ≡ slice_set roles f role → pages_by S role ≡ pages_by S was → MapsAlike S roles roles'
alike_set S roles roles' f was role is now same g = elim (cases_eq g f) [
  | inl here ↦ ap (pages_under S roles') here ∙ ap (option_map (pages_by S)) (role_own roles roles' f was role is now) ∙ ap Some same ∙ sym (ap (pages_under S roles) here ∙ ap (option_map (pages_by S)) is)
  | inr differ ↦ ap (option_map (pages_by S)) (role_other roles roles' f role now g differ)
]

pub alike_taken : (S : Spaces) (roles roles' : List Role) (f : ℕ) (role : Role) → IsTaken roles f role roles' → pages_by S role ≡ 0 → MapsAlike S roles roles'
alike_taken S roles roles' f role taken none = alike_set S roles roles' f Free role taken.was_free taken.now none

pub alike_held : (roles roles' : List Role) (f : ℕ) → IsHeld roles f roles' → AlwaysMapsAlike roles roles'
alike_held roles roles' f held S = alike_set S roles roles' f (Page held.count) (Page (held.count + 1)) held.page held.now refl

pub alike_released : (S : Spaces) (roles roles' : List Role) (f : ℕ) (role : Role) → IsReleased roles f roles' → slice_get roles f ≡ Some role → pages_by S role ≡ 0 → MapsAlike S roles roles'
alike_released S roles roles' f role rel is none =
    let e : Some rel.role ≡ Some role = sym rel.was ∙ is in
    let same : rel.role ≡ role = cc in
    alike_set S roles roles' f rel.role (released rel.role) rel.was rel.now ((grind arith) ∙ sym (ap (pages_by S) same ∙ none))

-- ---- One page more

-- one number more passes
one_more : (P Q : ℕ → Bool) (first count k : ℕ) → first ≤ k → k < first + count → Q k ≡ true → P k ≡ false → ((i : ℕ) → i ≢ k → Q i ≡ P i) → count_range Q first count ≡ count_range P first count + 1
unfolding count_range
one_more P Q first zero k low high passes fails others = absurd (omega arith)
one_more P Q first (suc count) k low high passes fails others = elim (cases_eq k first) [
  | inl here ↦ grind (arith, count_range-same)
  | inr differ ↦
      let rest = one_more P Q (first + 1) count k (omega arith) (omega arith) passes fails others in
      omega (arith, ap counted (others first (λ e. differ (sym e))), rest)
]

apart_page : (p page i : ℕ) → i ≢ page → at_page p i ≢ at_page p page
apart_page p page i n same = n (ap (λ (x : Slot). x.page) same)

pub region_more : (less more : Spaces) (p page : ℕ) → MapsOneMore less (at_page p page) more → region_pages more p (slot_number page) ≡ region_pages less p (slot_number page) + 1
region_more less more p page one =
    one_more (λ page. map.contains_key less (at_page p page)) (λ page. map.contains_key more (at_page p page)) (1024 * slot_number page) 1024 page (omega arith) (omega arith) one.present one.absent
    (λ i n. one.others (at_page p i) (apart_page p page i n))

pub region_other : (less more : Spaces) (p page q r : ℕ) → MapsOneMore less (at_page p page) more → (q ≡ p → r ≡ slot_number page → ⊥) → region_pages more q r ≡ region_pages less q r
region_other less more p page q r one n = grind (arith, count_range-same)

-- a table's count changes, and no other table's pages do
module _ (S T : Spaces) (directories : List (Option ℕ)) (bytes : List ℕ) (roles : List Role) (counts : List ℕ) (p s t k : ℕ) (sound : IsSound directories bytes roles) (named : table_in (directory_of directories) (frame_bytes bytes) p s ≡ Some t) (C : IsCounted S roles counts) where
  role_t : slice_get roles t ≡ Some (Table p s)
  role_t = sound.tables.table p s t named

  -- the count of the table
  pub table_count : slice_get counts t ≡ Some (region_pages S p s)
  table_count = C t ∙ ap (option_map (pages_by S)) role_t

  pub counted_set : k ≡ region_pages T p s → ((q r : ℕ) → (q ≡ p → r ≡ s → ⊥) → region_pages T q r ≡ region_pages S q r) → IsCounted T roles (slice_set counts t k)
  counted_set is others f =
      grind (arith, cases_eq, get-set_same, slice_get_within, table_count, role_t, get-set_other, map_alike)

-- ---- The pages of a region by their entries

pub region_entries : (directories : List (Option ℕ)) (bytes : List ℕ) (p d s : ℕ) → p < 64 → directory_of directories p ≡ Some d → 256 ≤ s → s < 960
    → region_pages (spaces_in directories bytes) p s ≡ count_range (λ page. is_some (entry_at (frame_bytes bytes) d page)) (1024 * s) 1024
region_entries directories bytes p d s few live low high =
    count_range-same (λ page. map.contains_key (spaces_in directories bytes) (at_page p page)) (λ page. is_some (entry_at (frame_bytes bytes) d page)) (1024 * s) (1024 * s) 1024 (λ i l.
    let page : ℕ = 1024 * s + i in
    let cell = cell_of (entries_in (directory_of directories) (frame_bytes bytes)) (frame_bytes bytes) (at_page p page) in
    ap is_some (get-spaces_in directories bytes p page few (omega arith) (omega arith) ∙ ap (λ x. option_map cell (option_and_then (λ d. entry_at (frame_bytes bytes) d page) x)) live)
    ∙ is_some-map cell (entry_at (frame_bytes bytes) d page))

-- a region has no more than 1,024
pub region_most : (S : Spaces) (p s : ℕ) → region_pages S p s ≤ 1024
region_most S p s = count_range-le (λ page. map.contains_key S (at_page p page)) (1024 * s) 1024

-- counts stay right where what is mapped does, and each frame maps as many pages
pub counts_kept : (S T : Spaces) (roles roles' : List Role) → T ≡ S → MapsAlike S roles roles' → KeepsCounts S roles T roles'
counts_kept S T roles roles' same alike counts C = counted_same S T roles' counts same (counted_roles S roles roles' counts alike C)

-- a blank table maps no page
pub table_counted : (directories : List (Option ℕ)) (bytes bytes' : List ℕ) (roles roles' : List Role) (p d s t : ℕ) → IsSound directories bytes roles → directory_of directories p ≡ Some d → 256 ≤ s → s < 960
    → table_of (frame_bytes bytes) d s ≡ None → IsTaken roles t (Table p s) roles' → spaces_in directories bytes' ≡ spaces_in directories bytes
    → KeepsCounts (spaces_in directories bytes) roles (spaces_in directories bytes') roles'
table_counted directories bytes bytes' roles roles' p d s t sound live low high none taken same =
    let S : Spaces = spaces_in directories bytes in
    counts_kept S (spaces_in directories bytes') roles roles' same
    (alike_taken S roles roles' t (Table p s) taken (region_entries directories bytes p d s (live_small directories p d sound.pids live) live low high ∙ count-no_table (frame_bytes bytes) d s none))

-- ---- A page is counted, or no more

module _ (directories : List (Option ℕ)) (bytes : List ℕ) (roles : List Role) (counts : List ℕ) (p d page t n : ℕ) (sound : IsSound directories bytes roles) (live : directory_of directories p ≡ Some d) (user : IsUserPage page)
    (there : table_of (frame_bytes bytes) d (slot_number page) ≡ Some t) (C : IsCounted (spaces_in directories bytes) roles counts) where
  abbrev pub mapped : Spaces
  mapped = spaces_in directories bytes

  table_named : table_in (directory_of directories) (frame_bytes bytes) p (slot_number page) ≡ Some t
  table_named = ap (option_and_then (λ x. table_of (frame_bytes bytes) x (slot_number page))) live ∙ there

  its_count : slice_get counts t ≡ Some (region_pages mapped p (slot_number page))
  its_count = table_count mapped mapped directories bytes roles counts p (slot_number page) t n sound table_named C

  pub count_there : t < length counts
  count_there = slice_get_within counts t (region_pages mapped p (slot_number page)) its_count

  -- a count that was read
  pub count_read : slice_get counts t ≡ Some n → n ≡ region_pages mapped p (slot_number page)
  count_read is = let e : Some n ≡ Some (region_pages mapped p (slot_number page)) = sym is ∙ its_count in cc

  pub count_fits : slice_get counts t ≡ Some n → n ≤ 1024
  count_fits is = let e = count_read is in let most = region_most mapped p (slot_number page) in omega (arith, e, most)

  pub count_by_entries : slice_get counts t ≡ Some n → n ≡ count_range (λ other. is_some (entry_at (frame_bytes bytes) d other)) (1024 * slot_number page) 1024
  count_by_entries is = grind (arith, count_read, region_entries, live_small)

  -- a mapped page is one of those that are counted
  pub count_positive : slice_get counts t ≡ Some n → is_some (entry_at (frame_bytes bytes) d page) ≡ true → 1 ≤ n
  count_positive is here =
      let some = count_some (λ other. is_some (entry_at (frame_bytes bytes) d other)) (1024 * slot_number page) 1024 page (omega arith) (omega arith) here in
      omega (arith, count_by_entries is, some)

  pub page_counted : slice_get counts t ≡ Some n → (more : Spaces) → MapsOneMore mapped (at_page p page) more → IsCounted more roles (slice_set counts t (n + 1))
  page_counted is more one =
      let e = count_read is in
      let r = region_more mapped more p page one in
      counted_set mapped more directories bytes roles counts p (slot_number page) t (n + 1) sound table_named C (omega (arith, e, r)) (λ q s apart. region_other mapped more p page q s one apart)

  pub page_uncounted : slice_get counts t ≡ Some n → (less : Spaces) → MapsOneMore less (at_page p page) mapped → IsCounted less roles (slice_set counts t (n - 1))
  page_uncounted is less one =
      let e = count_read is in
      let r = region_more less mapped p page one in
      counted_set mapped less directories bytes roles counts p (slot_number page) t (n - 1) sound table_named C (omega (arith, e, r)) (λ q s apart. sym (region_other less mapped p page q s one apart))

-- ---- A slot leaves

-- what is left is mapped as before, but for the slot
pub one_less : (S T : Spaces) (p page : ℕ) → is_some (map.get S (at_page p page)) ≡ true → T ≡ without S (is_slot p page) → MapsOneMore T (at_page p page) S
one_less S T p page there same = subst (λ X. MapsOneMore X (at_page p page) S) (sym same) (record {
  absent = ap is_some (is_gone S p page);
  present = there;
  others = λ q n. sym (key-without S (is_slot p page) q (grind (arith, same_or_not)));
})

-- a slot more
pub one_inserted : (S T : Spaces) (slot : Slot) (c : Cell) → map.get S slot ≡ None → ((q : Slot) → map.contains_key T q ≡ map.contains_key (map.insert S slot c) q) → MapsOneMore S slot T
one_inserted S T slot c none keys = grind (arith, key-insert, same_itself, same_or_not)

-- the frame of an entry that went maps no page, as a table
pub alike_left : (S : Spaces) (directories : List (Option ℕ)) (bytes : List ℕ) (roles one : List Role) (p d page : ℕ) (e : PageEntry) → IsSound directories bytes roles → directory_of directories p ≡ Some d → IsUserPage page
    → entry_at (frame_bytes bytes) d page ≡ Some e → EntryLeft roles e one → MapsAlike S roles one
alike_left S directories bytes roles one p d page e sound live user is went = by e.lazy refl
  where
    by : (b : Bool) → e.lazy ≡ b → MapsAlike S roles one
    by true lazy = λ f. ap (λ l. pages_under S l f) (went.lazy lazy)
    by false real =
        let n = named_entry directories bytes roles p d page e sound live user.0 user.1 is in
        let r = page_of_name directories bytes roles (at_page p page) e.frame sound n ((entry_rules directories bytes roles p d page e sound live is).frame real) in
        alike_released S roles one e.frame (Page r.count) (went.real real) r.page refl

-- a table without a page is freed
pub counted_freed : (S : Spaces) (roles last : List Role) (counts : List ℕ) (freed : Option ℕ) → IsCounted S roles counts → ((t : ℕ) → freed ≡ Some t → slice_get counts t ≡ Some 0) → TableFreed roles freed last → IsCounted S last counts
counted_freed S roles last counts freed C none went = by freed refl
  where
    by : (x : Option ℕ) → freed ≡ x → IsCounted S last counts
    by None is = λ f. C f ∙ ap (λ l. pages_under S l f) (sym (went.kept is))
    by (Some t) is =
        let rel = went.released t is in
        let e : Some (pages_by S rel.role) ≡ Some 0 = sym (C t ∙ ap (option_map (pages_by S)) rel.was) ∙ none t is in
        let zero : pages_by S rel.role ≡ 0 = cc in
        counted_roles S roles last counts (alike_released S roles last t rel.role rel rel.was zero) C

-- a table that was freed was the page's
pub table_freed : (m m' : ℕ → List ℕ) (d page t : ℕ) (e : PageEntry) (freed : Option ℕ) → entry_at m d page ≡ Some e → IsCleared m d page freed m' → freed ≡ Some t → table_of m d (slot_number page) ≡ Some t
table_freed m m' d page t e freed is cleared came = grind (arith, table_there, table_mapped)

-- ---- At first

none_at_all : (S : Spaces) (n f : ℕ) → slice_get (replicate n 0) f ≡ option_map (pages_by S) (slice_get (replicate n Free) f)
none_at_all S zero f = refl
none_at_all S (suc n) zero = refl
none_at_all S (suc n) (suc f) = none_at_all S n f

-- frame 0 is reserved and all others are free, and none maps a page
pub opening_counted : (S : Spaces) (n : ℕ) → IsCounted S (opening_roles n) (replicate n 0)
unfolding opening_roles
opening_counted S zero f = refl
opening_counted S (suc n) zero = refl
opening_counted S (suc n) (suc f) = none_at_all S n f
