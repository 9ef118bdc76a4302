-- What memory and the book together represent: the image of a view is sound, and represents one state.
use Rattle.process_table.proofs.Prelude.{◌≡◌, ℕ, ◌+◌, ◌<◌, ◌≤◌, Bool, true, cond, List, [], ◌∷◌, length, refl, sym, ap, subst, ◌∙◌, Some, is_some, sum_by, arith, unwrap_or, ◌*◌, filter, nat_lt, option_map, range_with_len, sum_by-cons, slice_get_within, slot_number, index_number, Slot, Spaces, pages_of, regions_of, cost, at_page, table_at, page_word, directory_of, contains-pages_of, Member, is_child, given, quota_of, State, is_live, View, Account, as_account, account_of, memory_of, IsCharge, quota_from, IsSoundImage, StandsFor, is_some-map, some_value, same_map, Table, region_member, region_there, stands_for_one, StandsForOne}
use Rattle.process_table.specs.Image.{image_of}
use Rattle.process_table.proofs.Ranges.{found, sum-same, sum-range}
use Rattle.page_words.specs.FiniteMap as map
use Rattle.page_words.specs.FiniteSet as set
use Rattle.address_space.specs.Image as memory
use Rattle.std.proofs.lemmas.Bool.Decides.{nat_tests}

-- ---- What a process is charged for

module _ (M : memory.Image) (S : Spaces) (stands : memory.StandsFor M S) (p : ℕ) where
  abbrev page_at : ℕ → Slot
  page_at page = at_page p page

  page_is : (page : ℕ) → set.contains (pages_of S p) page ≡ is_some (page_word M (page_at page))
  page_is page = contains-pages_of S p page ∙ (grind arith)

  -- the table of a mapped page is named
  named-region : (s : ℕ) → set.contains (regions_of (pages_of S p)) s ≡ true → is_some (table_at M p s) ≡ true
  named-region s h = grind (arith, region_member, page_is)

  -- a table that is named has a present word, which is a mapped page of its region
  region-named : (s t : ℕ) → table_at M p s ≡ Some t → set.contains (regions_of (pages_of S p)) s ≡ true
  region-named s t is =
      let used = stands.sound.in_use p s t is in
      let page : ℕ = s * 1024 + used.0 in
      let region : slot_number page ≡ s = omega (arith, used.1) in
      let index : index_number page ≡ used.0 = omega (arith, used.1) in
      let inside = slice_get_within M.roles t (Table p s) ((stands.sound.tables t p s).1 is) in
      let small : nat_lt t (length M.roles) ≡ true = grind (arith, nat_tests) in
      grind (arith, region_there, page_is)

  -- a process's cost counts its directory, tables and pages
  pub charge-stands : IsCharge M p (cost S p)
  charge-stands = record {
    tables = set.len (regions_of (pages_of S p));
    pages = set.len (pages_of S p);
    named = record { members = regions_of (pages_of S p); are = λ s. (named-region s, λ h. (grind (arith, region-named))); count = refl };
    mapped = record { members = pages_of S p; are = λ page. (λ h. sym (page_is page) ∙ h, λ h. page_is page ∙ h); count = refl };
    sum = refl;
  }

-- ---- What a process gives

-- a sum over what passes a test is one with 0 for the others
pub sum-filter : {A : Type 0} (f : A → ℕ) (t : A → Bool) (es : List A) → sum_by f (filter t es) ≡ sum_by (λ e. cond (t e) (f e) 0) es
sum-filter f t [] = refl
sum-filter f t (e ∷ es) =
    (grind (arith, sum_by-cons))
    ∙ ap (λ n. cond (t e) (f e) 0 + n) (sum-filter f t es)
    ∙ sym (sum_by-cons (λ e. cond (t e) (f e) 0) e es)

pub given-range : (s : State) (p : ℕ) → ((k : ℕ) (m : Member) → map.get s.book k ≡ Some m → k < 64) → given s.book p ≡ sum_by (λ q. quota_from p q (account_of s q)) (range_with_len 0 64)
given-range s p small =
    sum-filter (λ (e : ℕ × Member). e.1.quota) (is_child p) s.book.entries
    ∙ sum-range s.book (λ k m. cond (is_child p (k, m)) m.quota 0) 64 small
    ∙ sum-same (λ k. found (λ m. cond (is_child p (k, m)) m.quota 0) (map.get s.book k)) (λ q. quota_from p q (account_of s q)) (range_with_len 0 64) (λ q. (grind arith))

-- ---- The image of a view

module _ (v : View) (stands : memory.StandsFor (memory_of v) v.state.spaces) (live : (p : ℕ) → is_some (directory_of v.directories p) ≡ is_live v.state p)
    (root_quota : 1 + quota_of v.state.book 0 ≡ length v.roles) (root : is_live v.state 0 ≡ true)
    (members : (p : ℕ) (member : Member) → map.get v.state.book p ≡ Some member → (p < 64) × (is_live v.state member.parent ≡ true))
    (rooms : (p : ℕ) → is_live v.state p ≡ true → cost v.state.spaces p + given v.state.book p ≤ quota_of v.state.book p) where
  quota_is : (p : ℕ) (m : Member) → map.get v.state.book p ≡ Some m → quota_of v.state.book p ≡ m.quota
  quota_is p m h = ap (λ o. unwrap_or (option_map (λ (m : Member). m.quota) o) 0) h

  root_there : (m : Member) × (map.get v.state.book 0 ≡ Some m)
  root_there = some_value (map.get v.state.book 0) root

  member_of : (p : ℕ) (c : Account) → account_of v.state p ≡ Some c → (m : Member) × (map.get v.state.book p ≡ Some m) × (as_account v.state p m ≡ c)
  member_of p c h = grind arith

  parent_there : (p : ℕ) (c : Account) → account_of v.state p ≡ Some c → is_some (account_of v.state c.parent) ≡ true
  parent_there p c h = grind (arith, member_of, is_some-map)

  within_quota : (p : ℕ) (c : Account) → account_of v.state p ≡ Some c → c.used + c.given ≤ c.quota
  within_quota p c h = grind (arith, member_of, quota_is)

  sound_image : IsSoundImage (image_of v)
  sound_image = record {
    memory = stands.sound;
    root = (as_account v.state 0 root_there.0, ap (option_map (λ m. as_account v.state 0 m)) root_there.1, ap suc_of (sym (quota_is 0 root_there.0 root_there.1)) ∙ root_quota);
    live = λ p. is_some-map (λ m. as_account v.state p m) (map.get v.state.book p) ∙ sym (live p);
    parents = parent_there;
    given = λ p c h. ap (λ (c : Account). c.given) (sym (member_of p c h).2) ∙ given-range v.state p (λ k m is. (members k m is).0);
    within = within_quota;
    used = λ p c h. subst (λ (c : Account). IsCharge (memory_of v) p c.used) (member_of p c h).2 (charge-stands (memory_of v) v.state.spaces stands p);
  }
    where
      suc_of : ℕ → ℕ
      suc_of n = 1 + n

  -- the image of a view is sound and stands for its state, where memory and the book agree
  pub image_stands : StandsFor (image_of v) v.state
  image_stands = record { sound = sound_image; memory = stands; accounts = λ p. refl }

-- ---- One state at most

-- an image stands for at most one pair of spaces and book
pub stands_for_one_state : StandsForOne
stands_for_one_state image s t f g = (
  stands_for_one image.memory s.spaces t.spaces f.memory g.memory,
  same_map s.book t.book (λ p. (grind arith)),
)
