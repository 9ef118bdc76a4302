-- What a slot that leaves its group leaves.
use Rattle.address_space.proofs.Prelude.{InUse, Tables, Pages, IsSound, InUseAt, IsSpaces, ◌≡◌, ◌≢◌, ℕ, ◌+◌, ◌<◌, ◌≤◌, Bool, true, false, List, length, refl, ap, sym, ◌∙◌, subst, arith, inl, inr, Option, Some, None, length-set, ◌-◌, ◌⊎◌, slice_get, slice_set, if◌then◌else◌, nat_lt, option_and_then, cases_eq, nat_tests, slot_number, is_present, frame_number, frame_bytes, word_in, with_frame-other, Role, Reserved, Free, Table, Page, frames_weight, weight, released, IsInUse, weight-set, PageEntry, Frames, dir_word, table_of, entry_at, IsCleared, without_table, same, Slot, need, is_slot, at_page, Entries, lazy_count, cell_of, spaces_of, holders_of, Directories, Roles, directory_of, table_in, entries_in, spaces_in, total_cost, TableFreed, EntryLeft, SlotRemoved, of_page, PlacesStay}
use Rattle.address_space.proofs.Lemmas.{sound_by, live_small, page_loose, free_loose, table_by_word, role_own, role_other, total-entry, need-one, need-most, Loose, with_word_at, entries-remove, tables-entry, tables_kept, same_entries, here_or_not, tables-role, unlinked-own, unlinked-others, unlinked-table, unlinked-entry, tables-unlinked, same_bytes, pages-role, holders-less, no_table, no_directory, leave_refines, found, get_user, named_entry, page_of_name, page_held, entry_rules, put_back, removed, kept_other, stay_same, stay_then, stay_removed, places_by, entry_needs_table}
use Rattle.page_words.specs.FiniteMap as map
use Rattle.page_words.specs.FiniteSet as set

-- the role after one holder less
after_page : (c : ℕ) → (nat_lt 1 c ≡ true) ⊎ (nat_lt 1 c ≡ false)
after_page c = elim (nat_lt 1 c) as (λ b. (b ≡ true) ⊎ (b ≡ false)) [ true ↦ inl refl | false ↦ inr refl ]

-- pages after an entry went and its frame was released
pages-less : (E : Entries) (R R' : Roles) (slot : Slot) (e : PageEntry) (c : ℕ) → Pages E R → map.get E slot ≡ Some e → R e.frame ≡ Some (Page c) → R' e.frame ≡ Some (released (Page c))
    → ((g : ℕ) → g ≢ e.frame → R' g ≡ R g) → Pages (map.remove E slot) R'
pages-less E R R' slot e c P there was own others = record {
  pages = grind (arith, cases_eq, after_page, no_other, before);
  counts = λ f n is. elim (cases_eq f e.frame) [
    | inl same ↦ elim (after_page c) [
      | inl more ↦ grind (arith, nat_tests, holders-less)
      | inr one ↦ let k : Some Free ≡ Some (Page n) = sym (ap R' same ∙ own ∙ ap (λ b. Some (if b then Page (c - 1) else Free)) one) ∙ is in cc
    ]
    | inr differ ↦ let old = P.counts f n (sym (others f differ) ∙ is) in (old.0, old.1 ∙ sym (ap set.len ((holders-less E slot e there).1 f differ)))
  ];
}
  where
    le_of : (c : ℕ) → nat_lt 1 c ≡ false → c ≤ 1
    le_of c h = grind (arith, nat_tests)

    other_slot : (q : Slot) (d : PageEntry) → map.get (map.remove E slot) q ≡ Some d → q ≡ slot → ⊥
    other_slot q d is same = let k : map.get (map.remove E slot) q ≡ None = ap (map.get (map.remove E slot)) same ∙ removed E slot in cc

    before : (q : Slot) (d : PageEntry) → map.get (map.remove E slot) q ≡ Some d → map.get E q ≡ Some d
    before q d is = sym (kept_other E slot q (other_slot q d is)) ∙ is

    positive : (E : Entries) (q : Slot) (d : PageEntry) (f : ℕ) → map.get E q ≡ Some d → d.frame ≡ f → 1 ≤ set.len (holders_of E f)
    positive E q d f is same =
        omega (arith, (holders-less E q d is).0, ap (λ g. set.len (holders_of E g)) (sym same))

    no_other : (q : Slot) (d : PageEntry) → map.get (map.remove E slot) q ≡ Some d → d.frame ≡ e.frame → nat_lt 1 c ≡ false → ⊥
    no_other q d is same one =
        let less = (holders-less E slot e there).0 in
        let le = le_of c one in
        absurd (omega (arith, positive (map.remove E slot) q d e.frame is same, less, (P.counts e.frame c was).1, le))

-- pages after a lazy entry went
pages-lazy-less : (E : Entries) (R : Roles) (slot : Slot) (e : PageEntry) → Pages E R → map.get E slot ≡ Some e → e.frame ≡ 0 → R 0 ≡ Some Reserved → Pages (map.remove E slot) R
pages-lazy-less E R slot e P there lazy zero = record {
  pages = λ q d is. P.pages q d (sym (kept_other E slot q (λ same. let k : map.get (map.remove E slot) q ≡ None = ap (map.get (map.remove E slot)) same ∙ removed E slot in cc)) ∙ is);
  counts = λ f c is. let old = P.counts f c is in (old.0, old.1 ∙ sym (ap set.len ((holders-less E slot e there).1 f (λ same. let k : R f ≡ R 0 = ap R (same ∙ lazy) in cc))));
}

-- what the roles are after an entry went
record Left (D : Directories) (m : Frames) (E E' : Entries) (roles one : List Role) : Type 0 where
  pub tables : Tables D m (slice_get one)
  pub pages : Pages E' (slice_get one)
  pub weight : frames_weight one + lazy_count E' + 1 ≡ frames_weight roles + lazy_count E
  pub length : length one ≡ length roles

lighter : (c : ℕ) → 0 < c → weight (released (Page c)) + 1 ≡ c
lighter c pos = grind arith

entry_left : (directories : List (Option ℕ)) (bytes : List ℕ) (roles one : List Role) (p d page : ℕ) (e : PageEntry) (m1 : Frames) → IsSound directories bytes roles → directory_of directories p ≡ Some d
    → entry_at (frame_bytes bytes) d page ≡ Some e → map.get (entries_in (directory_of directories) (frame_bytes bytes)) (at_page p page) ≡ Some e
    → Tables (directory_of directories) m1 (slice_get roles) → EntryLeft roles e one
    → Left (directory_of directories) m1 (entries_in (directory_of directories) (frame_bytes bytes)) (map.remove (entries_in (directory_of directories) (frame_bytes bytes)) (at_page p page)) roles one
entry_left directories bytes roles one p d page e m1 sound live is_entry there Ta went = by e.lazy refl
  where
    D : Directories
    D = directory_of directories

    E : Entries
    E = entries_in D (frame_bytes bytes)

    slot : Slot
    slot = at_page p page

    by : (b : Bool) → e.lazy ≡ b → Left D m1 E (map.remove E slot) roles one
    by true is =
        let zero = (entry_rules directories bytes roles p d page e sound live is_entry).zero is in
        let same = went.lazy is in
        let x : set.len (holders_of E e.frame) ≡ lazy_count E = ap (λ g. set.len (holders_of E g)) zero in
        let y : set.len (holders_of (map.remove E slot) e.frame) ≡ lazy_count (map.remove E slot) = ap (λ g. set.len (holders_of (map.remove E slot) g)) zero in
        record {
          tables = subst (λ l. Tables D m1 (slice_get l)) (sym same) Ta;
          pages = subst (λ l. Pages (map.remove E slot) (slice_get l)) (sym same) (pages-lazy-less E (slice_get roles) slot e sound.pages there zero sound.tables.zero_role);
          weight = omega (arith, (holders-less E slot e there).0, x, y, ap frames_weight same);
          length = ap length same;
        }
    by false is =
        let R : Roles = slice_get roles in
        let Ra : Roles = slice_get one in
        let up : 1 ≤ e.frame = (entry_rules directories bytes roles p d page e sound live is_entry).frame is in
        let rel = went.real is in
        let held = page_held directories bytes roles e.frame sound (sound.pages.pages slot e there) up in
        let c : ℕ = held.count in
        let was : R e.frame ≡ Some (Page c) = held.page in
        let role_is : rel.role ≡ Page c = (let a : Some rel.role ≡ Some (Page c) = sym rel.was ∙ was in cc) in
        let own : Ra e.frame ≡ Some (released (Page c)) = role_own roles one e.frame rel.role (released rel.role) rel.was rel.now ∙ ap (λ r. Some (released r)) role_is in
        let others : (g : ℕ) → g ≢ e.frame → Ra g ≡ R g = role_other roles one e.frame (released rel.role) rel.now in
        let loose : Loose Ra e.frame = elim (after_page c) [
          | inl more ↦ page_loose Ra e.frame (c - 1) (own ∙ ap (λ b. Some (if b then Page (c - 1) else Free)) more)
          | inr last_one ↦ free_loose Ra e.frame (own ∙ ap (λ b. Some (if b then Page (c - 1) else Free)) last_one)
        ] in
        let n : frames_weight one ≡ frames_weight (slice_set roles e.frame (released rel.role)) = ap frames_weight rel.now in
        let x : weight rel.role ≡ c = ap weight role_is in
        let y : weight (released rel.role) ≡ weight (released (Page c)) = ap (λ r. weight (released r)) role_is in
        let z = lighter c (sound.pages.counts e.frame c was).0 in
        let l : lazy_count (map.remove E slot) ≡ lazy_count E = ap set.len ((holders-less E slot e there).1 0 (λ same. omega (arith, same, up))) in
        record {
          tables = tables-role D m1 R Ra e.frame (Page c) Ta was (page_loose R e.frame c was) loose others;
          pages = pages-less E R Ra slot e c sound.pages there was own others;
          weight = omega (arith, weight-set roles e.frame rel.role (released rel.role) rel.was, n, x, y, z, l);
          length = ap length rel.now ∙ length-set roles e.frame (released rel.role);
        }

-- what memory and the roles are after an entry went, and its table where it was the last
record Gone (directories : List (Option ℕ)) (p page : ℕ) (bytes : List ℕ) (roles : List Role) (m2 : Frames) (last : List Role) : Type 0 where
  pub entries : entries_in (directory_of directories) m2 ≡ map.remove (entries_in (directory_of directories) (frame_bytes bytes)) (at_page p page)
  pub tables : Tables (directory_of directories) m2 (slice_get last)
  pub pages : Pages (map.remove (entries_in (directory_of directories) (frame_bytes bytes)) (at_page p page)) (slice_get last)
  pub kept : (q : Slot) (x : PageEntry) → map.get (map.remove (entries_in (directory_of directories) (frame_bytes bytes)) (at_page p page)) q ≡ Some x → m2 x.frame ≡ frame_bytes bytes x.frame
  pub in_use : InUse (directory_of directories) m2
  pub fits : frames_weight last + lazy_count (map.remove (entries_in (directory_of directories) (frame_bytes bytes)) (at_page p page))
      + need (spaces_of (map.remove (entries_in (directory_of directories) (frame_bytes bytes)) (at_page p page)) m2) p page ≤ frames_weight roles + lazy_count (entries_in (directory_of directories) (frame_bytes bytes))
  pub length : length last ≡ length roles
  pub stay : PlacesStay (of_page p page) (directory_of directories) (frame_bytes bytes) (directory_of directories) m2

pub slot_removed : (directories : List (Option ℕ)) (bytes two : List ℕ) (roles one last : List Role) (p d page : ℕ) (e : PageEntry) (freed : Option ℕ) → IsSpaces directories bytes roles → directory_of directories p ≡ Some d
    → 0x40000 ≤ page → page < 0xf0000 → entry_at (frame_bytes bytes) d page ≡ Some e → IsCleared (frame_bytes bytes) d page freed (frame_bytes two) → length two ≡ length bytes
    → EntryLeft roles e one → TableFreed one freed last → SlotRemoved directories p page bytes roles two last
unfolding spaces_in
slot_removed directories bytes two roles one last p d page e freed spaces live low high is_entry cleared same_bytes_length went table_freed =
    let sound = spaces.sound in
    let few : p < 64 = live_small directories p d sound.pids live in
    let D : Directories = directory_of directories in
    let m : Frames = frame_bytes bytes in
    let R : Roles = slice_get roles in
    let Ra : Roles = slice_get one in
    let s : ℕ = slot_number page in
    let slot : Slot = at_page p page in
    let f = found D m p d page e is_entry in
    let E : Entries = entries_in D m in
    let E' : Entries = map.remove E slot in
    let m1 : Frames = with_word_at m f.table page 0 in
    let there : map.get E slot ≡ Some e = get_user D m p d page e live few low high is_entry in
    let named : table_in D m p s ≡ Some f.table = ap (option_and_then (λ x. table_of m x s)) live ∙ f.there in
    let role_t : R f.table ≡ Some (Table p s) = sound.tables.table p s f.table named in
    let word_is : frame_number (dir_word m d s) ≡ f.table = table_by_word (dir_word m d s) f.table f.there in
    let E1 : entries_in D m1 ≡ E' = entries-remove D m R sound.tables p d page f.table 0 live f.there (omega arith) refl in
    let left = entry_left directories bytes roles one p d page e m1 sound live is_entry there (tables-entry D m R sound.tables p d page f.table 0 live f.there (omega arith) (inl refl)) went in
    let tables1 : (q r : ℕ) → table_in D m1 q r ≡ table_in D m q r = tables_kept D m R sound.tables p d page f.table 0 live f.there (omega arith) in
    let named1 : table_in D m1 p s ≡ Some f.table = tables1 p s ∙ named in
    let t1 : Ra f.table ≡ Some (Table p s) = left.tables.table p s f.table named1 in
    -- a page's bytes stay
    let kept1 : (q : Slot) (x : PageEntry) → map.get E' q ≡ Some x → m1 x.frame ≡ m x.frame =
    λ q x is. with_frame-other m f.table x.frame _ (no_table Ra x.frame f.table p s (left.pages.pages q x is) t1) in
    -- other tables keep their bytes and their entries
    let use_other : (q r : ℕ) → (q ≡ p → r ≡ s → ⊥) → InUseAt D m1 q r = λ q r n g found.
    (let old = sym (tables1 q r) ∙ found in
    let u = spaces.in_use q r g old in
    (u.0, u.1, ap (λ l. is_present (word_in l u.0)) (with_frame-other m f.table g _ (λ same. let a = sound.tables.table q r g old in let k : R g ≡ R f.table = ap R same in let b = role_t in let q_p : q ≡ p = cc in let r_s : r ≡ s = cc in n q_p r_s)) ∙ u.2)) in
    let gone : Gone directories p page bytes roles (frame_bytes two) last = elim freed as (λ x. freed ≡ x → Gone directories p page bytes roles (frame_bytes two) last) [
      | None ↦ λ none.
          let k = cleared.kept none in
          let is : frame_bytes two ≡ m1 = k.0 ∙ ap (λ g. with_word_at m g page 0) word_is in
          let same_roles : last ≡ one = table_freed.kept none in
          let use_own : InUseAt D m1 p s = λ g found.
          (let e_g : Some g ≡ Some f.table = sym found ∙ named1 in
          let g_t : g ≡ f.table = cc in
          (k.1.0, k.1.1, ap (λ x. is_present (word_in (m1 x) k.1.0)) g_t ∙ sym ((λ i. is_present (word_in (is i (word_is i)) k.1.0))) ∙ k.1.2)) in
          let one_more : need (spaces_of E' m1) p page ≡ 1 = ap (λ x. need (spaces_of x m1) p page) (sym E1) ∙ need-one D m1 p page f.table few low high named1 use_own in
          let w1 = left.weight in
          let bare : Gone directories p page bytes roles m1 one = record {
            entries = E1;
            tables = left.tables;
            pages = left.pages;
            kept = kept1;
            in_use = λ q r. elim (here_or_not p s q r) [
              | inl h ↦ λ t found. use_own t ((λ i. table_in D m1 (sym h.0 i) (sym h.1 i)) ∙ found)
              | inr n ↦ use_other q r n
            ];
            fits = omega (arith, w1, one_more);
            length = left.length;
            stay = places_by (of_page p page) D m D m1 (stay_then (of_page p page) E E' (entries_in D m1) (stay_removed E p page) (stay_same (of_page p page) E' (entries_in D m1) E1)) (λ q r t found. tables1 q r ∙ found);
          } in
          subst (λ x. Gone directories p page bytes roles x last) (sym is) (subst (Gone directories p page bytes roles m1) (sym same_roles) bare)
      | Some g ↦ λ some.
          let k = cleared.unlinked g some in
          let g_t : g ≡ f.table = k.0 ∙ word_is in
          let s_small : s < 1024 = omega arith in
          let m2 : Frames = without_table m1 d s in
          let is : frame_bytes two ≡ m2 = k.1 ∙ ap (λ x. without_table (with_word_at m x page 0) d s) g_t in
          let there1 : table_of m1 d s ≡ Some f.table = sym (ap (option_and_then (λ x. table_of m1 x s)) live) ∙ named1 in
          let blank : (i : ℕ) → i < 1024 → is_present (word_in (m1 f.table) i) ≡ false = λ i l. (λ j. is_present (word_in (with_word_at m (sym g_t j) page 0 (sym g_t j)) i)) ∙ k.2 i l in
          let freed_t = table_freed.released g some in
          let was_t : Some freed_t.role ≡ Some (Table p s) = sym freed_t.was ∙ ap Ra g_t ∙ t1 in
          let role_g : freed_t.role ≡ Table p s = cc in
          let own2 : slice_get last f.table ≡ Some Free = ap (slice_get last) (sym g_t) ∙ role_own one last g freed_t.role (released freed_t.role) freed_t.was freed_t.now ∙ ap (λ r. Some (released r)) role_g in
          let others2 : (h : ℕ) → h ≢ f.table → slice_get last h ≡ Ra h = λ h n. role_other one last g (released freed_t.role) freed_t.now h (λ x. n (x ∙ g_t)) in
          let E2 : entries_in D m2 ≡ E' = same_entries D m1 m2 (unlinked-entry D m1 Ra left.tables p d s f.table live there1 s_small blank) ∙ E1 in
          let no_own : table_in D m2 p s ≡ None = unlinked-own D m1 Ra left.tables p d s f.table live there1 s_small in
          let other : (q r : ℕ) → (q ≡ p → r ≡ s → ⊥) → table_in D m2 q r ≡ table_in D m1 q r = unlinked-others D m1 Ra left.tables p d s f.table live there1 s_small in
          let a = weight-set one g freed_t.role (released freed_t.role) freed_t.was in
          let n : frames_weight last ≡ frames_weight (slice_set one g (released freed_t.role)) = ap frames_weight freed_t.now in
          let x : weight freed_t.role ≡ 1 = ap weight role_g in
          let w1 = left.weight in
          let stays = stay_then (of_page p page) E E' (entries_in D m2) (stay_removed E p page) (stay_same (of_page p page) E' (entries_in D m2) E2) in
          subst (λ x. Gone directories p page bytes roles x last) (sym is) (record {
            entries = E2;
            tables = tables-unlinked D m1 Ra left.tables p d s f.table live there1 s_small (slice_get last) own2 others2;
            pages = pages-role E' Ra (slice_get last) f.table left.pages (λ h. cc) (λ c h. cc) (λ c h. cc) others2;
            kept = λ q x found. with_frame-other m1 d x.frame _ (no_directory Ra x.frame d p (left.pages.pages q x found) (left.tables.directory p d live)) ∙ kept1 q x found;
            in_use = λ q r. elim (here_or_not p s q r) [
              | inl h ↦ λ t found. (let e : None ≡ Some t = sym no_own ∙ (λ i. table_in D m2 (sym h.0 i) (sym h.1 i)) ∙ found in cc)
              | inr n ↦ λ t found.
                  (let before = sym (other q r n) ∙ found in
                  let u = use_other q r n t before in
                  (u.0, u.1, ap (λ l. is_present (word_in l u.0)) (unlinked-table D m1 Ra left.tables p d s f.table live there1 s_small q r t before) ∙ u.2))
            ];
            fits = omega (arith, w1, a, n, x, ap (λ r. weight (released r)) role_g, need-most (spaces_of E' m2) p page);
            length = ap length freed_t.now ∙ length-set one g (released freed_t.role) ∙ left.length;
            stay = record {
              entries = stays;
              -- where the page's table went, each slot with an entry is in another
              tables = λ q g t stay names found. elim (here_or_not p s q.pid (slot_number q.page)) [
                | inl h ↦ absurd (entry_needs_table D m2 q g ((λ i. table_in D m2 (h.0 i) (h.1 i)) ∙ no_own) (stays q g stay names))
                | inr n ↦ other q.pid (slot_number q.page) n ∙ tables1 q.pid (slot_number q.page) ∙ found
              ];
            };
          })
    ] refl in
    let m2 : Frames = frame_bytes two in
    let cost : total_cost directories (spaces_of E m) ≡ total_cost directories (spaces_of E' m2) + need (spaces_of E' m2) p page =
    ap (λ x. total_cost directories (spaces_of x m)) (sym (put_back E slot e there)) ∙ total-entry directories E' m2 m slot e (cell_of E m slot e) d few live (removed E slot) in
    let total : total_cost directories (spaces_of (entries_in D m2) m2) ≡ total_cost directories (spaces_of E' m2) = ap (λ x. total_cost directories (spaces_of x m2)) gone.entries in
    let lazy : lazy_count (entries_in D m2) ≡ lazy_count E' = ap lazy_count gone.entries in
    let fits = gone.fits in
    let old = spaces.weighs in
    let within = spaces.within in
    record {
      length = gone.length;
      stay = gone.stay;
      after = grind (arith, sound_by);
      spaces = ap (λ x. spaces_of x m2) gone.entries ∙ same_bytes E' m m2 gone.kept ∙ leave_refines E m (is_slot p page);
    }

-- a table that was unlinked is still a table's frame
pub freed_table : (directories : List (Option ℕ)) (bytes two : List ℕ) (roles one : List Role) (p d page : ℕ) (e : PageEntry) (freed : Option ℕ) → IsSound directories bytes roles → directory_of directories p ≡ Some d
    → 0x40000 ≤ page → page < 0xf0000 → entry_at (frame_bytes bytes) d page ≡ Some e → IsCleared (frame_bytes bytes) d page freed (frame_bytes two) → EntryLeft roles e one → (t : ℕ) → freed ≡ Some t → IsInUse one t
freed_table directories bytes two roles one p d page e freed sound live low high is_entry cleared went t is =
    let D : Directories = directory_of directories in
    let m : Frames = frame_bytes bytes in
    let f = found D m p d page e is_entry in
    let named : table_in D m p (slot_number page) ≡ Some f.table = ap (option_and_then (λ x. table_of m x (slot_number page))) live ∙ f.there in
    let t_is : t ≡ f.table = (cleared.unlinked t is).0 ∙ table_by_word (dir_word m d (slot_number page)) f.table f.there in
    let role : slice_get roles t ≡ Some (Table p (slot_number page)) = ap (slice_get roles) t_is ∙ sound.tables.table p (slot_number page) f.table named in
    record { role = Table p (slot_number page); is = by_lazy role e.lazy refl; in_use = refl }
  where
    by_lazy : slice_get roles t ≡ Some (Table p (slot_number page)) → (b : Bool) → e.lazy ≡ b → slice_get one t ≡ Some (Table p (slot_number page))
    by_lazy role true lazy = ap (λ l. slice_get l t) (went.lazy lazy) ∙ role
    by_lazy role false real =
        let n = named_entry directories bytes roles p d page e sound live low high is_entry in
        let r = page_of_name directories bytes roles (at_page p page) e.frame sound n ((entry_rules directories bytes roles p d page e sound live is_entry).frame real) in
        let rel = went.real real in
        let apart : t ≢ e.frame = λ same. (let k : slice_get roles t ≡ slice_get roles e.frame = ap (slice_get roles) same in let q = r.page in cc) in
        role_other roles one e.frame (released rel.role) rel.now t apart ∙ role
