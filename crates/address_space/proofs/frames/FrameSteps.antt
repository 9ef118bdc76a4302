-- How tables and entries stay where a page's bytes or its role change, and how a blank table is linked.
use Rattle.address_space.proofs.Prelude.{◌≡◌, ◌≢◌, ℕ, ◌^◌, ◌<◌, ◌≤◌, false, List, length, replicate, ap, sym, ◌∙◌, subst, arith, inl, inr, Some, None, ◌⊎◌, option_and_then, cases_eq, length-replicate, slot_number, index_number, IsKernelDirWord, IsKernelTableWord, is_present, word_in, with_word_in, with_frame, with_frame-same, with_frame-other, word_in_same, word_in_other, length-with_word_in, word_in-zeros, Role, Reserved, Free, Directory, Table, Frames, table_of, word_entry, with_table, without_table, link_word, Slot, Directories, Roles, table_in, entry_in, entries_in, Tables, InUseAt, link_word-lt, word_table-link_word, link_word-names}
use Rattle.address_space.proofs.entries.EntrySteps.{Loose, same_entries, entry_by_table, entry_kept}

-- ---- A frame's bytes

module _ (D : Directories) (m : Frames) (R : Roles) (T : Tables D m R) (f : ℕ) (new : List ℕ) (loose : Loose R f) where
  pub loose-directory : (q d : ℕ) → D q ≡ Some d → with_frame m f new d ≡ m d
  loose-directory q d is = with_frame-other m f d new (λ same. loose.no_directory q (sym (ap R same) ∙ T.directory q d is))

  pub loose-tables : (q s : ℕ) → table_in D (with_frame m f new) q s ≡ table_in D m q s
  loose-tables q s = grind (arith, loose-directory)

  pub loose-table : (q s t : ℕ) → table_in D m q s ≡ Some t → with_frame m f new t ≡ m t
  loose-table q s t is = with_frame-other m f t new (λ same. loose.no_table q s (sym (ap R same) ∙ T.table q s t is))

  pub loose-entry : (q : Slot) → entry_in D (with_frame m f new) q ≡ entry_in D m q
  loose-entry q = entry_kept D D m (with_frame m f new) q (loose-tables q.pid (slot_number q.page)) (loose-table q.pid (slot_number q.page))

  pub loose-entries : entries_in D (with_frame m f new) ≡ entries_in D m
  loose-entries = same_entries D m (with_frame m f new) loose-entry

  pub tables-loose : length new ≡ 4096 → Tables D (with_frame m f new) R
  tables-loose l =
      grind (arith, with_frame-other, loose-tables, loose-directory, loose-table, cases_eq, with_frame-same)

  pub use_loose : (q r : ℕ) → InUseAt D m q r → InUseAt D (with_frame m f new) q r
  use_loose q r use_at g found = grind (arith, loose-tables, loose-table)

-- ---- A role

-- one frame's role changes, and it is loose before and after
pub tables-role : (D : Directories) (m : Frames) (R R' : Roles) (f : ℕ) (was : Role) → Tables D m R → R f ≡ Some was → Loose R f → Loose R' f → ((g : ℕ) → g ≢ f → R' g ≡ R g) → Tables D m R'
tables-role D m R R' f was h known before after others = grind (arith, cases_eq)

-- ---- A blank table is linked

-- a process has one directory
one_directory : (D : Directories) (p q d d' : ℕ) → D p ≡ Some d → D q ≡ Some d' → q ≡ p → d' ≡ d
one_directory D p q d d' live is side = let here : D q ≡ D p = ap D side in cc

pub here_or_not : (p s q r : ℕ) → ((q ≡ p) × (r ≡ s)) ⊎ (q ≡ p → r ≡ s → ⊥)
here_or_not p s q r = grind (arith, cases_eq)

module _ (D : Directories) (m : Frames) (R : Roles) (T : Tables D m R) (p d s t : ℕ) (live : D p ≡ Some d) (none : table_of m d s ≡ None) (free : R t ≡ Some Free) (small : t < 2 ^ 20) (low : 256 ≤ s) (high : s < 960) where
  apart : t ≢ d
  apart is = let a = T.directory p d live in let k : R t ≡ R d = ap R is in let b = free in cc

  long_d : length (m d) ≡ 4096
  long_d = T.long d (Directory p) (T.directory p d live)

  one_up : 1 ≤ t
  one_up = let n : t ≢ 0 = (λ is. let a = T.zero_role in let k : R t ≡ R 0 = ap R is in let b = free in cc) in omega arith

  none_in : table_in D m p s ≡ None
  none_in = ap (option_and_then (λ d. table_of m d s)) live ∙ none

  own_table : with_table m d s t t ≡ replicate 4096 0
  own_table = with_frame-other (with_frame m t (replicate 4096 0)) d t (with_word_in (m d) s (link_word t)) apart ∙ with_frame-same m t (replicate 4096 0)

  pub linked-other : (g : ℕ) → g ≢ d → g ≢ t → with_table m d s t g ≡ m g
  linked-other g a b = with_frame-other (with_frame m t (replicate 4096 0)) d g (with_word_in (m d) s (link_word t)) a ∙ with_frame-other m t g (replicate 4096 0) b

  not_t : (g : ℕ) (r : Role) → R g ≡ Some r → (r ≡ Free → ⊥) → g ≢ t
  not_t g r is n same = n (let k : R g ≡ R t = ap R same in let f = free in cc)

  dir_other : (q d' : ℕ) → D q ≡ Some d' → q ≢ p → with_table m d s t d' ≡ m d'
  dir_other q d' is n = grind (arith, T.directory q d' is, linked-other, not_t)

  pub linked-own : table_in D (with_table m d s t) p s ≡ Some t
  linked-own = grind (arith, word_in_same, long_d, link_word-lt, word_table-link_word)

  pub linked-others : (q r : ℕ) → (q ≡ p → r ≡ s → ⊥) → table_in D (with_table m d s t) q r ≡ table_in D m q r
  linked-others q r n = grind (arith, cases_eq, dir_other, one_directory, word_in_other, long_d)

  pub kept_table : (q r f : ℕ) → table_in D m q r ≡ Some f → with_table m d s t f ≡ m f
  kept_table q r f is = grind (arith, T.table q r f is, linked-other, not_t)

  pub linked-entry : (q : Slot) → entry_in D (with_table m d s t) q ≡ entry_in D m q
  linked-entry q = elim (here_or_not p s q.pid (slot_number q.page)) [
    | inl h ↦
        entry_by_table D (with_table m d s t) q
        ∙ ap (option_and_then (λ table. word_entry (word_in (with_table m d s t table) (index_number q.page)))) ((λ i. table_in D (with_table m d s t) (h.0 i) (h.1 i)) ∙ linked-own)
        ∙ ap (λ l. word_entry (word_in l (index_number q.page))) own_table
        ∙ ap word_entry (word_in-zeros 4096 (index_number q.page) (omega arith))
        ∙ sym (ap (option_and_then (λ table. word_entry (word_in (m table) (index_number q.page)))) ((λ i. table_in D m (h.0 i) (h.1 i)) ∙ none_in))
        ∙ sym (entry_by_table D m q)
    | inr n ↦ entry_kept D D m (with_table m d s t) q (linked-others q.pid (slot_number q.page) n) (kept_table q.pid (slot_number q.page))
  ]

  pub linked-entries : entries_in D (with_table m d s t) ≡ entries_in D m
  linked-entries = same_entries D m (with_table m d s t) linked-entry

  dir_word_kept : (q d' r : ℕ) → D q ≡ Some d' → (q ≡ p → r ≡ s → ⊥) → word_in (with_table m d s t d') r ≡ word_in (m d') r
  dir_word_kept q d' r is n = grind (arith, cases_eq, one_directory, word_in_other, long_d, dir_other)

  pub tables-linked : (R' : Roles) → R' t ≡ Some (Table p s) → ((g : ℕ) → g ≢ t → R' g ≡ R g) → Tables D (with_table m d s t) R'
  tables-linked R' own others = record {
    zero_role = others 0 (not_t 0 Reserved T.zero_role (λ e. cc)) ∙ T.zero_role;
    zero_bytes = linked-other 0 (λ is. let k : R 0 ≡ R d = ap R is in let a = T.zero_role in let b = T.directory p d live in cc) (not_t 0 Reserved T.zero_role (λ e. cc)) ∙ T.zero_bytes;
    reserved = λ g is. T.reserved g (sym (others g (λ same. let k : R' g ≡ R' t = ap R' same in let o = own in cc)) ∙ is);
    directory = λ q d' is. let a = T.directory q d' is in others d' (not_t d' (Directory q) a (λ e. cc)) ∙ a;
    directory_back = λ q d' is. T.directory_back q d' (sym (others d' (λ same. let k : R' d' ≡ R' t = ap R' same in let o = own in cc)) ∙ is);
    table = grind (arith, here_or_not, linked-own, linked-others, not_t);
    table_back = grind (arith, cases_eq, linked-own, linked-others, none_in);
    dir_words = λ q d' r is h. elim (here_or_not p s q r) [
      | inl x ↦ grind (arith, one_directory, word_in_same, long_d, link_word-lt, link_word-names, one_up)
      | inr n ↦ subst IsKernelDirWord (sym (dir_word_kept q d' r is n)) (T.dir_words q d' r is h)
    ];
    outside = λ q d' r is h o. dir_word_kept q d' r is (λ a b. (grind arith)) ∙ T.outside q d' r is h o;
    table_words = λ q r f i is h. elim (here_or_not p s q r) [
      | inl x ↦
          let e : Some f ≡ Some t = sym is ∙ (λ i. table_in D (with_table m d s t) (x.0 i) (x.1 i)) ∙ linked-own in
          let f_t : f ≡ t = cc in
          inl (ap (λ g. word_in (with_table m d s t g) i) f_t ∙ ap (λ l. word_in l i) own_table ∙ word_in-zeros 4096 i (omega arith))
      | inr n ↦ let old = sym (linked-others q r n) ∙ is in subst (λ w. IsKernelTableWord (word_in w i)) (sym (kept_table q r f old)) (T.table_words q r f i old h)
    ];
    long =
        grind (arith, cases_eq, own_table, length-replicate, length-with_word_in, long_d, linked-other);
  }

-- ---- A table is unlinked

module _ (D : Directories) (m : Frames) (R : Roles) (T : Tables D m R) (p d s t : ℕ) (live : D p ≡ Some d) (there : table_of m d s ≡ Some t) (s_small : s < 1024) where
  gone_dir : (g : ℕ) → g ≢ d → without_table m d s g ≡ m g
  gone_dir g n = with_frame-other m d g _ n

  own_dir : without_table m d s d ≡ with_word_in (m d) s 0
  own_dir = with_frame-same m d (with_word_in (m d) s 0)

  long_dir : length (m d) ≡ 4096
  long_dir = T.long d (Directory p) (T.directory p d live)

  there_in : table_in D m p s ≡ Some t
  there_in = ap (option_and_then (λ x. table_of m x s)) live ∙ there

  pub unlinked-own : table_in D (without_table m d s) p s ≡ None
  unlinked-own = grind (arith, own_dir, word_in_same, long_dir)

  word_elsewhere : (q d' r : ℕ) → D q ≡ Some d' → (q ≡ p → r ≡ s → ⊥) → word_in (without_table m d s d') r ≡ word_in (m d') r
  word_elsewhere q d' r is n =
      grind (arith, T.directory q d' is, T.directory p d live, cases_eq, own_dir, word_in_other, long_dir, gone_dir)

  pub unlinked-others : (q r : ℕ) → (q ≡ p → r ≡ s → ⊥) → table_in D (without_table m d s) q r ≡ table_in D m q r
  unlinked-others q r n = grind (arith, word_elsewhere)

  -- a table, and every frame but the directory, keeps its bytes
  pub unlinked-table : (q r f : ℕ) → table_in D m q r ≡ Some f → without_table m d s f ≡ m f
  unlinked-table q r f is = gone_dir f (λ same. let a = T.table q r f is in let b = T.directory p d live in let k : R f ≡ R d = ap R same in cc)

  pub tables-unlinked : (R' : Roles) → R' t ≡ Some Free → ((g : ℕ) → g ≢ t → R' g ≡ R g) → Tables D (without_table m d s) R'
  tables-unlinked R' own others = record {
    zero_role = others 0 (λ is. let a = T.zero_role in let b = T.table p s t there_in in let k : R 0 ≡ R t = ap R is in cc) ∙ T.zero_role;
    zero_bytes = gone_dir 0 (λ is. let a = T.zero_role in let b = T.directory p d live in let k : R 0 ≡ R d = ap R is in cc) ∙ T.zero_bytes;
    reserved = λ g is. T.reserved g (sym (others g (λ same. let k : R' g ≡ R' t = ap R' same in let o = own in cc)) ∙ is);
    directory = λ q d' is. let a = T.directory q d' is in others d' (λ same. let b = T.table p s t there_in in let k : R d' ≡ R t = ap R same in cc) ∙ a;
    directory_back = λ q d' is. T.directory_back q d' (sym (others d' (λ same. let k : R' d' ≡ R' t = ap R' same in let o = own in cc)) ∙ is);
    table = grind (arith, here_or_not, unlinked-own, unlinked-others, there_in);
    table_back = grind (arith, unlinked-others, there_in);
    dir_words = λ q d' r is h. elim (here_or_not p s q r) [
      | inl x ↦ grind (arith, own_dir, word_in_same, long_dir)
      | inr n ↦ subst IsKernelDirWord (sym (word_elsewhere q d' r is n)) (T.dir_words q d' r is h)
    ];
    outside = grind (arith, here_or_not, own_dir, word_in_same, long_dir, word_elsewhere);
    table_words = grind (arith, here_or_not, unlinked-own, unlinked-others, unlinked-table);
    long = grind (arith, cases_eq, own_dir, length-with_word_in, long_dir, gone_dir, there_in);
  }

  pub unlinked-entry : ((i : ℕ) → i < 1024 → is_present (word_in (m t) i) ≡ false) → (q : Slot) → entry_in D (without_table m d s) q ≡ entry_in D m q
  unlinked-entry blank q =
      grind (arith, here_or_not, entry_by_table, unlinked-own, there_in, entry_kept, unlinked-others, unlinked-table)
