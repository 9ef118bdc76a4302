-- What a word written into a table or into the directory leaves of the entries, and that the page map
-- stays one.
use Rattle.page_map.proofs.Prelude
use Prelude.{◌≡◌, ◌≢◌, ℕ, ◌^◌, ◌<◌, List, length, refl, ap, sym, ◌∙◌, subst, arith, inl, inr, Option, Some, None, option_and_then, cases_eq, slot_number, index_number, IsKernelDirWord, IsKernelTableWord, frame_bytes, word_in, with_word_in, with_frame, with_frame-same, with_frame-other, Frames, dir_word, word_table, table_of, word_entry, entry_at, TablesApart, IsPageMap, IsForeign, word_in_same, word_in_other, length-with_word_in}

pub map_of_tables : (bytes : List ℕ) (n : ℕ) (m : Frames) (d : ℕ) → TablesApart n m d → frame_bytes bytes ≡ m → length bytes ≡ n → IsPageMap bytes d
map_of_tables bytes n m d T frames size = subst (λ (k : ℕ × Frames). TablesApart k.0 k.1 d) (sym (λ i. (size i, frames i))) T

-- memory with another word at a page, in this table
abbrev pub with_word_at : Frames → ℕ → ℕ → ℕ → Frames
with_word_at m table page w = with_frame m table (with_word_in (m table) (index_number page) w)

-- memory with another directory word at a slot
abbrev pub with_dir_word : Frames → ℕ → ℕ → ℕ → Frames
with_dir_word m d slot w = with_frame m d (with_word_in (m d) slot w)

-- ---- A word of a table is written

module _ (n : ℕ) (m : Frames) (d page t w : ℕ) (T : TablesApart n m d) (small : slot_number page < 1024) (there : table_of m d (slot_number page) ≡ Some t) (lt : w < 2 ^ 32) where
  long_t : length (m t) ≡ 4096
  long_t = T.long t (T.tables_inside (slot_number page) t small there)

  pub dir_kept : with_word_at m t page w d ≡ m d
  dir_kept = with_frame-other m t d (with_word_in (m t) (index_number page) w) (λ same. T.apart (slot_number page) t small there (sym same))

  pub table_kept : (s : ℕ) → table_of (with_word_at m t page w) d s ≡ table_of m d s
  table_kept s = ap (λ l. word_table (word_in l s)) dir_kept

  pub word_own : word_in (with_word_at m t page w t) (index_number page) ≡ w
  word_own = ap (λ l. word_in l (index_number page)) (with_frame-same m t (with_word_in (m t) (index_number page) w)) ∙ word_in_same (m t) (index_number page) w long_t (omega arith) lt

  pub entry_own : entry_at (with_word_at m t page w) d page ≡ word_entry w
  entry_own = grind (arith, table_kept, word_own)

  pub word_other : (s u i : ℕ) → s < 1024 → i < 1024 → table_of m d s ≡ Some u → ((s ≡ slot_number page) → (i ≡ index_number page) → ⊥)
      → word_in (with_word_at m t page w u) i ≡ word_in (m u) i
  word_other s u i small_s small_i found other = elim (cases_eq u t) [
    | inl same ↦
        let slot : s ≡ slot_number page = T.distinct s (slot_number page) t small_s small (found ∙ ap Some same) there in
        ap (λ g. word_in (with_word_at m t page w g) i) same
        ∙ ap (λ l. word_in l i) (with_frame-same m t (with_word_in (m t) (index_number page) w))
        ∙ word_in_other (m t) (index_number page) i w long_t (omega arith) (other slot)
        ∙ ap (λ g. word_in (m g) i) (sym same)
    | inr differ ↦ ap (λ l. word_in l i) (with_frame-other m t u (with_word_in (m t) (index_number page) w) differ)
  ]

  pub entry_other : (q : ℕ) → slot_number q < 1024 → q ≢ page → entry_at (with_word_at m t page w) d q ≡ entry_at m d q
  entry_other q small_q n =
      ap (option_and_then (λ table. word_entry (word_in (with_word_at m t page w table) (index_number q)))) (table_kept (slot_number q))
      ∙ by (table_of m d (slot_number q)) refl
    where
      by : (y : Option ℕ) → table_of m d (slot_number q) ≡ y
          → option_and_then (λ table. word_entry (word_in (with_word_at m t page w table) (index_number q))) y ≡ option_and_then (λ table. word_entry (word_in (m table) (index_number q))) y
      by None found = refl
      by (Some u) found = ap word_entry (word_other (slot_number q) u (index_number q) small_q (omega arith) found (λ s i. n (omega arith)))

  kernel_word : IsKernelTableWord w → (s u i : ℕ) → s < 1024 → i < 1024 → table_of m d s ≡ Some u → IsKernelTableWord (word_in (with_word_at m t page w u) i)
  kernel_word good s u i small_s small_i found = elim (cases_eq s (slot_number page)) [
    | inl slot ↦ grind (arith, cases_eq, word_own, word_other)
    | inr other ↦ subst IsKernelTableWord (sym (word_other s u i small_s small_i found (λ a b. other a))) (T.table_words s u i small_s small_i found)
  ]

  pub tables-written : IsKernelTableWord w → TablesApart n (with_word_at m t page w) d
  tables-written good = record {
    long = grind (arith, cases_eq, with_frame-same, length-with_word_in, long_t, with_frame-other);
    directory_inside = T.directory_inside;
    tables_inside = λ s u l found. T.tables_inside s u l (sym (table_kept s) ∙ found);
    apart = λ s u l found. T.apart s u l (sym (table_kept s) ∙ found);
    distinct = λ s o u l k found also. T.distinct s o u l k (sym (table_kept s) ∙ found) (sym (table_kept o) ∙ also);
    dir_words = λ s l. subst (λ b. IsKernelDirWord (word_in b s)) (sym dir_kept) (T.dir_words s l);
    table_words = λ s u i l k found. kernel_word good s u i l k (sym (table_kept s) ∙ found);
  }

-- ---- A word of the directory is written

module _ (m : Frames) (d slot w : ℕ) (long_d : length (m d) ≡ 4096) (small : slot < 1024) (lt : w < 2 ^ 32) where
  pub dir_word_own : dir_word (with_dir_word m d slot w) d slot ≡ w
  dir_word_own = ap (λ l. word_in l slot) (with_frame-same m d (with_word_in (m d) slot w)) ∙ word_in_same (m d) slot w long_d small lt

  pub dir_word_other : (s : ℕ) → s ≢ slot → dir_word (with_dir_word m d slot w) d s ≡ dir_word m d s
  dir_word_other s n = ap (λ l. word_in l s) (with_frame-same m d (with_word_in (m d) slot w)) ∙ word_in_other (m d) slot s w long_d small n

  pub table_own : table_of (with_dir_word m d slot w) d slot ≡ word_table w
  table_own = ap word_table dir_word_own

  pub table_other : (s : ℕ) → s ≢ slot → table_of (with_dir_word m d slot w) d s ≡ table_of m d s
  table_other s n = ap word_table (dir_word_other s n)

  pub dir_long : length (with_dir_word m d slot w d) ≡ 4096
  dir_long = ap length (with_frame-same m d (with_word_in (m d) slot w)) ∙ length-with_word_in (m d) slot w long_d small

  -- the entries of another slot are as they were, if no table is the directory
  pub entry_elsewhere : (q : ℕ) → slot_number q ≢ slot → ((u : ℕ) → table_of m d (slot_number q) ≡ Some u → u ≢ d) → entry_at (with_dir_word m d slot w) d q ≡ entry_at m d q
  entry_elsewhere q n other =
      ap (option_and_then (λ table. word_entry (word_in (with_dir_word m d slot w table) (index_number q)))) (table_other (slot_number q) n)
      ∙ by (table_of m d (slot_number q)) refl
    where
      by : (y : Option ℕ) → table_of m d (slot_number q) ≡ y
          → option_and_then (λ table. word_entry (word_in (with_dir_word m d slot w table) (index_number q))) y ≡ option_and_then (λ table. word_entry (word_in (m table) (index_number q))) y
      by h found = grind (arith, with_frame-other)

pub some_not_none : (x : Option ℕ) (u : ℕ) → x ≡ None → x ≡ Some u → ⊥
some_not_none x u none some = cc

-- a slot loses its table
pub tables-unlinked : (n : ℕ) (m : Frames) (d slot : ℕ) → TablesApart n m d → slot < 1024 → TablesApart n (with_dir_word m d slot 0) d
tables-unlinked n m d slot T small = record {
  long = grind (arith, cases_eq, dir_long, long_d, with_frame-other);
  directory_inside = T.directory_inside;
  tables_inside = λ s u l found. T.tables_inside s u l (before s u found);
  apart = λ s u l found. T.apart s u l (before s u found);
  distinct = λ s o u l k found also. T.distinct s o u l k (before s u found) (before o u also);
  dir_words = λ s l. elim (cases_eq s slot) [
    | inl same ↦ inl (ap (dir_word (with_dir_word m d slot 0) d) same ∙ dir_word_own m d slot 0 long_d small zero)
    | inr differ ↦ subst IsKernelDirWord (sym (dir_word_other m d slot 0 long_d small zero s differ)) (T.dir_words s l)
  ];
  table_words = λ s u i l k found. subst (λ b. IsKernelTableWord (word_in b i)) (sym (with_frame-other m d u (with_word_in (m d) slot 0) (T.apart s u l (before s u found)))) (T.table_words s u i l k (before s u found));
}
  where
    long_d : length (m d) ≡ 4096
    long_d = T.long d T.directory_inside

    zero : 0 < 2 ^ 32
    zero = omega arith

    before : (s u : ℕ) → table_of (with_dir_word m d slot 0) d s ≡ Some u → table_of m d s ≡ Some u
    before s u found = grind (arith, cases_eq, some_not_none, table_own, long_d, table_other)

-- a frame that is none of the map's changes
pub table_foreign : (m : Frames) (d f : ℕ) (new : List ℕ) → f ≢ d → (s : ℕ) → table_of (with_frame m f new) d s ≡ table_of m d s
table_foreign m d f new n s = ap (λ l. word_table (word_in l s)) (with_frame-other m f d new (λ same. n (sym same)))

pub tables-foreign : (n : ℕ) (m : Frames) (d f : ℕ) (new : List ℕ) → TablesApart n m d → IsForeign m d f → length new ≡ 4096 → TablesApart n (with_frame m f new) d
tables-foreign n m d f new T F size = record {
  long = grind (arith, cases_eq, with_frame-same, with_frame-other);
  directory_inside = T.directory_inside;
  tables_inside = λ s u l found. T.tables_inside s u l (before s u found);
  apart = λ s u l found. T.apart s u l (before s u found);
  distinct = λ s o u l k found also. T.distinct s o u l k (before s u found) (before o u also);
  dir_words = λ s l. subst (λ b. IsKernelDirWord (word_in b s)) (sym (with_frame-other m f d new (λ same. F.no_directory (sym same)))) (T.dir_words s l);
  table_words = λ s u i l k found. subst (λ b. IsKernelTableWord (word_in b i)) (sym (with_frame-other m f u new (λ same. F.no_table s u l (before s u found) (sym same)))) (T.table_words s u i l k (before s u found));
}
  where
    before : (s u : ℕ) → table_of (with_frame m f new) d s ≡ Some u → table_of m d s ≡ Some u
    before s u found = sym (table_foreign m d f new F.no_directory s) ∙ found
