-- What each change of a page map leaves: its entries, that it stays one, and every foreign frame.
use Rattle.page_map.proofs.Prelude
use Prelude.{◌≡◌, ◌≢◌, ℕ, ◌+◌, ◌*◌, ◌^◌, ◌<◌, ◌≤◌, true, false, List, length, replicate, refl, ap, sym, ◌∙◌, subst, arith, inl, inr, Option, Some, None, ◌⊎◌, if◌then◌else◌, option_and_then, cases_eq, length-replicate, slot_number, index_number, IsUserPage, frame_number, is_present, IsKernelDirWord, frame_bytes, word_in, with_word_in, with_frame, with_frame-same, with_frame-other, word_in-zeros, PageEntry, Frames, dir_word, word_table, table_of, word_entry, entry_from, entry_at, entry_word, link_word, IsPageMap, IsForeign, IsFreshTable, IsKernelEntry, TablesApart, entries_of, with_entry, with_table, IsCleared}
use Rattle.page_map.proofs.WordLaws.{entry_word-lt, entry_word-names, word_entry-entry_word, link_word-lt, link_word-names, word_table-link_word}
use Rattle.page_map.proofs.PageLemmas.{entries-same, entries-insert, entries-remove}
use Rattle.page_map.proofs.MapSteps.{map_of_tables, with_word_at, with_dir_word, table_kept, entry_own, entry_other, tables-written, table_own, table_other, entry_elsewhere, tables-unlinked, table_foreign, tables-foreign, dir_word_own, dir_word_other, dir_long}
use Rattle.page_words.specs.FiniteMap as map

-- a present word names a table
pub found_word : (w : ℕ) → is_present w ≡ true → word_table w ≡ Some (frame_number w)
found_word w h = ap (λ b. if b then Some (frame_number w) else None) h

-- a slot whose word is present has the table that it names
pub table_there : (m : Frames) (d slot : ℕ) → is_present (dir_word m d slot) ≡ true → table_of m d slot ≡ Some (frame_number (dir_word m d slot))
table_there m d slot h = ap (λ b. if b then Some (frame_number (dir_word m d slot)) else None) h

pub present_entry : (w : ℕ) → is_present w ≡ true → word_entry w ≡ Some (entry_from w)
present_entry w h = ap (λ b. if b then Some (entry_from w) else None) h

absent_entry : (w : ℕ) → is_present w ≡ false → word_entry w ≡ None
absent_entry w h = ap (λ b. if b then Some (entry_from w) else None) h

-- the slot of a page of the user range
pub user_slot : (page : ℕ) → IsUserPage page → slot_number page < 1024
user_slot page h = let high = h.1 in omega arith

-- ---- An entry is set

module _ (bytes after : List ℕ) (d page : ℕ) (e : PageEntry) (P : IsPageMap bytes d) (user : IsUserPage page) (present : is_present (dir_word (frame_bytes bytes) d (slot_number page)) ≡ true) (fits : e.frame < 2 ^ 20)
    (frames : frame_bytes after ≡ with_entry (frame_bytes bytes) (frame_number (dir_word (frame_bytes bytes) d (slot_number page))) page e) where
  pub set-entries : entries_of (frame_bytes after) d ≡ map.insert (entries_of (frame_bytes bytes) d) page e
  set-entries =
      let m : Frames = frame_bytes bytes in
      let t = frame_number (dir_word m d (slot_number page)) in
      let there = table_there m d (slot_number page) present in
      let lt = entry_word-lt e fits in
      ap (λ f. entries_of f d) frames
      ∙ entries-insert m (with_word_at m t page (entry_word e)) d page e user
      (entry_own (length bytes) m d page t (entry_word e) P (user_slot page user) there lt ∙ word_entry-entry_word e fits)
      (λ q h n. entry_other (length bytes) m d page t (entry_word e) P (user_slot page user) there lt q (user_slot q h) n)

  pub set-map : length after ≡ length bytes → IsKernelEntry e → IsPageMap after d
  set-map size k =
      let m : Frames = frame_bytes bytes in
      let t = frame_number (dir_word m d (slot_number page)) in
      let there = table_there m d (slot_number page) present in
      map_of_tables after (length bytes) (with_word_at m t page (entry_word e)) d
      (tables-written (length bytes) m d page t (entry_word e) P (user_slot page user) there (entry_word-lt e fits) (inr (entry_word-names e fits k)))
      frames size

  pub set-foreign : (f : ℕ) → IsForeign (frame_bytes bytes) d f → frame_bytes after f ≡ frame_bytes bytes f
  set-foreign f F =
      let m : Frames = frame_bytes bytes in
      let t = frame_number (dir_word m d (slot_number page)) in
      (λ i. frames i f) ∙ with_frame-other m t f _ (F.no_table (slot_number page) t (user_slot page user) (table_there m d (slot_number page) present))

-- ---- A blank table is linked

module _ (n : ℕ) (m : Frames) (d slot t : ℕ) (T : TablesApart n m d) (small : slot < 1024) (inside : 4096 * t + 4096 ≤ n) (few : t < 2 ^ 20) (F : IsForeign m d t) (unlinked : table_of m d slot ≡ None) (nonzero : 1 ≤ t)
    (zeros : (i : ℕ) → i < 1024 → word_in (m t) i ≡ 0) where
  long_d : length (m d) ≡ 4096
  long_d = T.long d T.directory_inside

  lt : link_word t < 2 ^ 32
  lt = link_word-lt t few

  own : table_of (with_dir_word m d slot (link_word t)) d slot ≡ Some t
  own = table_own m d slot (link_word t) long_d small lt ∙ word_table-link_word t few

  -- a table now is the new one at its slot, or one from before at another
  before : (s u : ℕ) → table_of (with_dir_word m d slot (link_word t)) d s ≡ Some u → ((s ≡ slot) × (u ≡ t)) ⊎ ((s ≢ slot) × (table_of m d s ≡ Some u))
  before s u found = grind (arith, cases_eq, with_dir_word, own, table_other, long_d, lt)

  frame_kept : (u : ℕ) → u ≢ d → with_dir_word m d slot (link_word t) u ≡ m u
  frame_kept u differ = with_frame-other m d u (with_word_in (m d) slot (link_word t)) differ

  pub tables-linked : TablesApart n (with_dir_word m d slot (link_word t)) d
  tables-linked = record {
    long = grind (arith, cases_eq, with_dir_word, dir_long, long_d, lt, frame_kept);
    directory_inside = T.directory_inside;
    tables_inside = λ s u l found. elim (before s u found) [ inl h ↦ let e = h.1 in omega arith | inr h ↦ T.tables_inside s u l h.1 ];
    apart = λ s u l found. elim (before s u found) [ inl h ↦ (λ same. F.no_directory (sym h.1 ∙ same)) | inr h ↦ T.apart s u l h.1 ];
    distinct = λ s o u l k found also. elim (before s u found) [
      | inl h ↦ elim (before o u also) [ inl g ↦ h.0 ∙ sym g.0 | inr g ↦ absurd (F.no_table o u k g.1 (sym h.1)) ]
      | inr h ↦ elim (before o u also) [ inl g ↦ absurd (F.no_table s u l h.1 (sym g.1)) | inr g ↦ T.distinct s o u l k h.1 g.1 ]
    ];
    dir_words = λ s l. elim (cases_eq s slot) [
      | inl same ↦ subst IsKernelDirWord (sym (ap (dir_word (with_dir_word m d slot (link_word t)) d) same ∙ dir_word_own m d slot (link_word t) long_d small lt)) (inr (link_word-names t few nonzero))
      | inr differ ↦ subst IsKernelDirWord (sym (dir_word_other m d slot (link_word t) long_d small lt s differ)) (T.dir_words s l)
    ];
    table_words = λ s u i l k found. grind (arith, before, with_dir_word, frame_kept);
  }

  -- no entry is there that wasn't
  pub entry-linked : (q : ℕ) → slot_number q < 1024 → entry_at (with_dir_word m d slot (link_word t)) d q ≡ entry_at m d q
  entry-linked q l = grind (arith, cases_eq, with_dir_word, own, frame_kept, entry_elsewhere, long_d, lt)

-- a foreign frame is none of the way to an entry
entry_foreign : (m : Frames) (d f : ℕ) (new : List ℕ) → IsForeign m d f → (q : ℕ) → slot_number q < 1024 → entry_at (with_frame m f new) d q ≡ entry_at m d q
entry_foreign m d f new h q l = grind (arith, table_foreign, with_frame-other)

module _ (bytes after : List ℕ) (d slot t : ℕ) (P : IsPageMap bytes d) (small : slot < 1024) (inside : 4096 * t + 4096 ≤ length bytes) (few : t < 2 ^ 20) (apart : t ≢ d)
    (frames : frame_bytes after ≡ with_table (frame_bytes bytes) d slot t) where
  two_steps : frame_bytes after ≡ with_dir_word (with_frame (frame_bytes bytes) t (replicate 4096 0)) d slot (link_word t)
  two_steps = frames ∙ ap (λ l. with_frame (with_frame (frame_bytes bytes) t (replicate 4096 0)) d (with_word_in l slot (link_word t))) (sym (with_frame-other (frame_bytes bytes) t d (replicate 4096 0) (λ same. apart (sym same))))

  blank_words : (i : ℕ) → i < 1024 → word_in (with_frame (frame_bytes bytes) t (replicate 4096 0) t) i ≡ 0
  blank_words i l = ap (λ b. word_in b i) (with_frame-same (frame_bytes bytes) t (replicate 4096 0)) ∙ word_in-zeros 4096 i (omega arith)

  foreign_still : IsForeign (frame_bytes bytes) d t → IsForeign (with_frame (frame_bytes bytes) t (replicate 4096 0)) d t
  foreign_still F = record { no_directory = F.no_directory; no_table = λ s u l found. F.no_table s u l (sym (table_foreign (frame_bytes bytes) d t (replicate 4096 0) F.no_directory s) ∙ found) }

  tables_between : IsForeign (frame_bytes bytes) d t → TablesApart (length bytes) (with_frame (frame_bytes bytes) t (replicate 4096 0)) d
  tables_between F = tables-foreign (length bytes) (frame_bytes bytes) d t (replicate 4096 0) P F (length-replicate {A = ℕ} 4096 0)

  pub link-map : length after ≡ length bytes → IsFreshTable (frame_bytes bytes) d slot t → IsPageMap after d
  link-map size fresh =
      let F = fresh.foreign in
      map_of_tables after (length bytes) (with_dir_word (with_frame (frame_bytes bytes) t (replicate 4096 0)) d slot (link_word t)) d
      (tables-linked (length bytes) (with_frame (frame_bytes bytes) t (replicate 4096 0)) d slot t (tables_between F) small inside few (foreign_still F)
      (table_foreign (frame_bytes bytes) d t (replicate 4096 0) apart slot ∙ fresh.unlinked) fresh.not_reserved blank_words)
      two_steps size

  pub link-entries : IsFreshTable (frame_bytes bytes) d slot t → entries_of (frame_bytes after) d ≡ entries_of (frame_bytes bytes) d
  link-entries fresh =
      let F = fresh.foreign in
      ap (λ f. entries_of f d) two_steps
      ∙ entries-same (frame_bytes bytes) (with_dir_word (with_frame (frame_bytes bytes) t (replicate 4096 0)) d slot (link_word t)) d d
      (λ q h. entry-linked (length bytes) (with_frame (frame_bytes bytes) t (replicate 4096 0)) d slot t (tables_between F) small inside few (foreign_still F)
      (table_foreign (frame_bytes bytes) d t (replicate 4096 0) apart slot ∙ fresh.unlinked) fresh.not_reserved blank_words q (user_slot q h)
      ∙ entry_foreign (frame_bytes bytes) d t (replicate 4096 0) F q (user_slot q h))

  pub link-foreign : (f : ℕ) → IsForeign (frame_bytes bytes) d f → f ≢ t → frame_bytes after f ≡ frame_bytes bytes f
  link-foreign f h n = grind (arith, two_steps, with_frame-other)

-- ---- An entry is cleared

module _ (n : ℕ) (m : Frames) (d page t : ℕ) (T : TablesApart n m d) (user : IsUserPage page) (there : table_of m d (slot_number page) ≡ Some t) where
  cleared_lt : 0 < 2 ^ 32
  cleared_lt = omega arith

  tables-cleared : TablesApart n (with_word_at m t page 0) d
  tables-cleared = tables-written n m d page t 0 T (user_slot page user) there cleared_lt (inl refl)

  entry-cleared : entry_at (with_word_at m t page 0) d page ≡ None
  entry-cleared = entry_own n m d page t 0 T (user_slot page user) there cleared_lt

  entry-kept : (q : ℕ) → IsUserPage q → q ≢ page → entry_at (with_word_at m t page 0) d q ≡ entry_at m d q
  entry-kept q h n' = entry_other n m d page t 0 T (user_slot page user) there cleared_lt q (user_slot q h) n'

  there_still : table_of (with_word_at m t page 0) d (slot_number page) ≡ Some t
  there_still = table_kept n m d page t 0 T (user_slot page user) there cleared_lt (slot_number page) ∙ there

  entry_unlinked : (q : ℕ) → slot_number q ≡ slot_number page → entry_at (with_dir_word (with_word_at m t page 0) d (slot_number page) 0) d q ≡ None
  entry_unlinked q same =
      ap (option_and_then (λ table. word_entry (word_in (with_dir_word (with_word_at m t page 0) d (slot_number page) 0 table) (index_number q))))
      (ap (table_of (with_dir_word (with_word_at m t page 0) d (slot_number page) 0) d) same
      ∙ table_own (with_word_at m t page 0) d (slot_number page) 0 (tables-cleared.long d tables-cleared.directory_inside) (user_slot page user) cleared_lt)

  -- all other entries of an empty table were none before
  entry-empty : ((i : ℕ) → i < 1024 → is_present (word_in (with_word_at m t page 0 t) i) ≡ false) → (q : ℕ) → IsUserPage q → q ≢ page → entry_at (with_dir_word (with_word_at m t page 0) d (slot_number page) 0) d q ≡ entry_at m d q
  entry-empty empty q h n' = elim (cases_eq (slot_number q) (slot_number page)) [
    | inl same ↦
        entry_unlinked q same
        ∙ sym (ap (option_and_then (λ table. word_entry (word_in (with_word_at m t page 0 table) (index_number q)))) (ap (table_of (with_word_at m t page 0) d) same ∙ there_still)
        ∙ absent_entry (word_in (with_word_at m t page 0 t) (index_number q)) (empty (index_number q) (omega arith)))
        ∙ entry-kept q h n'
    | inr differ ↦
        entry_elsewhere (with_word_at m t page 0) d (slot_number page) 0 (tables-cleared.long d tables-cleared.directory_inside) (user_slot page user) cleared_lt q differ (λ u found. tables-cleared.apart (slot_number q) u (user_slot q h) found)
        ∙ entry-kept q h n'
  ]

-- the two ways in which a page's entry is cleared
cleared_ways : (m : Frames) (d page : ℕ) (freed : Option ℕ) (m' : Frames) → IsCleared m d page freed m'
    → (m' ≡ with_word_at m (frame_number (dir_word m d (slot_number page))) page 0)
    ⊎ ((m' ≡ with_dir_word (with_word_at m (frame_number (dir_word m d (slot_number page))) page 0) d (slot_number page) 0)
    × ((i : ℕ) → i < 1024 → is_present (word_in (with_word_at m (frame_number (dir_word m d (slot_number page))) page 0 (frame_number (dir_word m d (slot_number page)))) i) ≡ false))
cleared_ways m d page freed m' c = grind (arith, with_dir_word, with_word_at)

module _ (bytes after : List ℕ) (d page : ℕ) (freed : Option ℕ) (P : IsPageMap bytes d) (user : IsUserPage page) (present : is_present (dir_word (frame_bytes bytes) d (slot_number page)) ≡ true)
    (cleared : IsCleared (frame_bytes bytes) d page freed (frame_bytes after)) where
  pub clear-entries : entries_of (frame_bytes after) d ≡ map.remove (entries_of (frame_bytes bytes) d) page
  clear-entries =
      let m : Frames = frame_bytes bytes in
      let t = frame_number (dir_word (frame_bytes bytes) d (slot_number page)) in
      let there = table_there m d (slot_number page) present in
      elim (cleared_ways m d page freed (frame_bytes after) cleared) [
        | inl is ↦ ap (λ f. entries_of f d) is ∙ entries-remove m (with_word_at m t page 0) d page user (entry-cleared (length bytes) m d page t P user there) (entry-kept (length bytes) m d page t P user there)
        | inr h ↦ ap (λ f. entries_of f d) h.0 ∙ entries-remove m (with_dir_word (with_word_at m t page 0) d (slot_number page) 0) d page user (entry_unlinked (length bytes) m d page t P user there page refl) (entry-empty (length bytes) m d page t P user there h.1)
      ]

  pub clear-map : length after ≡ length bytes → IsPageMap after d
  clear-map size =
      let m : Frames = frame_bytes bytes in
      let t = frame_number (dir_word (frame_bytes bytes) d (slot_number page)) in
      let there = table_there m d (slot_number page) present in
      elim (cleared_ways m d page freed (frame_bytes after) cleared) [
        | inl is ↦ map_of_tables after (length bytes) (with_word_at m t page 0) d (tables-cleared (length bytes) m d page t P user there) is size
        | inr h ↦ map_of_tables after (length bytes) (with_dir_word (with_word_at m t page 0) d (slot_number page) 0) d (tables-unlinked (length bytes) (with_word_at m t page 0) d (slot_number page) (tables-cleared (length bytes) m d page t P user there) (user_slot page user)) h.0 size
      ]

  pub clear-foreign : (f : ℕ) → IsForeign (frame_bytes bytes) d f → frame_bytes after f ≡ frame_bytes bytes f
  clear-foreign f F =
      let m : Frames = frame_bytes bytes in
      let t = frame_number (dir_word (frame_bytes bytes) d (slot_number page)) in
      let apart : f ≢ t = F.no_table (slot_number page) t (user_slot page user) (table_there m d (slot_number page) present) in
      grind (arith, cleared_ways, with_frame-other, with_word_at)
