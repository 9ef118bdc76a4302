-- A mark on a page map touches one entry.
use Rattle.page_map.proofs.Prelude
use Prelude.{◌≡◌, ◌≢◌, ℕ, ◌+◌, ◌*◌, ◌^◌, ◌<◌, ◌≤◌, true, false, List, length, refl, ap, sym, ◌∙◌, subst, arith, inl, inr, Option, Some, None, ◌⊎◌, not, ◌&&◌, option_and_then, or_lt, cases_eq, IsUserPage, page_number, slot_number, index_number, with_flag, frame_number, is_writable, is_accessed, is_dirty, has_may, is_lazy, is_granted, NamesTable, NamesPage, IsKernelDirWord, IsKernelTableWord, frame_bytes, word_at, with_word, word_place, word_in, with_word_in, word_in-frame, frames-with_word, with_frame-other, Access, PageEntry, Frames, dir_word, word_table, table_of, entry_from, word_entry, entry_at, IsPageMap, TablesApart, entries_of, ◌/◌, set_flag_other, set_flag_frame, flag-with_flag_same, walk_of, table_word, touched_entry, with_touched_words, TouchesEntry, MarksTouchEntries}
use Rattle.phys_memory.proofs.Words.{length-with_word}
use Rattle.table_walk.specs.declared.Access.TheVariants.{Read, Write}
use Rattle.table_walk.specs.Marks.{accessed_word, touched_word, marked, CanBeMarked}
use Rattle.table_walk.proofs.Leads.{ok_value, walked}
use Rattle.table_walk.proofs.MarkLemmas.{marks_change_two_words, touched_lt}
use Rattle.page_map.proofs.PageLemmas.{entries-same, entries-insert}
use Rattle.page_map.proofs.MapSteps.{map_of_tables, with_word_at, with_dir_word, entry_own, entry_other, tables-written, table_own, table_other, dir_word_own, dir_word_other, dir_long}
use Rattle.page_map.proofs.MapChanges.{user_slot, present_entry, found_word}
use Rattle.page_words.specs.FiniteMap as map

-- ---- The words

accessed_names : (w : ℕ) → NamesTable w → NamesTable (accessed_word w)
accessed_names w k = record {
  frame = let f = set_flag_frame w 5 (omega arith) in let h = k.frame in omega arith;
  present = set_flag_other w 5 0 (omega arith) ∙ k.present;
  writable = set_flag_other w 5 1 (omega arith) ∙ k.writable;
  user = set_flag_other w 5 2 (omega arith) ∙ k.user;
  bit_3 = set_flag_other w 5 3 (omega arith) ∙ k.bit_3;
  bit_4 = set_flag_other w 5 4 (omega arith) ∙ k.bit_4;
  bit_6 = set_flag_other w 5 6 (omega arith) ∙ k.bit_6;
  bit_7 = set_flag_other w 5 7 (omega arith) ∙ k.bit_7;
  bit_8 = set_flag_other w 5 8 (omega arith) ∙ k.bit_8;
  bit_9 = set_flag_other w 5 9 (omega arith) ∙ k.bit_9;
  bit_10 = set_flag_other w 5 10 (omega arith) ∙ k.bit_10;
  bit_11 = set_flag_other w 5 11 (omega arith) ∙ k.bit_11;
}

-- a table word with bit 5 set, or bit 6 where bit 5 is and the word isn't lazy
flagged_names : (w k : ℕ) → NamesPage w → (k ≡ 5) ⊎ ((k ≡ 6) × (is_accessed w ≡ true) × (is_lazy w ≡ false)) → NamesPage (with_flag w k true)
flagged_names w k n which = record {
  frame = λ real. let f = set_flag_frame w k (at_most which) in let h = n.frame (sym lazy ∙ real) in omega arith;
  zero = λ is. set_flag_frame w k (at_most which) ∙ n.zero (sym lazy ∙ is);
  clean = λ is. clean which (sym lazy ∙ is);
  present = set_flag_other w k 0 (apart 0 which (omega arith) (omega arith)) ∙ n.present;
  user = set_flag_other w k 2 (apart 2 which (omega arith) (omega arith)) ∙ n.user;
  bit_3 = set_flag_other w k 3 (apart 3 which (omega arith) (omega arith)) ∙ n.bit_3;
  bit_4 = set_flag_other w k 4 (apart 4 which (omega arith) (omega arith)) ∙ n.bit_4;
  bit_7 = set_flag_other w k 7 (apart 7 which (omega arith) (omega arith)) ∙ n.bit_7;
  bit_8 = set_flag_other w k 8 (apart 8 which (omega arith) (omega arith)) ∙ n.bit_8;
  writable = set_flag_other w k 1 (apart 1 which (omega arith) (omega arith)) ∙ n.writable ∙ sym (λ i. granted i && not (lazy i));
  right = λ r. set_flag_other w k 9 (apart 9 which (omega arith) (omega arith)) ∙ n.right (sym granted ∙ r);
  touched = λ d. touched which;
}
  where
    apart : (j : ℕ) → (k ≡ 5) ⊎ ((k ≡ 6) × (is_accessed w ≡ true) × (is_lazy w ≡ false)) → j ≢ 5 → j ≢ 6 → j ≢ k
    apart j known a b = grind arith

    at_most : (k ≡ 5) ⊎ ((k ≡ 6) × (is_accessed w ≡ true) × (is_lazy w ≡ false)) → k < 12
    at_most given = grind arith

    lazy : is_lazy (with_flag w k true) ≡ is_lazy w
    lazy = set_flag_other w k 10 (apart 10 which (omega arith) (omega arith))

    granted : is_granted (with_flag w k true) ≡ is_granted w
    granted = set_flag_other w k 11 (apart 11 which (omega arith) (omega arith))

    clean : (k ≡ 5) ⊎ ((k ≡ 6) × (is_accessed w ≡ true) × (is_lazy w ≡ false)) → is_lazy w ≡ true → is_dirty (with_flag w k true) ≡ false
    clean here is = grind (arith, set_flag_other)

    touched : (k ≡ 5) ⊎ ((k ≡ 6) × (is_accessed w ≡ true) × (is_lazy w ≡ false)) → is_accessed (with_flag w k true) ≡ true
    touched (inl e) = ap (λ j. is_accessed (with_flag w j true)) e ∙ flag-with_flag_same w 5 true (omega arith)
    touched (inr h) = let e = h.0 in set_flag_other w k 5 (omega arith) ∙ h.1

is_accessed_now : (w : ℕ) → is_accessed (accessed_word w) ≡ true
is_accessed_now w = flag-with_flag_same w 5 true (omega arith)

-- a word that lets writes through isn't lazy
not_lazy : (w : ℕ) → NamesPage w → is_writable w ≡ true → is_lazy w ≡ false
not_lazy w n right = grind arith

pub touched_names : (access : Access) (w : ℕ) → NamesPage w → (access ≡ Write → is_writable w ≡ true) → NamesPage (touched_word access w)
touched_names Read w n right = flagged_names w 5 n (inl refl)
touched_names Write w n right = flagged_names (accessed_word w) 6 (flagged_names w 5 n (inl refl)) (inr (refl, is_accessed_now w, set_flag_other w 5 10 (omega arith) ∙ not_lazy w n (right refl)))

pub entry_from-touched : (access : Access) (w : ℕ) → entry_from (touched_word access w) ≡ touched_entry access (entry_from w)
entry_from-touched Read w =
    rw (set_flag_frame w 5 (omega arith), set_flag_other w 5 11 (omega arith), set_flag_other w 5 9 (omega arith), is_accessed_now w, set_flag_other w 5 6 (omega arith), set_flag_other w 5 10 (omega arith)) refl
entry_from-touched Write w =
    let v = accessed_word w in
    let frame : frame_number (touched_word Write w) ≡ frame_number w = set_flag_frame v 6 (omega arith) ∙ set_flag_frame w 5 (omega arith) in
    let write : is_granted (touched_word Write w) ≡ is_granted w = set_flag_other v 6 11 (omega arith) ∙ set_flag_other w 5 11 (omega arith) in
    let lazy : is_lazy (touched_word Write w) ≡ is_lazy w = set_flag_other v 6 10 (omega arith) ∙ set_flag_other w 5 10 (omega arith) in
    let may : has_may (touched_word Write w) ≡ has_may w = set_flag_other v 6 9 (omega arith) ∙ set_flag_other w 5 9 (omega arith) in
    let accessed : is_accessed (touched_word Write w) ≡ true = set_flag_other v 6 5 (omega arith) ∙ is_accessed_now w in
    let dirty : is_dirty (touched_word Write w) ≡ true = flag-with_flag_same v 6 true (omega arith) in
    rw (frame, write, may, accessed, dirty, lazy) refl

-- ---- The directory word, with the same table

module _ (n : ℕ) (m : Frames) (d slot w : ℕ) (T : TablesApart n m d) (small : slot < 1024) (lt : w < 2 ^ 32) (same : word_table w ≡ table_of m d slot) where
  long_d : length (m d) ≡ 4096
  long_d = T.long d T.directory_inside

  pub table_stays : (s : ℕ) → table_of (with_dir_word m d slot w) d s ≡ table_of m d s
  table_stays s = grind (arith, cases_eq, with_dir_word, table_own, long_d, small, table_other)

  pub tables-redirected : IsKernelDirWord w → TablesApart n (with_dir_word m d slot w) d
  tables-redirected good = record {
    long = λ f inside. grind (arith, inside, cases_eq, with_dir_word, dir_long, long_d, small, with_frame-other, T);
    directory_inside = T.directory_inside;
    tables_inside = λ s u l is. T.tables_inside s u l (sym (table_stays s) ∙ is);
    apart = λ s u l is. T.apart s u l (sym (table_stays s) ∙ is);
    distinct = λ s o u l k is also. T.distinct s o u l k (sym (table_stays s) ∙ is) (sym (table_stays o) ∙ also);
    dir_words = λ s l. elim (cases_eq s slot) [
      | inl here ↦ subst IsKernelDirWord (sym (ap (dir_word (with_dir_word m d slot w) d) here ∙ dir_word_own m d slot w long_d small lt)) good
      | inr differ ↦ subst IsKernelDirWord (sym (dir_word_other m d slot w long_d small lt s differ)) (T.dir_words s l)
    ];
    table_words = λ s u i l k is. subst (λ b. IsKernelTableWord (word_in b i)) (sym (with_frame-other m d u (with_word_in (m d) slot w) (T.apart s u l (sym (table_stays s) ∙ is)))) (T.table_words s u i l k (sym (table_stays s) ∙ is));
  }

  pub entry_stays : (q : ℕ) → slot_number q < 1024 → entry_at (with_dir_word m d slot w) d q ≡ entry_at m d q
  entry_stays q l =
      ap (option_and_then (λ table. word_entry (word_in (with_dir_word m d slot w table) (index_number q)))) (table_stays (slot_number q))
      ∙ by (table_of m d (slot_number q)) refl
    where
      by : (y : Option ℕ) → table_of m d (slot_number q) ≡ y
          → option_and_then (λ table. word_entry (word_in (with_dir_word m d slot w table) (index_number q))) y ≡ option_and_then (λ table. word_entry (word_in (m table) (index_number q))) y
      by None is = refl
      by (Some u) is = ap (λ b. word_entry (word_in b (index_number q))) (with_frame-other m d u (with_word_in (m d) slot w) (T.apart (slot_number q) u l is))

-- ---- The two writes of a mark, by frames

-- the bytes with one word written in the directory
abbrev with_first : List ℕ → ℕ → ℕ → ℕ → List ℕ
with_first bytes d slot v = with_word bytes (word_place d slot) v

frames_first : (bytes : List ℕ) (d slot v : ℕ) → slot < 1024 → 4096 * d + 4096 ≤ length bytes → frame_bytes (with_first bytes d slot v) ≡ with_dir_word (frame_bytes bytes) d slot v
frames_first bytes d slot v small inside = frames-with_word bytes d slot v small inside

frames_second : (bytes : List ℕ) (d slot t page v w : ℕ) → slot < 1024 → 4096 * d + 4096 ≤ length bytes → 4096 * t + 4096 ≤ length bytes
    → frame_bytes (with_word (with_first bytes d slot v) (word_place t (index_number page)) w) ≡ with_word_at (with_dir_word (frame_bytes bytes) d slot v) t page w
frames_second bytes d slot t page v w small inside also =
    let size : length (with_first bytes d slot v) ≡ length bytes = length-with_word bytes (word_place d slot) v (omega arith) in
    grind (arith, frames-with_word, with_word_at, frames_first)

second_word : (bytes : List ℕ) (d slot t page v : ℕ) → slot < 1024 → 4096 * d + 4096 ≤ length bytes → t ≢ d → word_at (with_first bytes d slot v) (word_place t (index_number page)) ≡ word_in (frame_bytes bytes t) (index_number page)
second_word bytes d slot t page v small inside apart = grind (arith, word_in-frame, frames_first, with_frame-other)

marked_words : (bytes : List ℕ) (d address : ℕ) (access : Access) (v w : ℕ) → word_at bytes (word_place d (slot_number (page_number address))) ≡ v
    → word_at (with_first bytes d (slot_number (page_number address)) (accessed_word v)) (word_place (frame_number v) (index_number (page_number address))) ≡ w
    → marked bytes d address access ≡ with_word (with_first bytes d (slot_number (page_number address)) (accessed_word v)) (word_place (frame_number v) (index_number (page_number address))) (touched_word access w)
unfolding marked
marked_words bytes d address access v w first second = grind arith

module _ (bytes : List ℕ) (d address v w : ℕ) (access : Access) (e : PageEntry) (P : IsPageMap bytes d) (can : CanBeMarked bytes d address access) (user : IsUserPage (page_number address))
    (first : dir_word (frame_bytes bytes) d (slot_number (page_number address)) ≡ v) (names : NamesTable v)
    (second : word_in (frame_bytes bytes (frame_number v)) (index_number (page_number address)) ≡ w) (page_names : NamesPage w) (holds : entry_from w ≡ e) where
  T : TablesApart (length bytes) (frame_bytes bytes) d
  T = P

  small : slot_number (page_number address) < 1024
  small = user_slot (page_number address) user

  there : table_of (frame_bytes bytes) d (slot_number (page_number address)) ≡ Some (frame_number v)
  there = ap word_table first ∙ found_word v names.present

  inside : 4096 * frame_number v + 4096 ≤ length bytes
  inside = P.tables_inside (slot_number (page_number address)) (frame_number v) small there

  word_is : word_at bytes (word_place d (slot_number (page_number address))) ≡ v
  word_is = word_in-frame bytes d (slot_number (page_number address)) small ∙ first

  lt_v : v < 2 ^ 32
  lt_v = let room = can.size in let there_in = inside in omega arith

  table_is : table_word bytes d address ≡ w
  table_is = grind (arith, word_is, word_in-frame)

  lt_w : w < 2 ^ 32
  lt_w =
      let room = can.size in
      let whole = can.whole in
      let leads = walked bytes d address access can.found in
      let named : (ok_value (walk_of bytes d address access) can.found).0 ≡ w / 4096 = leads.named ∙ ap frame_number table_is in
      omega arith

  right : access ≡ Write → is_writable w ≡ true
  right is = sym (ap is_writable table_is) ∙ (walked bytes d address access can.found).table_right is

  lt_accessed : accessed_word v < 2 ^ 32
  lt_accessed = or_lt 32 v 32 lt_v (omega arith)

  same_table : word_table (accessed_word v) ≡ table_of (frame_bytes bytes) d (slot_number (page_number address))
  same_table = rw (set_flag_other v 5 0 (omega arith), set_flag_frame v 5 (omega arith)) (sym (ap word_table first))

  T_half : TablesApart (length bytes) (with_dir_word (frame_bytes bytes) d (slot_number (page_number address)) (accessed_word v)) d
  T_half = tables-redirected (length bytes) (frame_bytes bytes) d (slot_number (page_number address)) (accessed_word v) T small lt_accessed same_table (inr (accessed_names v names))

  there_half : table_of (with_dir_word (frame_bytes bytes) d (slot_number (page_number address)) (accessed_word v)) d (slot_number (page_number address)) ≡ Some (frame_number v)
  there_half = table_stays (length bytes) (frame_bytes bytes) d (slot_number (page_number address)) (accessed_word v) T small lt_accessed same_table (slot_number (page_number address)) ∙ there

  frames : frame_bytes (marked bytes d address access) ≡ with_word_at (with_dir_word (frame_bytes bytes) d (slot_number (page_number address)) (accessed_word v)) (frame_number v) (page_number address) (touched_word access w)
  frames =
      ap frame_bytes (marked_words bytes d address access v w word_is
      (second_word bytes d (slot_number (page_number address)) (frame_number v) (page_number address) (accessed_word v) small P.directory_inside (P.apart (slot_number (page_number address)) (frame_number v) small there) ∙ second))
      ∙ frames_second bytes d (slot_number (page_number address)) (frame_number v) (page_number address) (accessed_word v) (touched_word access w) small P.directory_inside inside

  size : length (marked bytes d address access) ≡ length bytes
  size = (marks_change_two_words bytes d address access can).same_length

  touched_words : frame_bytes (marked bytes d address access) ≡ with_touched_words (frame_bytes bytes) d (page_number address) access
  touched_words = grind (arith, frames, with_word_at, with_dir_word)

  pub touches : TouchesEntry bytes d (page_number address) access e (marked bytes d address access)
  touches = record {
    frames = touched_words;
    entries =
        ap (λ f. entries_of f d) frames
        ∙ entries-insert (with_dir_word (frame_bytes bytes) d (slot_number (page_number address)) (accessed_word v)) _ d (page_number address) (touched_entry access e) user
        (entry_own (length bytes) _ d (page_number address) (frame_number v) (touched_word access w) T_half small there_half (touched_lt access w lt_w)
        ∙ present_entry (touched_word access w) (touched_names access w page_names right).present ∙ ap Some (entry_from-touched access w ∙ ap (touched_entry access) holds))
        (λ q h n. entry_other (length bytes) _ d (page_number address) (frame_number v) (touched_word access w) T_half small there_half (touched_lt access w lt_w) q (user_slot q h) n)
        ∙ ap (λ es. map.insert es (page_number address) (touched_entry access e))
        (entries-same (frame_bytes bytes) (with_dir_word (frame_bytes bytes) d (slot_number (page_number address)) (accessed_word v)) d d
        (λ q h. entry_stays (length bytes) (frame_bytes bytes) d (slot_number (page_number address)) (accessed_word v) T small lt_accessed same_table q (user_slot q h)));
    stays =
        map_of_tables (marked bytes d address access) (length bytes) _ d
        (tables-written (length bytes) _ d (page_number address) (frame_number v) (touched_word access w) T_half small there_half (touched_lt access w lt_w) (inr (touched_names access w page_names right)))
        frames size;
    foreign = λ f F.
        (λ i. frames i f)
        ∙ with_frame-other (with_dir_word (frame_bytes bytes) d (slot_number (page_number address)) (accessed_word v)) (frame_number v) f _ (F.no_table (slot_number (page_number address)) (frame_number v) small there)
        ∙ with_frame-other (frame_bytes bytes) d f _ F.no_directory;
  }

none_some : (x : Option PageEntry) (e : PageEntry) → x ≡ None → x ≡ Some e → ⊥
none_some x e none some = cc

same_entry : (x : Option PageEntry) (f e : PageEntry) → x ≡ Some f → x ≡ Some e → f ≡ e
same_entry x f e a b = cc

-- an entry is read from two words that name something
pub marks_touch_entries : MarksTouchEntries
marks_touch_entries bytes d address access e P can user is =
    let m : Frames = frame_bytes bytes in
    let page = page_number address in
    let small : slot_number page < 1024 = user_slot page user in
    elim (P.dir_words (slot_number page) small) [
      | inl zero ↦ absurd (none_some (entry_at m d page) e (ap (λ w. option_and_then (λ table. word_entry (word_in (m table) (index_number page))) (word_table w)) zero) is)
      | inr names ↦
          let v = dir_word m d (slot_number page) in
          let there : table_of m d (slot_number page) ≡ Some (frame_number v) = found_word v names.present in
          let entry_is : entry_at m d page ≡ word_entry (word_in (m (frame_number v)) (index_number page)) = ap (option_and_then (λ table. word_entry (word_in (m table) (index_number page)))) there in
          elim (P.table_words (slot_number page) (frame_number v) (index_number page) small (omega arith) there) [
            | inl zero ↦ absurd (none_some (entry_at m d page) e (entry_is ∙ ap word_entry zero) is)
            | inr page_names ↦ grind (arith, touches, same_entry, present_entry)
          ]
    ]
