-- Accessed of a directory word says nothing of the spaces.
use Rattle.address_space.proofs.Prelude.{◌≡◌, ◌≢◌, ℕ, ◌^◌, ◌<◌, Bool, true, false, List, length, refl, ap, sym, ◌∙◌, subst, arith, inl, inr, Option, Some, None, slice_get, if◌then◌else◌, option_and_then, cases_eq, cases_lt, slot_number, frame_bytes, word_at, word_place, with_word, word_in, with_word_in, with_frame, with_frame-same, with_frame-other, word_in_same, word_in_other, length-with_word_in, frames-with_word, word_in-frame, Role, Reserved, Directory, Table, PageEntry, Frames, word_table, table_of, with_flag_lt, walked_word, with_walked, Slot, holders_of, spaces_of, Directories, Roles, directory_of, table_in, entry_in, entries_in, spaces_in, total_cost, Tables, Pages, IsSound, InUse, Touched, none_goes, frame_number, is_present, IsKernelDirWord, IsKernelTableWord, flag-with_flag_other, frame-with_flag, with_flag, NamesTable}
use Rattle.address_space.proofs.Lemmas.{same_entries, entry_kept, same_bytes, no_directory, past_end, inside, sound_by, stay_same, places_by}
use Rattle.page_words.specs.FiniteMap as map

-- a directory word that names the same table, and is one of the kernel's where the first is
pub record Alike (w w' : ℕ) : Type 0 where
  pub table : word_table w' ≡ word_table w
  pub kernel : IsKernelDirWord w → IsKernelDirWord w'
  pub zero : w ≡ 0 → w' ≡ 0

pub same_word : (w : ℕ) → Alike w w
same_word w = record { table = refl; kernel = λ k. k; zero = λ z. z }

flagged_names : (w : ℕ) (b : Bool) → w < 2 ^ 32 → NamesTable w → NamesTable (with_flag w 5 b)
flagged_names w b lt k = record {
  frame = let f = frame-with_flag w 5 b lt (with_flag_lt w 5 b lt (omega arith)) (omega arith) in let h = k.frame in omega (arith, f, h);
  present = flag-with_flag_other w 5 0 b (omega arith) (omega arith) (omega arith) ∙ k.present;
  writable = flag-with_flag_other w 5 1 b (omega arith) (omega arith) (omega arith) ∙ k.writable;
  user = flag-with_flag_other w 5 2 b (omega arith) (omega arith) (omega arith) ∙ k.user;
  bit_3 = flag-with_flag_other w 5 3 b (omega arith) (omega arith) (omega arith) ∙ k.bit_3;
  bit_4 = flag-with_flag_other w 5 4 b (omega arith) (omega arith) (omega arith) ∙ k.bit_4;
  bit_6 = flag-with_flag_other w 5 6 b (omega arith) (omega arith) (omega arith) ∙ k.bit_6;
  bit_7 = flag-with_flag_other w 5 7 b (omega arith) (omega arith) (omega arith) ∙ k.bit_7;
  bit_8 = flag-with_flag_other w 5 8 b (omega arith) (omega arith) (omega arith) ∙ k.bit_8;
  bit_9 = flag-with_flag_other w 5 9 b (omega arith) (omega arith) (omega arith) ∙ k.bit_9;
  bit_10 = flag-with_flag_other w 5 10 b (omega arith) (omega arith) (omega arith) ∙ k.bit_10;
  bit_11 = flag-with_flag_other w 5 11 b (omega arith) (omega arith) (omega arith) ∙ k.bit_11;
}

-- a word with accessed set or cleared is like it, where it is present
pub flagged_alike : (w : ℕ) (b : Bool) → w < 2 ^ 32 → is_present w ≡ true → Alike w (with_flag w 5 b)
flagged_alike w b lt present =
    grind (
      arith,
      flag-with_flag_other w 5 0 b (omega arith) (omega arith) (omega arith),
      frame-with_flag,
      with_flag_lt,
      flagged_names,
    )

-- and so it is where nothing is done to a word that isn't present
pub walked_alike : (w : ℕ) (b : Bool) → w < 2 ^ 32 → Alike w (walked_word b w)
walked_alike w b lt = by (is_present w) refl
  where
    by : (c : Bool) → is_present w ≡ c → Alike w (if c then with_flag w 5 b else w)
    by true is = flagged_alike w b lt is
    by false is = same_word w

-- a kernel's word is 0, or its table lies in memory
kernel_lt : (w : ℕ) → IsKernelDirWord w → (is_present w ≡ true → frame_number w < 2 ^ 20) → w < 2 ^ 32
kernel_lt w h fits = grind arith

table_fits : (directories : List (Option ℕ)) (bytes : List ℕ) (roles : List Role) (p d s w : ℕ) → IsSound directories bytes roles → directory_of directories p ≡ Some d → word_in (frame_bytes bytes d) s ≡ w → is_present w ≡ true → frame_number w < 2 ^ 20
table_fits directories bytes roles p d s w sound live is present =
    let there : table_in (directory_of directories) (frame_bytes bytes) p s ≡ Some (frame_number w) =
    ap (option_and_then (λ d. table_of (frame_bytes bytes) d s)) live ∙ ap word_table is ∙ ap (λ b. if b then Some (frame_number w) else None) present in
    (inside directories bytes roles (frame_number w) (Table p s) sound (sound.tables.table p s (frame_number w) there)).small

-- all words of directories are alike, and all other frames are as they were
pub record DirsAlike (D : Directories) (m m' : Frames) : Type 0 where
  pub others : (f : ℕ) → ((p : ℕ) → D p ≢ Some f) → m' f ≡ m f
  pub words : (p d s : ℕ) → D p ≡ Some d → s < 1024 → Alike (word_in (m d) s) (word_in (m' d) s)
  pub long : (p d : ℕ) → D p ≡ Some d → length (m' d) ≡ 4096

module _ (D : Directories) (m m' : Frames) (R : Roles) (T : Tables D m R) (A : DirsAlike D m m') where
  -- a frame of another role is as it was
  role_kept : (f : ℕ) (r : Role) → R f ≡ Some r → ((p : ℕ) → r ≢ Directory p) → m' f ≡ m f
  role_kept f r is n = A.others f (λ p live. n p (let k = T.directory p f live in cc))

  pub dirs-tables : (q s : ℕ) → table_in D m' q s ≡ table_in D m q s
  dirs-tables q s = grind (arith, at)
    where
      at : (d : ℕ) → D q ≡ Some d → word_table (word_in (m' d) s) ≡ word_table (word_in (m d) s)
      at d live = elim (cases_lt s 1024) [
        | inl inside ↦ (A.words q d s live inside).table
        | inr past ↦ ap word_table (past_end (m' d) s (A.long q d live) past ∙ sym (past_end (m d) s (T.long d (Directory q) (T.directory q d live)) past))
      ]

  pub dirs-table : (q s t : ℕ) → table_in D m q s ≡ Some t → m' t ≡ m t
  dirs-table q s t is = role_kept t (Table q s) (T.table q s t is) (λ p. λ e. cc)

  pub dirs-entry : (q : Slot) → entry_in D m' q ≡ entry_in D m q
  dirs-entry q = entry_kept D D m m' q (dirs-tables q.pid (slot_number q.page)) (dirs-table q.pid (slot_number q.page))

  pub dirs-entries : entries_in D m' ≡ entries_in D m
  dirs-entries = same_entries D m m' dirs-entry

  pub tables-dirs : Tables D m' R
  tables-dirs = record {
    zero_role = T.zero_role;
    zero_bytes = role_kept 0 Reserved T.zero_role (λ p. λ e. cc) ∙ T.zero_bytes;
    reserved = T.reserved;
    directory = T.directory;
    directory_back = T.directory_back;
    table = λ q s g is. T.table q s g (sym (dirs-tables q s) ∙ is);
    table_back = λ q s g is. dirs-tables q s ∙ T.table_back q s g is;
    dir_words = λ q d s is h. (A.words q d s is h).kernel (T.dir_words q d s is h);
    outside = λ q d s is h o. (A.words q d s is h).zero (T.outside q d s is h o);
    table_words = λ q s g i is h. let old = sym (dirs-tables q s) ∙ is in subst (λ w. IsKernelTableWord (word_in w i)) (sym (dirs-table q s g old)) (T.table_words q s g i old h);
    long = λ g r is. (grind (arith, role_kept));
  }

  pub use_dirs : InUse D m → InUse D m'
  use_dirs before q r g found =
      let old = sym (dirs-tables q r) ∙ found in
      let u = before q r g old in
      (u.0, u.1, ap (λ l. is_present (word_in l u.0)) (dirs-table q r g old) ∙ u.2)

  pub dirs-page : (q : Slot) (e : PageEntry) → Pages (entries_in D m) R → map.get (entries_in D m) q ≡ Some e → m' e.frame ≡ m e.frame
  dirs-page q e P is = A.others e.frame (λ p live. no_directory R e.frame e.frame p (P.pages q e is) (T.directory p e.frame live) refl)

-- the directory words were changed for words that are alike
pub dirs_touched : (directories : List (Option ℕ)) (bytes bytes' : List ℕ) (roles : List Role) → IsSound directories bytes roles
    → DirsAlike (directory_of directories) (frame_bytes bytes) (frame_bytes bytes') → length bytes' ≡ length bytes → Touched directories (spaces_in directories bytes) bytes roles bytes'
unfolding spaces_in
dirs_touched directories bytes bytes' roles sound alike long =
    let D : Directories = directory_of directories in
    let m : Frames = frame_bytes bytes in
    let m' : Frames = frame_bytes bytes' in
    let R : Roles = slice_get roles in
    let T : Tables D m R = sound.tables in
    let E : entries_in D m' ≡ entries_in D m = dirs-entries D m m' R T alike in
    let S : spaces_of (entries_in D m') m' ≡ spaces_of (entries_in D m) m = ap (λ x. spaces_of x m') E ∙ same_bytes (entries_in D m) m m' (λ q e is. dirs-page D m m' R T alike q e sound.pages is) in
    record {
      sound = sound_by directories bytes bytes' roles roles m' (entries_in D m) sound long refl refl (tables-dirs D m m' R T alike) E sound.pages;
      spaces = S;
      cost = ap (total_cost directories) S;
      in_use = use_dirs D m m' R T alike;
      lazy = ap (λ x. holders_of x 0) E;
      stay = places_by none_goes D m D m' (stay_same none_goes (entries_in D m) (entries_in D m') E)
          (λ q r t found. dirs-tables D m m' R T alike q r ∙ found);
    }

-- one word of a directory was written
pub one_dir_word : (directories : List (Option ℕ)) (bytes bytes' : List ℕ) (roles : List Role) (p d s w : ℕ) → IsSound directories bytes roles → directory_of directories p ≡ Some d → s < 1024 → w < 2 ^ 32
    → Alike (word_in (frame_bytes bytes d) s) w → frame_bytes bytes' ≡ with_frame (frame_bytes bytes) d (with_word_in (frame_bytes bytes d) s w)
    → DirsAlike (directory_of directories) (frame_bytes bytes) (frame_bytes bytes')
one_dir_word directories bytes bytes' roles p d s w sound live small lt alike is = record {
  others = λ f n. (λ i. is i f) ∙ with_frame-other m d f new (λ same. n p (live ∙ ap Some (sym same)));
  words = λ q g r is_g l. elim (cases_eq g d) [
    | inr differ ↦ subst (Alike (word_in (m g) r)) (sym (ap (λ l. word_in l r) ((λ i. is i g) ∙ with_frame-other m d g new differ))) (same_word (word_in (m g) r))
    | inl same ↦ elim (cases_eq r s) [
      | inl here ↦ grind (arith, m, own, word_in_same, long_d)
      | inr other ↦ subst (Alike (word_in (m g) r)) (sym (ap (λ h. word_in (frame_bytes bytes' h) r) same ∙ ap (λ l. word_in l r) own ∙ word_in_other (m d) s r w long_d small other ∙ ap (λ h. word_in (m h) r) (sym same))) (same_word (word_in (m g) r))
    ]
  ];
  long = λ q g is_g. elim (cases_eq g d) [
    | inl same ↦ ap (λ h. length (frame_bytes bytes' h)) same ∙ ap length own ∙ length-with_word_in (m d) s w long_d small
    | inr differ ↦ ap length ((λ i. is i g) ∙ with_frame-other m d g new differ) ∙ sound.tables.long g (Directory q) (sound.tables.directory q g is_g)
  ];
}
  where
    m : Frames
    m = frame_bytes bytes

    new : List ℕ
    new = with_word_in (m d) s w

    own : frame_bytes bytes' d ≡ new
    own = (λ i. is i d) ∙ with_frame-same m d new

    long_d : length (m d) ≡ 4096
    long_d = sound.tables.long d (Directory p) (sound.tables.directory p d live)

-- accessed of a directory word was set or cleared
pub dir_word_walked : (directories : List (Option ℕ)) (bytes bytes' : List ℕ) (roles : List Role) (p d page : ℕ) (walked : Bool) → IsSound directories bytes roles → directory_of directories p ≡ Some d → page < 0xf0000
    → bytes' ≡ with_walked bytes d page walked → length bytes' ≡ length bytes → Touched directories (spaces_in directories bytes) bytes roles bytes'
dir_word_walked directories bytes bytes' roles p d page walked sound live high is long =
    let m : Frames = frame_bytes bytes in
    let s : ℕ = slot_number page in
    let small : s < 1024 = omega (arith, high) in
    let w : ℕ = word_in (m d) s in
    let in_d = inside directories bytes roles d (Directory p) sound (sound.tables.directory p d live) in
    let word_is : word_at bytes (word_place d s) ≡ w = word_in-frame bytes d s small in
    let lt : w < 2 ^ 32 = kernel_lt w (sound.tables.dir_words p d s live small) (table_fits directories bytes roles p d s w sound live refl) in
    let frames : frame_bytes bytes' ≡ with_frame m d (with_word_in (m d) s (walked_word walked w)) =
    ap frame_bytes (is ∙ ap (λ x. with_word bytes (word_place d s) (walked_word walked x)) word_is) ∙ frames-with_word bytes d s (walked_word walked w) small in_d.fits in
    dirs_touched directories bytes bytes' roles sound
    (one_dir_word directories bytes bytes' roles p d s (walked_word walked w) sound live small (grind (arith, with_flag_lt)) (walked_alike w walked lt) frames) long
