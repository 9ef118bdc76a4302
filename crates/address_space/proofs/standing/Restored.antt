-- The frames of a sound image with today's words agree, as a machine's own do.
use Rattle.address_space.proofs.Prelude.{◌≡◌, ℕ, zero, suc, ◌+◌, ◌*◌, ◌<◌, ◌≤◌, Bool, true, false, cond, List, [], ◌∷◌, length, refl, ap, sym, ◌∙◌, subst, arith, inl, inr, Option, Some, None, is_some, slice_get, slice_index, option_and_then, option_map, cases_lt, slice_get_within, slot_number, index_number, frame_number, is_present, is_lazy, NamesPage, same_set, frame_bytes, word_in, length-frame, byte-frame, Role, Reserved, Directory, Table, Page, PageEntry, Frames, dir_word, word_entry, entry_from, count_range-same, Slot, slot_order, Cell, at_page, Entries, holders_of, spaces_of, Image, IsSoundImage, StandsFor, image_from, directory_at, word_of, is_user_slot, named_by, table_at, page_word, page_frame, CellStands, IsCount, own_frame, Directories, directory_of, table_in, entry_in, entries_in, spaces_in, IsCounted, pages_by, Tables, HoldsPage, IsSound, InUse, IsSpaces, All, range_with_len, get_or_default, HasRoom, words_by, counted_at, map as list_map}
use Rattle.address_space.proofs.Lemmas.{keys, get-entries_in, entry_by_table, in_user_slots, live_small, past_end, own_is, same_table_by, one_group}
use Rattle.address_space.proofs.costs.Weighed.{weighs}
use Rattle.page_words.specs.FiniteMap as map
use Rattle.page_words.specs.FiniteSet as set
use Rattle.address_space.proofs.standing.TablesStand as tables

pub some_of : (n : ℕ) → 16 ≤ n → 0 < n
some_of n h = omega (arith, h)

-- a slot that names a table is one of the user range
pub user_named : (s word t : ℕ) → named_by s word ≡ Some t → (256 ≤ s) × (s < 960)
user_named s word t h = grind (arith, cases_lt)

pub from_map : {A B : Type 0} (f : A → B) (x : Option A) (b : B) → option_map f x ≡ Some b → (a : A) × (x ≡ Some a) × (f a ≡ b)
from_map f x b h = grind arith

pub from_then : {A B : Type 0} (f : A → Option B) (x : Option A) (b : B) → option_and_then f x ≡ Some b → (a : A) × (x ≡ Some a) × (f a ≡ Some b)
from_then f x b h = grind arith

module _ (directories : List (Option ℕ)) (bytes : List ℕ) (roles : List Role) (pids : length directories ≡ 64) (least : 0 < length roles) (few : length roles ≤ 1048576)
    (I : IsSoundImage (image_from directories bytes roles)) where
  abbrev D : Directories
  D = directory_of directories

  abbrev m : Frames
  m = frame_bytes bytes

  abbrev image : Image
  image = image_from directories bytes roles

  abbrev E : Entries
  E = entries_in D m

  whole : (f : ℕ) → f < length roles → length (m f) ≡ 4096
  whole f inside = let size = I.size in length-frame bytes f (omega (arith, size, inside))

  -- outside the user range a directory has no word
  outside_word : (p d s : ℕ) → D p ≡ Some d → is_user_slot s ≡ false → dir_word m d s ≡ 0
  outside_word p d s live out = elim (cases_lt s 1024) [
    | inl inside ↦ I.no_more p d s live inside out
    | inr past ↦ past_end (m d) s (whole d (slice_get_within roles d (Directory p) ((I.directories d p).1 live))) past
  ]

  same_table : (p s : ℕ) → table_at image p s ≡ table_in D m p s
  same_table = same_table_by directories bytes roles outside_word

  wide : (p s t : ℕ) → slice_get roles t ≡ Some (Table p s) → s < 1024
  wide p s t is =
      let d = from_then (λ d. named_by s (word_of image d s)) (directory_at image p) t ((I.tables t p s).0 is) in
      omega (arith, (user_named s (word_of image d.0 s) t d.2).1)

  tables_agree : Tables D m (slice_get roles)
  tables_agree = record {
    zero_role = (I.reserved 0 (omega (arith, least))).1 refl;
    zero_bytes = I.zero_frame;
    reserved = λ f is. (I.reserved f (slice_get_within roles f Reserved is)).0 is;
    directory = λ p d is. (I.directories d p).1 is;
    directory_back = λ p d is. (I.directories d p).0 is;
    table = λ p s t is. (I.tables t p s).1 (same_table p s ∙ is);
    table_back = λ p s t is. sym (same_table p s) ∙ (I.tables t p s).0 is;
    dir_words = I.directory_words;
    outside = λ p d s live inside out. I.no_more p d s live inside (grind arith);
    table_words = λ p s t i is inside. I.table_words p s t i (same_table p s ∙ is) inside;
    long = λ f r is. whole f (slice_get_within roles f r is);
  }

  read_entry : (slot : Slot) → map.get E slot ≡ option_map entry_from (page_word image slot)
  read_entry = tables.read_entry directories bytes roles tables_agree pids

  holds : (slot : Slot) (e : PageEntry) → map.get E slot ≡ Some e → HoldsPage (slice_get roles e.frame)
  holds slot e found =
      let w = from_map entry_from (page_word image slot) e (sym (read_entry slot) ∙ found) in
      let kernel = tables.word_names directories bytes roles tables_agree pids slot w.0 w.1 in
      subst (λ (e : PageEntry). HoldsPage (slice_get roles e.frame)) w.2 (by w.0 w.1 kernel (is_lazy w.0) refl)
    where
      by : (word : ℕ) → page_word image slot ≡ Some word → NamesPage word → (b : Bool) → is_lazy word ≡ b → HoldsPage (slice_get roles (frame_number word))
      by word at kernel true is = inl (ap (slice_get roles) (kernel.zero is) ∙ (I.reserved 0 (omega (arith, least))).1 refl)
      by word at kernel false is = inr (I.pages slot (frame_number word) (ap (option_and_then (own_frame 2)) at ∙ own_is word is))

  counted : (f c : ℕ) → slice_get roles f ≡ Some (Page c) → (0 < c) × (c ≡ set.len (holders_of E f))
  counted f c is =
      let k = I.counts f c is in
      let n : IsCount slot_order c (λ slot. page_frame image slot ≡ Some f) = k.1 in
      let same = same_set n.members (holders_of E f) (λ slot. one_group _ _ (n.are slot) ((tables.group_is directories bytes roles tables_agree pids) f slot (grind arith))) in
      (k.0, n.count ∙ ap set.len same)

  pub sound : IsSound directories bytes roles
  sound = record {
    size = I.size;
    few = few;
    pids = pids;
    tables = tables_agree;
    pages = record { pages = holds; counts = counted };
  }

  pub in_use : InUse D m
  in_use p s t is = I.in_use p s t (same_table p s ∙ is)

  pub kept : HasRoom directories bytes roles → IsSpaces directories bytes roles
  kept room = record { sound = sound; in_use = in_use; weighs = weighs directories bytes roles sound in_use wide; within = room }

  -- and stand for the spaces, whatever these cost
  pub stands : StandsFor image (spaces_in directories bytes)
  unfolding spaces_in
  stands = record { sound = I; cells = tables.cell_stands directories bytes roles tables_agree pids }

  -- the bytes of a cell are those of a frame in memory
  pub cell_long : (slot : Slot) (word : ℕ) (cell : Cell) → CellStands image slot word cell → frame_number word < length roles → length cell.bytes ≡ 4096
  cell_long slot word cell c inside = ap length c.bytes ∙ whole (frame_number word) inside

  pub cell_small : ((i : ℕ) → slice_index bytes i < 256) → (slot : Slot) (word : ℕ) (cell : Cell) → CellStands image slot word cell → frame_number word < length roles → All (λ b. b < 256) cell.bytes
  cell_small small slot word cell c inside = subst (λ (x : List ℕ). All (λ b. b < 256) x) (sym c.bytes) each
    where
      each : All (λ b. b < 256) (m (frame_number word))
      each k d low =
          let within : k < 4096 = omega (arith, low, whole (frame_number word) inside) in
          subst (λ b. b < 256) (sym (byte-frame bytes (frame_number word) k within) ∙ get_or_default (m (frame_number word)) k 0 d low) (small (4096 * frame_number word + k))

  -- cells on one frame have the same bytes
  pub cells_alike : (slot other : Slot) (word more : ℕ) (cell c : Cell) → CellStands image slot word cell → CellStands image other more c → frame_number more ≡ frame_number word → c.bytes ≡ cell.bytes
  cells_alike slot other word more cell c h k same = k.bytes ∙ ap m same ∙ sym h.bytes

  -- ---- The counts of the tables' pages

  -- an index of a table has a word where the page there is mapped
  word-mapped : (p s t i : ℕ) → slice_get roles t ≡ Some (Table p s) → i < 1024 → is_present (word_in (m t) (0 + i)) ≡ map.contains_key (spaces_of E m) (at_page p (1024 * s + i))
  word-mapped p s t i is low =
      let there = (I.tables t p s).0 is in
      let d = from_then (λ d. named_by s (word_of image d s)) (directory_at image p) t there in
      let user = user_named s (word_of image d.0 s) t d.2 in
      let page : ℕ = 1024 * s + i in
      let r : slot_number page ≡ s = omega (arith, low) in
      let index : index_number page ≡ i = omega (arith, low) in
      let first : 0 + i ≡ i = omega arith in
      let q : Slot = at_page p page in
      let entry : entry_in D m q ≡ word_entry (word_in (m t) i) =
      entry_by_table D m q ∙ ap (option_and_then (λ table. word_entry (word_in (m table) (index_number page)))) (ap (table_in D m p) r ∙ sym (same_table p s) ∙ there) ∙ ap (λ i. word_entry (word_in (m t) i)) index in
      let found : map.get E q ≡ entry_in D m q = get-entries_in D m q ∙ ap (λ b. cond b (entry_in D m q) None) (in_user_slots p page (live_small directories p d.0 pids d.1) (omega (arith, user.0)) (omega (arith, user.1, low))) in
      ap (λ i. is_present (word_in (m t) i)) first ∙ sym (keys E m q ∙ ap is_some (found ∙ entry) ∙ (grind arith))

  pages-words : (f : ℕ) (r : Role) → slice_get roles f ≡ Some r → words_by bytes f r ≡ pages_by (spaces_of E m) r
  pages-words f r is = grind (arith, count_range-same, word-mapped)

  all-words : (rs : List Role) (a : ℕ) → ((i : ℕ) (r : Role) → slice_get rs i ≡ Some r → counted_at bytes roles (a + i) ≡ pages_by (spaces_of E m) r)
      → (f : ℕ) → slice_get (list_map (counted_at bytes roles) (range_with_len a (length rs))) f ≡ option_map (pages_by (spaces_of E m)) (slice_get rs f)
  all-words [] a each f = refl
  all-words (r ∷ rs) a each zero = let here : a ≡ a + 0 = omega arith in ap Some (ap (counted_at bytes roles) here ∙ each 0 r refl)
  all-words (r ∷ rs) a each (suc f) = all-words rs (a + 1) (λ i q is. (let next : a + 1 + i ≡ a + suc i = omega arith in ap (counted_at bytes roles) next ∙ each (suc i) q is)) f

  pub words_counted : (counts : List ℕ) → counts ≡ list_map (counted_at bytes roles) (range_with_len 0 (length roles)) → IsCounted (spaces_in directories bytes) roles counts
  unfolding spaces_in
  words_counted counts is f = grind (arith, all-words, pages-words)
