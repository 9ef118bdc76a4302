-- Tables and pages as an image names them, where directories and tables agree with the roles.
use Rattle.address_space.proofs.Prelude.{◌≡◌, ℕ, ◌+◌, ◌*◌, ◌<◌, ◌≤◌, true, false, cond, List, [], ◌∷◌, length, drop, refl, ap, sym, ◌∙◌, subst, arith, inl, inr, Option, Some, None, length-drop, ◌⊎◌, ◌↔◌, ◌&&◌, slice_get, slice_index, nat_lt, nat_le, IsTrue, if◌then◌else◌, option_and_then, option_map, list_any, cases_lt, nat_tests, slice_get_within, slot_number, index_number, frame_number, is_present, is_lazy, IsKernelTableWord, NamesPage, same, same_or_not, same_itself, contains-insert, frame_bytes, word_at, word_in, Role, Directory, Table, Frames, dir_word, entry_from, is_lazy_entry, Slot, slot_order, user_slots, Entries, names, group_of, spaces_of, holders_of, Image, word_of, is_user_slot, named_by, table_at, is_lazy_at, page_word, page_frame, SlotStands, image_from, IsOneGroup, present_word, own_frame, Directories, directory_of, table_in, entry_in, entries_in, Tables, eqb-true, eq-eqb}
use Rattle.address_space.proofs.entries.UserSlots.{in_user_slots}
use Rattle.address_space.proofs.entries.EntrySteps.{get-entries_in, entry_by_table}
use Rattle.address_space.proofs.entries.Refinement.{get-spaces_of, contains-holders_of, group-real}
use Rattle.address_space.proofs.steps.Steps.{live_small}
use Rattle.page_words.specs.FiniteMap as map
use Rattle.page_words.specs.FiniteSet as set

-- past its 1,024 words a frame has none
pub past_end : (xs : List ℕ) (s : ℕ) → length xs ≡ 4096 → 1024 ≤ s → word_in xs s ≡ 0
unfolding word_at
past_end xs s long high = ends (drop (4 * s) xs) (let n = length-drop (4 * s) xs in omega (arith, n))
  where
    ends : (ys : List ℕ) → length ys ≡ 0 → slice_index ys 0 + 256 * (slice_index ys 1 + 256 * (slice_index ys 2 + 256 * (slice_index ys 3 + 256 * 0))) ≡ 0
    ends [] h = refl
    ends (y ∷ ys) h = absurd (omega arith)

pub user_slot_is : (s : ℕ) → 256 ≤ s → s < 960 → is_user_slot s ≡ true
user_slot_is s low high = let a : nat_le 256 s ≡ true = grind (arith, nat_tests) in let b : nat_lt s 960 ≡ true = grind (arith, nat_tests) in λ i. a i && b i

pub not_user_slot : (s : ℕ) → is_user_slot s ≡ false → (s < 256) ⊎ (960 ≤ s)
not_user_slot s h = grind (arith, cases_lt, user_slot_is)

-- a present table word of a kernel is of a page
present_names : (word : ℕ) → is_present word ≡ true → IsKernelTableWord word → NamesPage word
present_names word present h = grind arith

-- a word's frame, where it has one of its own
pub owned : (word f : ℕ) → own_frame 2 word ≡ Some f → (is_lazy word ≡ false) × (frame_number word ≡ f)
owned word f h = grind arith

pub own_is : (word : ℕ) → is_lazy word ≡ false → own_frame 2 word ≡ Some (frame_number word)
own_is word real = ap (λ b. if b then None else Some (frame_number word)) real

-- an entry names a frame other than frame 0 where its word does
named : (f : ℕ) (x : Option ℕ) → 1 ≤ f → ((word : ℕ) → x ≡ Some word → NamesPage word) → IsTrue (names f (option_map entry_from x)) ↔ (option_and_then (own_frame 2) x ≡ Some f)
named f x up kernel = grind (arith, eq-eqb, owned, eqb-true, own_is)

-- the tables that an image names, where no directory has a word outside the user range
pub same_table_by : (directories : List (Option ℕ)) (bytes : List ℕ) (roles : List Role)
    → ((p d s : ℕ) → directory_of directories p ≡ Some d → is_user_slot s ≡ false → dir_word (frame_bytes bytes) d s ≡ 0)
    → (p s : ℕ) → table_at (image_from directories bytes roles) p s ≡ table_in (directory_of directories) (frame_bytes bytes) p s
same_table_by directories bytes roles outside p s = grind arith

module _ (directories : List (Option ℕ)) (bytes : List ℕ) (roles : List Role) (T : Tables (directory_of directories) (frame_bytes bytes) (slice_get roles)) (pids : length directories ≡ 64) where
  abbrev pub D : Directories
  D = directory_of directories

  abbrev pub m : Frames
  m = frame_bytes bytes

  abbrev pub image : Image
  image = image_from directories bytes roles

  abbrev pub E : Entries
  E = entries_in D m

  -- a directory's word outside the user range is 0
  outside_word : (p d s : ℕ) → D p ≡ Some d → is_user_slot s ≡ false → dir_word m d s ≡ 0
  outside_word p d s live out = elim (cases_lt s 1024) [
    | inl inside ↦ T.outside p d s live inside (not_user_slot s out)
    | inr past ↦ past_end (m d) s (T.long d (Directory p) (T.directory p d live)) past
  ]

  pub same_table : (p s : ℕ) → table_at image p s ≡ table_in D m p s
  same_table = same_table_by directories bytes roles outside_word

  table_small : (p s t : ℕ) → table_in D m p s ≡ Some t → nat_lt t (length roles) ≡ true
  table_small p s t is = let w = slice_get_within roles t (Table p s) (T.table p s t is) in grind (arith, nat_tests)

  pub same_entry : (slot : Slot) → entry_in D m slot ≡ option_map entry_from (page_word image slot)
  same_entry slot = grind (arith, entry_by_table, same_table, table_small)

  -- a slot whose word is present is one of the user range
  user_page : (slot : Slot) (word : ℕ) → page_word image slot ≡ Some word → list_any (same slot_order slot) user_slots ≡ true
  user_page slot word h = by_directory (D slot.pid) refl h
    where
      by_table : (d t : ℕ) → D slot.pid ≡ Some d → named_by (slot_number slot.page) (word_of image d (slot_number slot.page)) ≡ Some t → list_any (same slot_order slot) user_slots ≡ true
      by_table d t live is =
          let range = user_range (slot_number slot.page) ((grind arith)) in
          in_user_slots slot.pid slot.page (live_small directories slot.pid d pids live) (omega (arith, range.0, range.1)) (omega (arith, range.0, range.1))
        where
          user_range : (s : ℕ) → is_user_slot s ≡ true → (256 ≤ s) × (s < 960)
          user_range s u = grind (arith, cases_lt)

      by_directory : (x : Option ℕ) → D slot.pid ≡ x
          → option_and_then (λ t. present_word image t (word_of image t (index_number slot.page))) (option_and_then (λ d. named_by (slot_number slot.page) (word_of image d (slot_number slot.page))) x) ≡ Some word → list_any (same slot_order slot) user_slots ≡ true
      by_directory None is k = cc
      by_directory (Some d) is k = grind (arith, by_table)

  pub read_entry : (slot : Slot) → map.get E slot ≡ option_map entry_from (page_word image slot)
  read_entry slot = get-entries_in D m slot ∙ ap (λ x. cond (list_any (same slot_order slot) user_slots) x None) (same_entry slot) ∙ (grind (arith, user_page))

  -- a slot's present word is one that the kernel writes
  pub word_names : (slot : Slot) (word : ℕ) → page_word image slot ≡ Some word → NamesPage word
  word_names slot word h = by (table_at image slot.pid (slot_number slot.page)) refl h
    where
      by : (x : Option ℕ) → table_at image slot.pid (slot_number slot.page) ≡ x → option_and_then (λ t. present_word image t (word_of image t (index_number slot.page))) x ≡ Some word → NamesPage word
      by x is k = grind (arith, present_names, same_table)

  -- whether a slot's page is lazy, by its word and by its entry
  pub same_lazy : (slot : Slot) → is_lazy_at image slot ≡ is_lazy_entry (entry_in D m slot)
  same_lazy slot = grind (arith, same_entry)

  pub group_is : (f : ℕ) (slot : Slot) → 1 ≤ f → IsTrue (set.contains (holders_of E f) slot) ↔ (page_frame image slot ≡ Some f)
  group_is f slot up = subst (λ b. IsTrue b ↔ (page_frame image slot ≡ Some f)) (sym (contains-holders_of E f slot ∙ ap (names f) (read_entry slot))) (named f (page_word image slot) up (word_names slot))

  -- the slots that name frame 0 are the lazy ones
  pub lazy_slots : (slot : Slot) → IsTrue (set.contains (holders_of E 0) slot) ↔ IsTrue (is_lazy_at image slot)
  lazy_slots slot = grind (arith, contains-holders_of, read_entry, word_names, eqb-true, eq-eqb)

  whole_group : (slot : Slot) (word : ℕ) → NamesPage word → (other : Slot) → IsTrue (set.contains (group_of E slot (frame_number word)) other) ↔ IsOneGroup image slot word other
  whole_group slot word kernel other =
      grind (arith, same_or_not, contains-insert, same_itself, group-real, nat_tests, group_is)

  pub cell_stands : (slot : Slot) → SlotStands image slot (page_word image slot) (map.get (spaces_of E m) slot)
  cell_stands slot = grind (arith, get-spaces_of, read_entry, word_names, whole_group)
