-- The pages of a process leave from region to region, and those of a region by its table.
use Rattle.address_space.proofs.Prelude.{◌≡◌, ◌≢◌, ℕ, ◌+◌, ◌-◌, ◌*◌, ◌<◌, ◌≤◌, List, refl, ap, sym, ◌∙◌, arith, inl, inr, Option, Some, None, ◌⊎◌, slot_number, index_number, frame_number, frame_bytes, word_in, with_frame-same, with_frame-other, word_in_same, word_in_other, PageEntry, Frames, IsPageMap, IsCleared, dir_word, table_of, entry_at, word_entry, without_entry, count_range-same, count_range-none, found_in, View, directory_of, cost, EntryGone, DroppedBelow, words_left, Inner}
use Rattle.address_space.proofs.Lemmas.{spaces_at, view_of, light_lacks, dropped_past, table_by_word}
use Rattle.address_space.proofs.steps.RegionCopies.{no_entry_there, listed_entry}

-- what an entry that went leaves of its table
pub entry_gone : (bytes : List ℕ) (d t page : ℕ) (freed : Option ℕ) (m' : Frames) → IsPageMap bytes d → slot_number page < 1024 → table_of (frame_bytes bytes) d (slot_number page) ≡ Some t
    → IsCleared (frame_bytes bytes) d page freed m' → EntryGone (frame_bytes bytes) d t page m'
entry_gone bytes d t page freed m' apart few there cleared = by freed refl
  where
    m : Frames
    m = frame_bytes bytes

    gone : Frames
    gone = without_entry m t page

    named : frame_number (dir_word m d (slot_number page)) ≡ t
    named = table_by_word (dir_word m d (slot_number page)) t there

    differ : t ≢ d
    differ = apart.apart (slot_number page) t few there

    back : d ≢ t
    back e = differ (sym e)

    words : (i : ℕ) → i ≢ index_number page → word_in (gone t) i ≡ word_in (m t) i
    words i n =
        ap (λ l. word_in l i) (with_frame-same m t _)
        ∙ word_in_other (m t) (index_number page) i 0 (apart.long t (apart.tables_inside (slot_number page) t few there)) (omega arith) n

    by : (x : Option ℕ) → freed ≡ x → EntryGone m d t page m'
    by None is = grind (arith, gone, m, named, words, with_frame-other, back)
    by (Some u) is = grind (arith, named, gone, m, with_frame-other, differ, words, with_frame-same, word_in_same, back)

-- what is found at a page whose word was listed
pub listed_found : (directories : List (Option ℕ)) (bytes : List ℕ) (p slot : ℕ) {d table index : ℕ} {e : PageEntry} → directory_of directories p ≡ Some d → table_of (frame_bytes bytes) d slot ≡ Some table → index < 1024
    → word_entry (word_in (frame_bytes bytes table) index) ≡ Some e → found_in (directory_of directories) (frame_bytes bytes) p (1024 * slot + index) ≡ Some (record { page = 1024 * slot + index; table = table; entry = e })
listed_found directories bytes p slot {d} {table} {index} {e} live there few is = grind arith

-- how many words of the table are left then, and that it is linked while there is one
pub record RegionLeft (bytes : List ℕ) (d slot table index left : ℕ) : Type 0 where
  pub words : left ≡ words_left bytes table index
  pub linked : (table_of (frame_bytes bytes) d slot ≡ Some table) ⊎ ((table_of (frame_bytes bytes) d slot ≡ None) × (left ≡ 0))

-- a word that is left is of a table that is linked
pub left_linked : {bytes : List ℕ} {d slot table index left : ℕ} (more : ℕ) → RegionLeft bytes d slot table index left → left ≡ more + 1 → table_of (frame_bytes bytes) d slot ≡ Some table
left_linked more l some = grind arith

-- one goes
pub left_next : {bytes bytes' : List ℕ} {d slot table index found left : ℕ} → RegionLeft bytes d slot table index left → found < 1024 → left ≡ words_left bytes table (found + 1) + 1
    → EntryGone (frame_bytes bytes) d table (1024 * slot + found) (frame_bytes bytes') → RegionLeft bytes' d slot table (found + 1) (left - 1)
left_next {bytes} {bytes'} {d} {slot} {table} {index} {found} {left} l few some gone =
    grind (arith, count_range-same, count_range-none)

-- the pages of a region leave over words without an entry
pub region_passed : {v : View} (inner : Inner) {p d slot table index left : ℕ} (beyond : ℕ) → DroppedBelow v p (1024 * slot + index) (view_of inner) → directory_of inner.directories p ≡ Some d
    → RegionLeft inner.memory d slot table index left → slot < 960 → index ≤ beyond → beyond ≤ 1024
    → ((i : ℕ) → index ≤ i → i < beyond → word_entry (word_in (frame_bytes inner.memory table) i) ≡ None) → DroppedBelow v p (1024 * slot + beyond) (view_of inner)
region_passed {v} inner {p} {d} {slot} {table} {index} {left} beyond so_far live l few up most none =
    dropped_past v inner p d (1024 * slot + index) (1024 * slot + beyond) so_far live (omega (arith, up)) (omega (arith, few, most)) absent
  where
    absent : (page : ℕ) → 1024 * slot + index ≤ page → page < 1024 * slot + beyond → entry_at (frame_bytes inner.memory) d page ≡ None
    absent page low high = grind (arith, listed_entry, no_entry_there)

-- and over regions without a table
pub regions_passed : {v : View} (inner : Inner) {p d first : ℕ} (beyond : ℕ) → DroppedBelow v p (1024 * first) (view_of inner) → directory_of inner.directories p ≡ Some d → first ≤ beyond → beyond ≤ 960
    → ((slot : ℕ) → first ≤ slot → slot < beyond → table_of (frame_bytes inner.memory) d slot ≡ None) → DroppedBelow v p (1024 * beyond) (view_of inner)
regions_passed {v} inner {p} {d} {first} beyond so_far live up most none =
    dropped_past v inner p d (1024 * first) (1024 * beyond) so_far live (omega (arith, up)) (omega (arith, most))
    (λ page low high. no_entry_there (frame_bytes inner.memory) d page (none (slot_number page) (omega (arith, low)) (omega (arith, high))))

-- All have left: no region from there on has a table, or the process is charged for its directory alone.
pub all_passed : {v : View} (inner : Inner) {p d first used left : ℕ} → DroppedBelow v p (1024 * first) (view_of inner) → directory_of inner.directories p ≡ Some d
    → used ≡ cost (spaces_at inner) p → left ≡ used - 1
    → (left ≡ 0) ⊎ ((slot : ℕ) → first ≤ slot → slot < 960 → table_of (frame_bytes inner.memory) d slot ≡ None) → DroppedBelow v p 0xf0000 (view_of inner)
all_passed {v} inner {p} {d} {first} {used} {left} here live is rest (inl light) = record {
  directories = here.directories;
  spaces = here.spaces;
  stay = here.stay;
  loose = here.loose;
  below = λ page few. light_lacks (spaces_at inner) p page (omega (arith, is, rest, light));
  length = here.length;
  low = omega arith;
  high = omega arith;
}
all_passed {v} inner {p} {d} {first} {used} {left} here live is rest (inr none) = let high = here.high in regions_passed inner 960 here live (omega (arith, high)) (omega arith) none
