-- Walks that begin at a table which is kept.
use Rattle.kernel_calls.proofs.Prelude.{◌≡◌, ℕ, ◌<◌, true, false, length, arith, Some, nat_tests, slice_get_within, page_number, slot_number, frame_number, is_present, word_in-frame, Directory, Table, Access, walk_of, dir_word, is_outside, directory_at, table_at, word_of, named_by, from_then, user_named, memory_of, View, IsCore, walk_from, EntriesLeadThere}

-- a word that names a table is present, and names it
pub record Named (word table : ℕ) : Type 0 where
  pub present : is_present word ≡ true
  pub frame : frame_number word ≡ table

named_word : (s word table : ℕ) → named_by s word ≡ Some table → Named word table
named_word s word table h = grind arith

module _ (v : View) (core : IsCore v) (p d table address : ℕ) (access : Access)
    (live : directory_at (memory_of v) p ≡ Some d)
    (linked : table_at (memory_of v) p (slot_number (page_number address)) ≡ Some table) where
  abbrev s : ℕ
  s = slot_number (page_number address)

  names : named_by s (word_of (memory_of v) d s) ≡ Some table
  names = grind (arith, from_then)

  low : s < 1024
  low = let u = (user_named s (word_of (memory_of v) d s) table names).1 in omega (arith, u)

  word : dir_word v.bytes d address ≡ word_of (memory_of v) d s
  word = word_in-frame v.bytes d s low

  named : Named (word_of (memory_of v) d s) table
  named = named_word s (word_of (memory_of v) d s) table names

  inside : (f : ℕ) → f < length v.roles → is_outside v.bytes f ≡ false
  inside f l = let size = core.image.memory.sound.size in grind (arith, nat_tests)

  home_inside : is_outside v.bytes d ≡ false
  home_inside = inside d (slice_get_within v.roles d (Directory p) ((core.image.memory.sound.directories d p).1 live))

  table_inside : is_outside v.bytes table ≡ false
  table_inside = inside table (slice_get_within v.roles table (Table p s) ((core.image.memory.sound.tables table p s).1 linked))

  pub walk_there : walk_from v.bytes table address access ≡ walk_of v.bytes d address access
  unfolding walk_of
  walk_there = grind (arith, home_inside, word, named, table_inside)

pub entries_lead_there : EntriesLeadThere
entries_lead_there v e directory address access core read live inside = grind (arith, walk_there)
