-- The tables in the pool: what a frame of each place holds, and the translations that lie in the tables.
use Rattle.std.specs.Prelude.{◌≡◌, ◌≢◌, ℕ, zero, suc, ◌+◌, ◌-◌, ◌*◌, ◌/◌, ◌%◌, ◌^◌, ◌<◌, ◌≤◌, ◌⊎◌, true, if◌then◌else◌, IfSome, IfNone, List, [], ◌∷◌, ◌++◌, take, length, replicate, slice_index, slice_index_or, Option, Some, None}
use Rattle.std.specs.List.{splice}
use Rattle.std.specs.Option.{option_and_then}
use Rattle.page_words.specs.Addresses.{IsUserPage}
use Rattle.page_words.specs.Words.{is_present, is_writable}
use Rattle.page_words.specs.FiniteMap as map
use Rattle.shadow_tables.specs.LongWords.{long_at, long_place, entry_word}
use Rattle.shadow_tables.specs.Shadow.{Slot, at_page, Translations, Shadow, frame_address}
use Rattle.shadow_tables.specs.Kernel.{AreKernelWords}
pub use Rattle.shadow_tables.specs.Needs.{index_at}
use Rattle.shadow_tables.specs.Needs.{named_within, if_missing}
use Rattle.shadow_tables.specs.Holdings.{Places, count_of, frame_count, AreHeld, IsTakenBy}
use Rattle.shadow_tables.specs.declared.tables.Tables.{Tables}
use Rattle.shadow_tables.specs.declared.tables.Translation.{Translation}
use Rattle.shadow_tables.specs.declared.tables.Way.{Way}

-- how many frames the pool has
abbrev pub frames_of : Tables → ℕ
frames_of t = frame_count t.holdings

-- the word of an index of a frame
abbrev pub word_of : Tables → ℕ → ℕ → ℕ
word_of t frame index = long_at t.bytes.items (long_place frame index)

-- the frame of the pool that a word names, where it names one
abbrev pub named_by : Tables → ℕ → Option ℕ
named_by t word = named_within t.pool (frames_of t) word

-- the bits of a page's number above that index
abbrev pub prefix_at : ℕ → ℕ → ℕ
prefix_at depth page = page / 2 ^ (36 - 9 * depth)

-- the table for a page that this many tables lead to, from the process's root on
abbrev pub way : Tables → ℕ → ℕ → ℕ → Option ℕ
way t p page zero = slice_index_or t.roots p None
way t p page (suc depth) = option_and_then (λ frame. named_by t (word_of t frame (index_at depth page))) (way t p page depth)

-- how many of the four tables for a page are missing
abbrev pub missing_in : Tables → ℕ → ℕ → ℕ
missing_in t p page = if_missing (way t p page 0) + if_missing (way t p page 1) + if_missing (way t p page 2) + if_missing (way t p page 3)

-- the tables for a page go so far
pub record GoesSo (t : Tables) (p page : ℕ) (goes : Way) : Type 0 where
  pub missing : goes.missing ≡ missing_in t p page
  pub most : goes.missing ≤ 4
  pub table : goes.missing ≡ 0 → way t p page 3 ≡ Some goes.table

-- how many of the five tables that pages of a process share are missing
abbrev pub shared_in : Tables → ℕ → ℕ
shared_in t p = if_missing (way t p 0x40000 0) + if_missing (way t p 0x40000 1) + if_missing (way t p 0x40000 2) + if_missing (way t p 0x80000 2) + if_missing (way t p 0xc0000 2)

-- each table that there was leads on as before
abbrev pub WaysStay : Tables → Tables → Type 0
WaysStay old new = (q at depth frame : ℕ) → IsUserPage at → depth ≤ 3 → way old q at depth ≡ Some frame → way new q at depth ≡ Some frame

-- the translation in a word
abbrev pub translation_in : ℕ → ℕ → Option Translation
translation_in block word = if is_present word then Some (record { frame = (word / 4096 - block / 4096) % 2 ^ 20; write = is_writable word }) else None

-- the translation of a page of a process
abbrev pub translation_at : Tables → ℕ → ℕ → Option Translation
translation_at t p page = option_and_then (λ frame. translation_in t.block (word_of t frame (index_at 3 page))) (way t p page 3)

-- that of a slot
abbrev pub translation_of : Tables → Slot → Option Translation
translation_of t slot = translation_at t slot.pid slot.page

-- that many pages of a process from a first one on, as slots
unfoldable pub slots_of : ℕ → ℕ → ℕ → List Slot
slots_of p first zero = []
slots_of p first (suc count) = at_page p first ∷ slots_of p (first + 1) count

-- the user pages of the first processes, as slots
unfoldable pub user_slots : ℕ → List Slot
user_slots zero = []
user_slots (suc p) = slots_of p 0x40000 0xb0000 ++ user_slots p

-- the translations of all slots
unfoldable pub translations_in : Tables → Translations
translations_in t = map.collect (translation_of t) (user_slots 64)

-- what a contract sees of the tables
abbrev pub seen_as : Tables → Shadow
seen_as t = record { translations = translations_in t; roots = t.roots; taken = take 64 t.holdings.counts; free = count_of t.holdings 64; bytes = t.bytes.items; pool = t.pool; block = t.block; kernel = t.kernel.items }

-- a word of a table leads to another table
pub record LinksTo (places : Places) (t : Tables) (frame index below : ℕ) : Type 0 where
  pub inside : below < frames_of t
  pub word : word_of t frame index ≡ entry_word (frame_address t.pool below) true
  pub owner : (places below).owner ≡ (places frame).owner
  pub depth : (places below).depth ≡ suc (places frame).depth
  pub prefix : (places below).prefix ≡ 512 * (places frame).prefix + index

-- a word of a table has this translation of a user page
pub record Translates (places : Places) (t : Tables) (table index : ℕ) (entry : Translation) : Type 0 where
  pub frame : entry.frame < 2 ^ 20
  pub word : word_of t table index ≡ entry_word (frame_address t.block entry.frame) entry.write
  pub user : IsUserPage (512 * (places table).prefix + index)

-- a word of a table is 0, or leads to a table one deeper; of the last table, it is 0 or translates a user page
pub record IsWord (places : Places) (t : Tables) (table index : ℕ) : Type 0 where
  pub link : (places table).depth < 3 → ((places table).depth ≡ 0 → index < 256) → (word_of t table index ≡ 0) ⊎ ((below : ℕ) × LinksTo places t table index below)
  pub page : (places table).depth ≡ 3 → (word_of t table index ≡ 0) ⊎ ((entry : Translation) × Translates places t table index entry)

-- A frame of a process is one of its tables. The upper half of a root is the kernel's.
pub record IsTable (places : Places) (t : Tables) (frame : ℕ) : Type 0 where
  pub deep : (places frame).depth ≤ 3
  pub words : (index : ℕ) → index < 512 → IsWord places t frame index
  pub kernel : (places frame).depth ≡ 0 → (k : ℕ) → k < 2048 → slice_index t.bytes.items (4096 * frame + 2048 + k) ≡ slice_index t.kernel.items k

-- a frame is the root of a process
pub record IsRoot (places : Places) (t : Tables) (p frame : ℕ) : Type 0 where
  pub inside : frame < frames_of t
  pub owner : (places frame).owner ≡ p
  pub rank : (places frame).rank ≡ 0
  pub depth : (places frame).depth ≡ 0
  pub prefix : (places frame).prefix ≡ 0

-- the places of the pool and of the block of translated frames
pub record AreBlocks (t : Tables) : Type 0 where
  pub bytes : length t.bytes.items ≡ 4096 * frames_of t
  pub kernel : length t.kernel.items ≡ 2048
  pub words : AreKernelWords t.kernel.items
  pub roots : length t.roots ≡ 64
  pub pool : t.pool % 4096 ≡ 0
  pub pool_end : t.pool + 4096 * frames_of t ≤ 2 ^ 52
  pub block : t.block % 4096 ≡ 0
  pub block_end : t.block + 2 ^ 32 ≤ 2 ^ 52

-- each frame is free, or a process's table
pub record AreTables (places : Places) (t : Tables) : Type 0 where
  pub held : AreHeld places t.holdings
  pub blocks : AreBlocks t
  pub roots : (p frame : ℕ) → p < 64 → way t p 0 0 ≡ Some frame → IsRoot places t p frame
  pub rooted : (p : ℕ) → p < 64 → way t p 0 0 ≡ None → count_of t.holdings p ≡ 0
  pub tables : (frame : ℕ) → frame < frames_of t → (places frame).owner < 64 → IsTable places t frame

-- there are such places
abbrev pub IsShadow : Tables → Type 0
IsShadow t = (places : Places) × AreTables places t

-- ---- Changes

-- where things lie is as before
pub record SameBlocks (old new : Tables) : Type 0 where
  pub pool : new.pool ≡ old.pool
  pub block : new.block ≡ old.block
  pub kernel : new.kernel ≡ old.kernel
  pub length : length new.bytes.items ≡ length old.bytes.items
  pub frames : frames_of new ≡ frames_of old

-- and whose each frame is
pub record SameButBytes (old new : Tables) : Type 0 where
  pub blocks : SameBlocks old new
  pub holdings : new.holdings ≡ old.holdings
  pub roots : new.roots ≡ old.roots

-- a process took a frame, which is zero
pub record IsFresh (old : Tables) (p frame : ℕ) (new : Tables) : Type 0 where
  pub taken : IsTakenBy old.holdings p frame new.holdings
  pub bytes : new.bytes.items ≡ splice old.bytes.items (4096 * frame) (4096 * frame + 4096) (replicate 4096 0)
  pub roots : new.roots ≡ old.roots
  pub blocks : SameBlocks old new

-- no translation changes, nor any root that there was
pub record SameTranslations (old new : Tables) : Type 0 where
  pub at : (p page : ℕ) → p < 64 → IsUserPage page → translation_at new p page ≡ translation_at old p page
  pub roots : (p frame : ℕ) → way old p 0 0 ≡ Some frame → way new p 0 0 ≡ Some frame
  pub ways : WaysStay old new
  pub blocks : SameBlocks old new

-- nothing of other processes changes
pub record SameOthers (old new : Tables) (p : ℕ) : Type 0 where
  pub roots : (q : ℕ) → q ≢ p → way new q 0 0 ≡ way old q 0 0
  pub counts : (q : ℕ) → q ≢ p → q ≢ 64 → count_of new.holdings q ≡ count_of old.holdings q

-- The table for a page is found or made. Each frame that is taken is one less that is missing. If none is found, there were
-- too few.
pub record IsStep (old : Tables) (p page depth : ℕ) (found : Option ℕ) (new : Tables) : Type 0 where
  pub process : p < 64
  pub stands : IsShadow new
  pub same : SameTranslations old new
  pub others : SameOthers old new p
  pub way_is : IfSome found (λ frame. way new p page depth ≡ Some frame)
  pub spent : count_of old.holdings 64 + missing_in new p page ≡ count_of new.holdings 64 + missing_in old p page
  pub none : IfNone found (count_of old.holdings 64 < missing_in old p page)

-- the translation of a page is another, or none; no other changes
pub record IsChanged (old : Tables) (p page : ℕ) (entry : Option Translation) (new : Tables) : Type 0 where
  pub stands : IsShadow new
  pub is : translation_at new p page ≡ entry
  pub others : (q at : ℕ) → q < 64 → IsUserPage at → (q ≡ p → at ≢ page) → translation_at new q at ≡ translation_at old q at
  pub ways : (q at depth : ℕ) → IsUserPage at → depth ≤ 3 → way new q at depth ≡ way old q at depth
  pub same : SameButBytes old new
