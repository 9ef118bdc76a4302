-- How many frames of the pool a fill of a page takes: one for each table on the way to the page that is missing.
use Rattle.std.specs.Prelude.{◌≡◌, ℕ, zero, suc, ◌+◌, ◌-◌, ◌*◌, ◌/◌, ◌%◌, ◌^◌, ◌≤◌, ◌&&◌, nat_le, nat_lt, if◌then◌else◌, length, Option, Some, None}
use Rattle.std.specs.Option.{option_and_then}
use Rattle.page_words.specs.Addresses.{IsUserPage}
use Rattle.page_words.specs.Words.{is_present}
use Rattle.shadow_tables.specs.LongWords.{long_at, long_place}
use Rattle.shadow_tables.specs.Shadow.{Shadow, root_frame}
use Rattle.shadow_tables.specs.declared.tables.Way.{Way}

-- the index of a page's word in the table that this many tables lead to
abbrev pub index_at : ℕ → ℕ → ℕ
index_at depth page = page / 2 ^ (27 - 9 * depth) % 512

-- the frame that a word of a table names, of so many from the physical address `pool` on, where it names one
abbrev pub named_within : ℕ → ℕ → ℕ → Option ℕ
named_within pool frames word = if is_present word && (nat_le (pool / 4096) (word / 4096) && nat_lt (word / 4096) (pool / 4096 + frames)) then Some (word / 4096 - pool / 4096) else None

-- the frame of the pool that a word of a table names, where it names one
abbrev pub table_named : Shadow → ℕ → Option ℕ
table_named s word = named_within s.pool (length s.bytes / 4096) word

-- the table for a page that this many tables lead to, from the process's root on
abbrev pub table_at : Shadow → ℕ → ℕ → ℕ → Option ℕ
table_at s p page zero = root_frame s p
table_at s p page (suc depth) = option_and_then (λ frame. table_named s (long_at s.bytes (long_place frame (index_at depth page)))) (table_at s p page depth)

-- The tables for user pages of a process are where they were. A processor may have cached the words that lead to them.
abbrev pub TablesStay : Shadow → ℕ → Shadow → Type 0
TablesStay old p new = (page depth frame : ℕ) → IsUserPage page → depth ≤ 3 → table_at old p page depth ≡ Some frame → table_at new p page depth ≡ Some frame

-- 1 for a table that is missing
abbrev pub if_missing : Option ℕ → ℕ
if_missing None = 1
if_missing (Some frame) = 0

-- How many are missing of the five tables that pages of a process share in any case: its root, the table below it, and one
-- for each of the three GiB of the user range. A page needs one table more than these.
abbrev pub shared_missing : Shadow → ℕ → ℕ
shared_missing s p = if_missing (table_at s p 0x40000 0) + if_missing (table_at s p 0x40000 1) + if_missing (table_at s p 0x40000 2) + if_missing (table_at s p 0x80000 2) + if_missing (table_at s p 0xc0000 2)

-- how many frames a fill of a page takes: one for each that is missing of its root and the three tables below
abbrev pub frames_needed : Shadow → ℕ → ℕ → ℕ
frames_needed s p page = if_missing (table_at s p page 0) + if_missing (table_at s p page 1) + if_missing (table_at s p page 2) + if_missing (table_at s p page 3)

-- The tables for a page go so far. While its tables stay, so does this.
pub record IsWay (s : Shadow) (p page : ℕ) (way : Way) : Type 0 where
  pub missing : way.missing ≡ frames_needed s p page
  pub most : way.missing ≤ 4
  pub table : way.missing ≡ 0 → table_at s p page 3 ≡ Some way.table
