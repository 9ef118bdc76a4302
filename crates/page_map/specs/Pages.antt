-- One directory as a finite map from the pages of the user range to their entries.
use Rattle.std.specs.Prelude.{ℕ, zero, suc, ◌+◌, Bool, true, false, List}
use Rattle.std.specs.List.{range_with_len}
use Rattle.page_words.specs.FiniteMap as map
use Rattle.page_words.specs.FiniteMap.{Map, nat_order}
use Rattle.page_map.specs.declared.PageEntry.{PageEntry}
use Rattle.page_map.specs.Entries.{Frames, entry_at}

-- the pages that a process may map: 0x40000 to 0xeffff
unfoldable pub user_pages : List ℕ
user_pages = range_with_len 0x40000 0xb0000

-- the entries of a directory, by page
unfoldable pub entries_of : Frames → ℕ → Map nat_order PageEntry
entries_of m directory = map.collect (entry_at m directory) user_pages

-- whether the directory maps the page
abbrev pub is_mapped : Frames → ℕ → ℕ → Bool
is_mapped m directory page = map.contains_key (entries_of m directory) page

-- 1 for true, 0 for false
abbrev pub counted : Bool → ℕ
counted true = 1
counted false = 0

-- how many of that many numbers from a first one on pass
unfoldable pub count_range : (ℕ → Bool) → ℕ → ℕ → ℕ
count_range p first zero = 0
count_range p first (suc count) = counted (p first) + count_range p (first + 1) count
