-- The walk of a four-level page map for a user-mode access, on any bytes, as a processor makes it that writes nothing. In
-- its CR4, LA57, PKE and CET are clear. The addresses in words are below its MAXPHYADDR. A fetch is a read, as no word has
-- bit 63.
use Rattle.std.specs.Prelude.{ℕ, ◌+◌, ◌-◌, ◌*◌, ◌/◌, ◌%◌, ◌^◌, Bool, true, false, not, ◌&&◌, nat_le, List, [], ◌∷◌, length, Result, Ok, Err}
use Rattle.page_words.specs.Words.{is_present, is_writable, is_user, is_accessed, is_dirty}
use Rattle.table_walk.specs.declared.Access.{Access}
use Rattle.table_walk.specs.Walk.{is_write, first_that_applies}
use Rattle.shadow_tables.specs.LongWords.{long_at, target_of, is_foreign}
use Rattle.shadow_tables.specs.declared.walk.LongEnd.{LongEnd}
use Rattle.shadow_tables.specs.declared.walk.LongEnd.TheVariants.{Missing, Denied, Unmarked, Foreign}

-- whether these bytes, which lie at the physical address `pool`, hold a table of 4,096 bytes at another
abbrev pub holds_table : List ℕ → ℕ → ℕ → Bool
holds_table bytes pool table = nat_le pool table && nat_le (table + 4096) (pool + length bytes)

-- the word for an address in a table: the index is in the nine bits of the address from `shift` on
abbrev pub way_word : List ℕ → ℕ → ℕ → ℕ → ℕ → ℕ
way_word bytes pool table address shift = long_at bytes (table - pool + 8 * (address / 2 ^ shift % 512))

-- whether a word lets the access through
abbrev pub allows : ℕ → Access → Bool
allows word access = is_user word && not (is_write access && not (is_writable word))

-- whether the access changes nothing in a word: it is accessed, and for a write in the last table dirty
abbrev pub is_marked : ℕ → Access → Bool → Bool
is_marked word access is_last = is_accessed word && not (is_last && (is_write access && not (is_dirty word)))

-- one step: by the first of these lines that applies, otherwise on to what the word names
abbrev pub step_of : List ℕ → ℕ → ℕ → ℕ → Access → ℕ → Bool → Result ℕ LongEnd
step_of bytes pool table address access shift is_last =
    let word = way_word bytes pool table address shift in
    first_that_applies (
    (not (holds_table bytes pool table), Err Foreign)
    ∷ (not (is_present word), Err Missing)
    ∷ (is_foreign word, Err Foreign)
    ∷ (not (allows word access), Err Denied)
    ∷ (not (is_marked word access is_last), Err Unmarked)
    ∷ []) (Ok (target_of word))

-- a walk that continues after a step, or ends there
abbrev pub and_on : (ℕ → Result ℕ LongEnd) → Result ℕ LongEnd → Result ℕ LongEnd
and_on more (Ok target) = more target
and_on more (Err end) = Err end

-- from the last table on: the physical address that the access reaches
abbrev pub from_table : List ℕ → ℕ → ℕ → Access → ℕ → Result ℕ LongEnd
from_table bytes pool address access table = and_on (λ page. Ok (page + address % 4096)) (step_of bytes pool table address access 12 true)

-- from the page directory on
abbrev pub from_directory : List ℕ → ℕ → ℕ → Access → ℕ → Result ℕ LongEnd
from_directory bytes pool address access table = and_on (from_table bytes pool address access) (step_of bytes pool table address access 21 false)

-- from the table of directories on
abbrev pub from_pointers : List ℕ → ℕ → ℕ → Access → ℕ → Result ℕ LongEnd
from_pointers bytes pool address access table = and_on (from_directory bytes pool address access) (step_of bytes pool table address access 30 false)

-- how the walk of an address ends, from the physical address of the root on
unfoldable pub long_walk : List ℕ → ℕ → ℕ → ℕ → Access → Result ℕ LongEnd
long_walk bytes pool root address access = and_on (from_pointers bytes pool address access) (step_of bytes pool root address access 39 false)
