-- The parts of a 32-bit linear address, the pages that a process may use, and sizes of accesses.
use Rattle.std.specs.Prelude.{ℕ, ◌+◌, ◌*◌, ◌/◌, ◌%◌, ◌<◌, ◌≤◌, Bool, ◌&&◌, nat_le, if◌then◌else◌, List, [], ◌∷◌, Option, Some, None, IfSome}
use Rattle.std.specs.List.{range_with_len}
use Rattle.page_words.specs.declared.addresses.Size.{Size}
use Rattle.page_words.specs.declared.addresses.Size.TheVariants.{One, Two, Four}

-- the number of the page that the address lies in
abbrev pub page_number : ℕ → ℕ
page_number address = address / 4096

-- the slot of the directory that leads to the page, which is the number of its region
abbrev pub slot_number : ℕ → ℕ
slot_number page = page / 1024

-- the place of the page's word in its table
abbrev pub index_number : ℕ → ℕ
index_number page = page % 1024

-- the place of the address in its page
abbrev pub offset_number : ℕ → ℕ
offset_number address = address % 4096

-- the page is one of the user range, whose directory slots are 256 to 959
abbrev pub IsUserPage : ℕ → Type 0
IsUserPage page = (0x40000 ≤ page) × (page < 0xf0000)

-- whether the page is one of the user range, as a truth value
abbrev pub is_user_page : ℕ → Bool
is_user_page page = nat_le 0x40000 page && nat_le page 0xeffff

-- how many bytes an access covers
abbrev pub byte_count : Size → ℕ
byte_count One = 1
byte_count Two = 2
byte_count Four = 4

-- the addresses of those bytes, the lowest first
abbrev pub covered : ℕ → Size → List ℕ
covered address size = range_with_len address (byte_count size)

-- the first address of a page
abbrev pub start_number : ℕ → ℕ
start_number page = 4096 * page

-- the second page that an access touches, where its last bytes lie past the end of the first
abbrev pub second_page : ℕ → Size → Option ℕ
second_page address size = if nat_le (offset_number address + byte_count size) 4096 then None else Some (page_number address + 1)

-- a page, and another where there is one
abbrev pub page_and : ℕ → Option ℕ → List ℕ
page_and page None = page ∷ []
page_and page (Some second) = page ∷ second ∷ []

-- the pages that an access touches: one, or two that lie side by side
abbrev pub touched : ℕ → Size → List ℕ
touched address size = page_and (page_number address) (second_page address size)

-- each page that an access touches has P
abbrev pub EachTouched : ℕ → Size → (ℕ → Type 0) → Type 0
EachTouched address size P = P (page_number address) × IfSome (second_page address size) P
