-- The walk of a two-level page map for a user-mode access, on any bytes.
use Rattle.std.specs.Prelude.{◌≡◌, ◌↔◌, ℕ, ◌*◌, Bool, true, false, not, ◌&&◌, nat_le, if◌then◌else◌, List, [], ◌∷◌, ◌<◌, length, Result, Ok, Err}
use Rattle.page_words.specs.Addresses.{page_number, slot_number, index_number}
use Rattle.page_words.specs.Words.{frame_number, is_present, is_writable, is_user}
use Rattle.phys_memory.specs.Bytes.{word_at, word_place}
use Rattle.table_walk.specs.declared.Access.{Access}
use Rattle.table_walk.specs.declared.Access.TheVariants.{Read, Write}
use Rattle.table_walk.specs.declared.PageFault.{PageFault}
use Rattle.table_walk.specs.declared.WalkEnd.{WalkEnd}
use Rattle.table_walk.specs.declared.WalkEnd.TheVariants.{Fault, Outside}

-- where the directory word for an address stands
abbrev pub dir_place : ℕ → ℕ → ℕ
dir_place directory address = word_place directory (slot_number (page_number address))

-- the directory word for an address
abbrev pub dir_word : List ℕ → ℕ → ℕ → ℕ
dir_word bytes directory address = word_at bytes (dir_place directory address)

-- where the table word for an address stands
abbrev pub table_place : List ℕ → ℕ → ℕ → ℕ
table_place bytes directory address = word_place (frame_number (dir_word bytes directory address)) (index_number (page_number address))

-- the table word for an address
abbrev pub table_word : List ℕ → ℕ → ℕ → ℕ
table_word bytes directory address = word_at bytes (table_place bytes directory address)

-- the memory has no such frame
abbrev pub is_outside : List ℕ → ℕ → Bool
is_outside bytes frame = nat_le (length bytes) (4096 * frame)

-- whether an access is a write
abbrev pub is_write : Access → Bool
is_write Read = false
is_write Write = true

-- the error code of a user-mode access: bit 2 is 1, bit 1 says that it is a write, and bit 0 that the page is present
abbrev pub error_code : Access → Bool → ℕ
error_code Read false = 4
error_code Read true = 5
error_code Write false = 6
error_code Write true = 7

-- the fault of an access at an address
abbrev pub page_fault : ℕ → Access → Bool → PageFault
page_fault address access present = record { addr = address; code = error_code access present }

-- a word of the way isn't present
abbrev pub not_present : ℕ → Access → Result ℕ WalkEnd
not_present address access = Err (Fault (page_fault address access false))

-- the words of the way are present, and don't give the right
abbrev pub not_allowed : ℕ → Access → Result ℕ WalkEnd
not_allowed address access = Err (Fault (page_fault address access true))

-- the value paired with the first test that is true, otherwise the last
abbrev pub first_that_applies : {X : Type 0} → List (Bool × X) → X → X
first_that_applies [] x = x
first_that_applies (line ∷ lines) x = if line.0 then line.1 else first_that_applies lines x

-- how the walk ends: by the first of these lines that applies, or else at the table word's frame
unfoldable pub walk_of : List ℕ → ℕ → ℕ → Access → Result ℕ WalkEnd
walk_of bytes directory address access =
    let d = dir_word bytes directory address in
    let t = table_word bytes directory address in
    first_that_applies (
    (is_outside bytes directory, Err Outside)
    ∷ (not (is_present d), not_present address access)
    ∷ (is_outside bytes (frame_number d), Err Outside)
    ∷ (not (is_present t), not_present address access)
    ∷ (not (is_user d && is_user t), not_allowed address access)
    ∷ (is_write access && not (is_writable d && is_writable t), not_allowed address access)
    ∷ (is_outside bytes (frame_number t), Err Outside)
    ∷ []) (Ok (frame_number t))

-- all that has to hold for a walk to find a frame
pub record Leads (bytes : List ℕ) (directory address : ℕ) (access : Access) (frame : ℕ) : Type 0 where
  pub directory_inside : 4096 * directory < length bytes
  pub dir_present : is_present (dir_word bytes directory address) ≡ true
  pub table_inside : 4096 * frame_number (dir_word bytes directory address) < length bytes
  pub table_present : is_present (table_word bytes directory address) ≡ true
  pub dir_user : is_user (dir_word bytes directory address) ≡ true
  pub table_user : is_user (table_word bytes directory address) ≡ true
  pub dir_right : access ≡ Write → is_writable (dir_word bytes directory address) ≡ true
  pub table_right : access ≡ Write → is_writable (table_word bytes directory address) ≡ true
  pub named : frame ≡ frame_number (table_word bytes directory address)
  pub inside : 4096 * frame < length bytes

-- a walk finds a frame exactly where the words lead to it
abbrev pub WalksFindWhatLeads : Type 0
WalksFindWhatLeads = (bytes : List ℕ) (directory address : ℕ) (access : Access) (frame : ℕ)
    → (walk_of bytes directory address access ≡ Ok frame) ↔ Leads bytes directory address access frame
