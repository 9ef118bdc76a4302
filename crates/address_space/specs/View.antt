-- The model of address spaces: the spaces that directories and memory represent, and their cost.
use Rattle.std.specs.Prelude.{◌≡◌, ℕ, zero, suc, if◌then◌else◌, List, Option, None, is_some, slice_get, sum_by, refl, option_and_then, unwrap_or}
use Rattle.std.specs.Coded.{Coded, code_by, coded×, coded_list, coded_ℕ, coded_option}
use Rattle.std.specs.List.{range_with_len}
use Rattle.address_space.specs.Below.{frame_bytes, Role, Reserved, Free, Directory, Table, Page, PageEntry, Frames, table_of, entry_at, collect}
use Rattle.address_space.specs.Codes.{spaces_code}
use Rattle.address_space.specs.Spaces.{Slot, Spaces, cost}
use Rattle.address_space.specs.Slots.{user_slots}
use Rattle.address_space.specs.Cells.{Entries, spaces_of}

-- each process's directory, if it has one
abbrev pub Directories : Type 0
Directories = ℕ → Option ℕ

-- each frame's role
abbrev pub Roles : Type 0
Roles = ℕ → Option Role

-- a list of directories, by process
abbrev pub directory_of : List (Option ℕ) → Directories
directory_of directories p = unwrap_or (slice_get directories p) None

-- the table of a process and a directory slot
abbrev pub table_in : Directories → Frames → ℕ → ℕ → Option ℕ
table_in D m p s = option_and_then (λ d. table_of m d s) (D p)

-- the entry of a process and a page
abbrev pub entry_in : Directories → Frames → Slot → Option PageEntry
entry_in D m slot = option_and_then (λ d. entry_at m d slot.page) (D slot.pid)

-- the entries of the user range
unfoldable pub entries_in : Directories → Frames → Entries
entries_in D m = collect (entry_in D m) user_slots

-- the spaces that directories and bytes represent
unfoldable pub spaces_in : List (Option ℕ) → List ℕ → Spaces
spaces_in directories bytes = spaces_of (entries_in (directory_of directories) (frame_bytes bytes)) (frame_bytes bytes)

-- the cost of a process that has a directory
abbrev pub live_cost : Directories → Spaces → ℕ → ℕ
live_cost D spaces p = if is_some (D p) then cost spaces p else 0

-- the cost of all live processes, in frames
unfoldable pub total_cost : List (Option ℕ) → Spaces → ℕ
total_cost directories spaces = sum_by (live_cost (directory_of directories) spaces) (range_with_len 0 64)

-- what address spaces are seen as
pub record View : Type 0 where
  pub spaces : Spaces
  pub directories : List (Option ℕ)
  pub bytes : List ℕ
  pub roles : List Role

-- a role as three numbers
abbrev pub role_numbers : Role → ℕ × (ℕ × ℕ)
role_numbers Reserved = (0, (0, 0))
role_numbers Free = (1, (0, 0))
role_numbers (Directory pid) = (2, (pid, 0))
role_numbers (Table pid slot) = (3, (pid, slot))
role_numbers (Page count) = (4, (count, 0))

-- the role with these numbers
abbrev pub numbers_role : ℕ → ℕ → ℕ → Role
numbers_role zero a b = Reserved
numbers_role (suc zero) a b = Free
numbers_role (suc (suc zero)) a b = Directory a
numbers_role (suc (suc (suc zero))) a b = Table a b
numbers_role (suc (suc (suc (suc k)))) a b = Page a

pub same_role : (r : Role) → numbers_role (role_numbers r).0 (role_numbers r).1.0 (role_numbers r).1.1 ≡ r
same_role Reserved = refl
same_role Free = refl
same_role (Directory pid) = refl
same_role (Table pid slot) = refl
same_role (Page count) = refl

-- the code of roles
abbrev pub role_code : Coded Role
role_code = code_by (ℕ × (ℕ × ℕ)) (coded× coded_ℕ (coded× coded_ℕ coded_ℕ)) role_numbers (λ n. numbers_role n.0 n.1.0 n.1.1) same_role

-- the code of a view
abbrev pub view_code : Coded View
view_code =
    code_by (Spaces × (List (Option ℕ) × (List ℕ × List Role)))
    (coded× spaces_code (coded× (coded_list (coded_option coded_ℕ)) (coded× (coded_list coded_ℕ) (coded_list role_code))))
    (λ v. (v.spaces, (v.directories, (v.bytes, v.roles))))
    (λ p. record { spaces = p.0; directories = p.1.0; bytes = p.1.1.0; roles = p.1.1.1 })
    (λ _. refl)
