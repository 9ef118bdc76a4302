-- Address spaces from directories, bytes and roles.
use Rattle.std.specs.Prelude.{ℕ, ◌+◌, ◌≤◌, List, length, Option, Some, None, slice_get}
use Rattle.address_space.specs.Below.{is_present, frame_bytes, word_in, count_range, Role, Reserved, Free, Directory, Table, Page}
use Rattle.address_space.specs.View.{View, spaces_in, total_cost}

-- how many words of a frame are present, where it is a table
abbrev pub words_by : List ℕ → ℕ → Role → ℕ
words_by bytes f Reserved = 0
words_by bytes f Free = 0
words_by bytes f (Directory p) = 0
words_by bytes f (Table p s) = count_range (λ i. is_present (word_in (frame_bytes bytes f) i)) 0 1024
words_by bytes f (Page count) = 0

-- the number of present words of a frame with this role
abbrev pub words_where : List ℕ → ℕ → Option Role → ℕ
words_where bytes f None = 0
words_where bytes f (Some role) = words_by bytes f role

-- how many words of a frame of these roles are
abbrev pub counted_at : List ℕ → List Role → ℕ → ℕ
counted_at bytes roles f = words_where bytes f (slice_get roles f)

-- the address spaces of these directories, bytes and roles
abbrev pub view_from : List (Option ℕ) → List ℕ → List Role → View
view_from directories bytes roles = record { spaces = spaces_in directories bytes; directories = directories; bytes = bytes; roles = roles }

-- the processes cost no more than all frames but frame 0
abbrev pub HasRoom : List (Option ℕ) → List ℕ → List Role → Type 0
HasRoom directories bytes roles = 1 + total_cost directories (spaces_in directories bytes) ≤ length roles
