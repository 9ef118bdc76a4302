-- What differs between two images. Before the first, nothing is there: each frame is free, and no process is live.
use Rattle.std.specs.Prelude.{ℕ, Bool, true, false, ◌&&◌, ◌==◌, if◌then◌else◌, List, [], ◌++◌, Option, Some, None}
use Rattle.std.specs.Option.{unwrap_or}
use Rattle.std.specs.List.{flat_map, range_with_len}
use Rattle.alloc_table.specs.declared.Role.{Role}
use Rattle.alloc_table.specs.declared.Role.TheVariants.{Reserved, Free, Directory, Table, Page}
use Rattle.address_space.specs.Image.{word_of}
use Rattle.memory_image.specs.declared.processes.Process.{Process}
use Rattle.memory_image.specs.Image.{Image, frames, process_at, role_at, memory_of}
use Rattle.script_film.specs.Rows.{role_row, word_row, process_row}

-- ---- What an image shows

-- the role of frame f, Free in no image
abbrev pub role_in : Option Image → ℕ → Role
role_in None f = Free
role_in (Some image) f = unwrap_or (role_at image f) Free

-- whether a role is Free
abbrev pub is_free : Role → Bool
is_free Free = true
is_free Reserved = false
is_free (Directory p) = false
is_free (Table p s) = false
is_free (Page count) = false

-- a word of a frame; those of a free frame are nobody's, and count as 0
abbrev pub word_in : Option Image → ℕ → ℕ → ℕ
word_in None f index = 0
word_in (Some image) f index = if is_free (role_in (Some image) f) then 0 else word_of (memory_of image) f index

-- the record of process p, none in no image
abbrev pub process_in : Option Image → ℕ → Option Process
process_in None p = None
process_in (Some image) p = process_at image p

-- ---- Whether it is the same

-- whether two roles are equal
abbrev pub same_role : Role → Role → Bool
same_role Reserved Reserved = true
same_role Free Free = true
same_role (Directory p) (Directory q) = p == q
same_role (Table p s) (Table q t) = p == q && s == t
same_role (Page m) (Page n) = m == n
same_role _ _ = false

-- whether two records are equal
abbrev pub same_record : Process → Process → Bool
same_record r t = r.parent == t.parent && r.quota == t.quota && r.used == t.used && r.given == t.given && r.directory == t.directory

-- whether two processes are both absent, or have equal records
abbrev pub same_process : Option Process → Option Process → Bool
same_process None None = true
same_process None (Some t) = false
same_process (Some r) None = false
same_process (Some r) (Some t) = same_record r t

-- ---- What changed, with a row for each change

-- the row of frame f, if its role changed
abbrev pub role_change : Option Image → Image → ℕ → List ℕ
role_change before after f = if same_role (role_in before f) (role_in (Some after) f) then [] else role_row f (role_in before f) (role_in (Some after) f)

-- the rows of all changed roles
unfoldable pub role_changes : Option Image → Image → List ℕ
role_changes before after = flat_map (role_change before after) (range_with_len 0 (frames after))

-- the row of a word of frame f, if it changed
abbrev pub word_change : Option Image → Image → ℕ → ℕ → List ℕ
word_change before after f index = if word_in before f index == word_in (Some after) f index then [] else word_row f index (word_in before f index) (word_in (Some after) f index)

-- of the 1,024 words of a frame
abbrev pub frame_changes : Option Image → Image → ℕ → List ℕ
frame_changes before after f = flat_map (word_change before after f) (range_with_len 0 1024)

-- the rows of all changed words
unfoldable pub word_changes : Option Image → Image → List ℕ
word_changes before after = flat_map (frame_changes before after) (range_with_len 0 (frames after))

-- the row of process p, if its record changed
abbrev pub process_change : Option Image → Image → ℕ → List ℕ
process_change before after p = if same_process (process_in before p) (process_in (Some after) p) then [] else process_row p (process_in before p) (process_in (Some after) p)

-- the rows of all changed processes
unfoldable pub process_changes : Option Image → Image → List ℕ
process_changes before after = flat_map (process_change before after) (range_with_len 0 64)

-- frames in ascending order, then their words, then processes
unfoldable pub changes : Option Image → Image → List ℕ
changes before after = role_changes before after ++ (word_changes before after ++ process_changes before after)
