-- An image: what a machine shows of itself at one moment, apart from offers and the log.
use Rattle.std.specs.Prelude.{◌≡◌, ℕ, ◌*◌, ◌<◌, ◌≤◌, ◌^◌, ◌⊎◌, List, length, Option, Some, None, slice_get, slice_index}
use Rattle.std.specs.Option.{option_map, unwrap_or}
use Rattle.alloc_table.specs.declared.Role.{Role}
use Rattle.alloc_table.specs.declared.Role.TheVariants.{Reserved, Free, Directory, Table, Page}
use Rattle.address_space.specs.Image as memory
use Rattle.memory_image.specs.declared.processes.Process.{Process}

-- an image: version, processes, roles and bytes
pub record Image : Type 0 where
  -- which words its tables hold: 1, or 2 where pages can be lazy
  pub version : ℕ
  -- one for each of the 64 numbers, where it is live
  pub processes : List (Option Process)
  -- one for each frame
  pub roles : List Role
  -- 4,096 bytes for each frame
  pub bytes : List ℕ

-- the number of frames
abbrev pub frames : Image → ℕ
frames image = length image.roles

-- the record of process p, if it is live
abbrev pub process_at : Image → ℕ → Option Process
process_at image p = unwrap_or (slice_get image.processes p) None

-- the role of frame f
abbrev pub role_at : Image → ℕ → Option Role
role_at image f = slice_get image.roles f

-- the directory in a process's record
abbrev pub directory_from : Option Process → Option ℕ
directory_from process = option_map (λ r. r.directory) process

-- directories, bytes and roles: what the processor's walk and the frame table see
abbrev pub memory_of : Image → memory.Image
memory_of image = record { version = image.version; directories = λ p. directory_from (process_at image p); bytes = image.bytes; roles = image.roles }

-- ---- The rules of the fields

-- a number of 32 bits
abbrev pub IsWord : ℕ → Type 0
IsWord k = k < 2 ^ 32

-- the record of process p in an image of n frames
pub record IsProcess (n p : ℕ) (r : Process) : Type 0 where
  pub parent : r.parent < 64
  -- process 0 is its own parent
  pub root : p ≡ 0 → r.parent ≡ 0
  pub quota : IsWord r.quota
  pub used : IsWord r.used
  pub given : IsWord r.given
  pub directory : r.directory < n

-- a role's numbers are within their limits
abbrev pub IsRole : Role → Type 0
IsRole Reserved = Unit {0}
IsRole Free = Unit {0}
IsRole (Directory p) = p < 64
IsRole (Table p s) = (p < 64) × (s < 1024)
IsRole (Page count) = IsWord count

-- an image of at most so many frames, whose numbers are within their limits
pub record HasFields (limit : ℕ) (image : Image) : Type 0 where
  pub version : (image.version ≡ 1) ⊎ (image.version ≡ 2)
  pub most : frames image ≤ limit
  pub fewest : 16 ≤ frames image
  pub pids : length image.processes ≡ 64
  pub processes : (p : ℕ) (r : Process) → process_at image p ≡ Some r → IsProcess (frames image) p r
  pub roles : (f : ℕ) (r : Role) → role_at image f ≡ Some r → IsRole r
  pub size : length image.bytes ≡ 4096 * frames image
  pub small : (i : ℕ) → slice_index image.bytes i < 256

-- an image that bytes can encode
abbrev pub IsImage : Image → Type 0
IsImage image = HasFields 4096 image

-- an image of as many frames as a wide core
abbrev pub IsWideImage : Image → Type 0
IsWideImage image = HasFields 1048576 image
