-- The image of a machine.
use Rattle.std.specs.Prelude.{◌≡◌, ℕ, ◌<◌, List, length, Option, Some, None, IfSome, slice_get}
use Rattle.alloc_table.specs.declared.Role.{Role}
use Rattle.alloc_table.specs.declared.Role.TheVariants.{Page}
use Rattle.address_space.specs.View.{directory_of}
use Rattle.quota_tree.specs.declared.Container.{Container}
use Rattle.process_table.specs.State.{container_of}
use Rattle.process_table.specs.View.{View}
use Rattle.process_table.specs.Image as machine
use Rattle.memory_image.specs.declared.processes.Process.{Process}
use Rattle.memory_image.specs.Image.{Image, process_at, IsWord}
use Rattle.memory_image.specs.Sound.{StandsFor}

-- what is known of a process, and its directory
abbrev pub process_from : Option Container → Option ℕ → Option Process
process_from None d = None
process_from (Some c) None = None
process_from (Some c) (Some d) = Some (record { parent = c.parent; quota = c.quota; used = c.used; given = c.given; directory = d })

-- the image shows what the machine does
pub record IsImageOf (v : View) (image : Image) : Type 0 where
  pub version : image.version ≡ 2
  pub roles : image.roles ≡ v.roles
  pub bytes : image.bytes ≡ v.bytes
  pub processes : (p : ℕ) → process_at image p ≡ process_from (container_of v.state p) (directory_of v.directories p)

-- the image of a machine represents the state that the machine's own memory represents
abbrev pub ImagesStand : Type 0
ImagesStand = (v : View) (image : Image) → IsImageOf v image → machine.StandsFor (machine.image_of v) v.state → StandsFor image v.state

-- ---- What the types of the numbers say of them

-- a process's numbers are each within their field
pub record IsWide (r : Process) : Type 0 where
  pub parent : r.parent < 64
  pub quota : IsWord r.quota
  pub used : IsWord r.used
  pub given : IsWord r.given

-- what the machine shows of process p
abbrev pub process_told : View → ℕ → Option Process
process_told v p = process_from (container_of v.state p) (directory_of v.directories p)

-- the numbers of process p, if it is live, are within their fields
abbrev pub IsToldWide : View → ℕ → Type 0
IsToldWide v p = IfSome (process_told v p) IsWide

-- these are what the machine shows of its 64 processes
pub record ShowsProcesses (v : View) (processes : List (Option Process)) : Type 0 where
  pub long : length processes ≡ 64
  pub told : (p : ℕ) → p < 64 → slice_get processes p ≡ Some (process_told v p)
  pub wide : (p : ℕ) → p < 64 → IsToldWide v p

-- a page's count is a number of 32 bits
abbrev pub HasWord : Role → Type 0
HasWord role = (count : ℕ) → role ≡ Page count → IsWord count

-- the roles of the first n frames fit their words
abbrev pub HaveWords : List Role → ℕ → Type 0
HaveWords roles n = (f : ℕ) (role : Role) → f < n → slice_get roles f ≡ Some role → HasWord role
