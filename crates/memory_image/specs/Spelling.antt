-- An image as bytes: each part in its place, one after the other.
use Rattle.std.specs.Prelude.{◌≡◌, ℕ, ◌+◌, ◌*◌, List, [], ◌∷◌, ◌++◌, length, Option, Some, None}
use Rattle.std.specs.Int.{w32, to_le_bytes}
use Rattle.std.specs.List.{flat_map}
use Rattle.alloc_table.specs.declared.Role.{Role}
use Rattle.alloc_table.specs.declared.Role.TheVariants.{Reserved, Free, Directory, Table, Page}
use Rattle.memory_image.specs.declared.processes.Process.{Process}
use Rattle.memory_image.specs.Image.{Image, IsImage, frames}

-- the four bytes that an image begins with
abbrev pub magic : List ℕ
magic = 0x6d ∷ 0x43 ∷ 0x32 ∷ 0x49 ∷ []

-- four bytes, the lowest first
abbrev pub number : ℕ → List ℕ
number n = to_le_bytes w32 n

-- live, parent, quota, used, given, directory
abbrev pub process_bytes : Option Process → List ℕ
process_bytes None = number 0 ++ number 0 ++ number 0 ++ number 0 ++ number 0 ++ number 0
process_bytes (Some r) = number 1 ++ number r.parent ++ number r.quota ++ number r.used ++ number r.given ++ number r.directory

-- role, pid, slot, count
abbrev pub role_bytes : Role → List ℕ
role_bytes Reserved = number 0 ++ number 0 ++ number 0 ++ number 0
role_bytes Free = number 1 ++ number 0 ++ number 0 ++ number 0
role_bytes (Directory p) = number 2 ++ number p ++ number 0 ++ number 0
role_bytes (Table p s) = number 3 ++ number p ++ number s ++ number 0
role_bytes (Page count) = number 4 ++ number 0 ++ number 0 ++ number count

-- place 0, 4, 8, 12, 1548, and 1548 + 16 n
unfoldable pub spelling : Image → List ℕ
spelling image = magic ++ (number image.version ++ (number (frames image) ++ (flat_map process_bytes image.processes ++ (flat_map role_bytes image.roles ++ image.bytes))))

-- bytes encode an image
pub record Spells (bytes : List ℕ) (image : Image) : Type 0 where
  pub fits : IsImage image
  pub is : bytes ≡ spelling image

-- how long encoded images are
abbrev pub SpellingsAreLong : Type 0
SpellingsAreLong = (image : Image) → IsImage image → length (spelling image) ≡ 1548 + 4112 * frames image

-- each image has one encoding, and no bytes encode two images
pub record SpellingIsExact : Type 0 where
  pub has : (image : Image) → IsImage image → (bytes : List ℕ) × Spells bytes image
  pub one : (bytes more : List ℕ) (image : Image) → Spells bytes image → Spells more image → bytes ≡ more
  pub alone : (bytes : List ℕ) (image other : Image) → Spells bytes image → Spells bytes other → image ≡ other
