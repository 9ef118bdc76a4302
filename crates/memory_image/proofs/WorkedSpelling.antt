-- The front of an encoding, computed: the image of a machine of 16 frames as it boots, without its frames' bytes.
use Rattle.std.proofs.Common.{◌≡◌, [], ◌∷◌, ◌+◌, ◌*◌, replicate, take, length, refl, Some, None}
use Rattle.alloc_table.specs.declared.Role.TheVariants.{Reserved, Free, Directory}
use Rattle.memory_image.specs.Image.{Image}
use Rattle.memory_image.specs.Spelling.{spelling}

booted : Image
booted = record { version = 2; processes = Some (record { parent = 0; quota = 15; used = 1; given = 0; directory = 1 }) ∷ replicate 63 None; roles = Reserved ∷ Directory 0 ∷ replicate 14 Free; bytes = [] }

-- its first twelve bytes, and its first record
first_bytes : take 36 (spelling booted) ≡
    0x6d ∷ 0x43 ∷ 0x32 ∷ 0x49 ∷ 2 ∷ 0 ∷ 0 ∷ 0 ∷ 16 ∷ 0 ∷ 0 ∷ 0
    ∷ 1 ∷ 0 ∷ 0 ∷ 0 ∷ 0 ∷ 0 ∷ 0 ∷ 0 ∷ 15 ∷ 0 ∷ 0 ∷ 0 ∷ 1 ∷ 0 ∷ 0 ∷ 0 ∷ 0 ∷ 0 ∷ 0 ∷ 0 ∷ 1 ∷ 0 ∷ 0 ∷ 0 ∷ []
unfolding spelling booted
first_bytes = refl

-- all records of 64 processes and 16 frames
records_long : length (spelling booted) ≡ 1548 + 16 * 16
unfolding spelling booted
records_long = refl
