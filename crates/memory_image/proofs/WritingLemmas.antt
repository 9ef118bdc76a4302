-- The parts of an encoding, as they are written.
use Rattle.std.proofs.Common.{◌≡◌, ℕ, List, ◌++◌, refl, sym, ◌∙◌, Option}
use Rattle.std.specs.List.{flat_map}
use Rattle.alloc_table.specs.declared.Role.{Role}
use Rattle.memory_image.specs.declared.processes.Process.{Process}
use Rattle.memory_image.specs.Image.{Image, frames}
use Rattle.memory_image.specs.Spelling.{magic, number, process_bytes, role_bytes, spelling}

abbrev pub front : Image → List ℕ
front image = magic ++ (number image.version ++ number (frames image))

whole : (image : Image) → spelling image ≡ front image ++ (flat_map process_bytes image.processes ++ (flat_map role_bytes image.roles ++ image.bytes))
unfolding spelling
whole image = refl

pub parts : (image : Image) (processes : List (Option Process)) (roles : List Role) (bytes : List ℕ) → processes ≡ image.processes → roles ≡ image.roles → bytes ≡ image.bytes
    → spelling image ≡ front image ++ (flat_map process_bytes processes ++ (flat_map role_bytes roles ++ bytes))
parts image processes roles bytes e f g = whole image ∙ sym (λ i. front image ++ (flat_map process_bytes (e i) ++ (flat_map role_bytes (f i) ++ g i)))
