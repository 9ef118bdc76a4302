-- The parts of a text, as they are written.
use Rattle.std.proofs.Common.{◌≡◌, ℕ, ◌++◌, refl, sym, ap, ◌∙◌, Some}
use Rattle.memory_image.specs.declared.processes.Process.{Process}
use Rattle.memory_image.specs.Image.{Image}
use Rattle.image_check.specs.Told.{Told, verdict_on}
use Rattle.image_check.specs.Text.{verdict_text}
use Rattle.image_map.specs.declared.formats.Format.{Format}
use Rattle.image_map.specs.Text.{process_line, bar_line, pages_text, process_text, image_line, processes_text, frames_text, limit, map_text}

process-whole : (image : Image) (most p : ℕ) (r : Process) → process_text image most p (Some r) ≡ process_line p r ++ (bar_line r ++ pages_text image most p)
unfolding process_text
process-whole image most p r = refl

-- a process, by its number
pub process_parts : (image : Image) (most p n : ℕ) (r : Process) → n ≡ p → process_text image most p (Some r) ≡ process_line n r ++ (bar_line r ++ pages_text image most p)
process_parts image most p n r is = process-whole image most p r ∙ ap (λ k. process_line k r ++ (bar_line r ++ pages_text image most p)) (sym is)

map-whole : (format : Format) (image : Image) → map_text format image ≡ image_line format image ++ (processes_text image (limit image) ++ (frames_text image ++ verdict_text (verdict_on image)))
unfolding map_text
map-whole format image = refl

-- with the limit and the verdict that were given
pub map_parts : (format : Format) (image : Image) (most : ℕ) (told : Told) → most ≡ limit image → told ≡ verdict_on image → map_text format image ≡ image_line format image ++ (processes_text image most ++ (frames_text image ++ verdict_text told))
map_parts format image most told limited is = map-whole format image ∙ sym (λ i. image_line format image ++ (processes_text image (limited i) ++ (frames_text image ++ verdict_text (is i))))
