-- The text of a verdict, by whether a clause fails.
use Rattle.std.proofs.Common.{◌≡◌, true, false, [], ◌∷◌, ◌++◌}
use Rattle.std.specs.Prelude.{if◌then◌else◌, codes}
use Rattle.image_check.specs.Told.{Told, fails_nothing}
use Rattle.image_check.specs.Text.{verdict_text, process_lines, frame_lines}

pub sound_text : (told : Told) → fails_nothing told ≡ true → verdict_text told ≡ codes "sound" ++ 10 ∷ []
unfolding verdict_text
sound_text told e = λ i. if e i then codes "sound" ++ 10 ∷ [] else process_lines told ++ frame_lines told

pub failing_text : (told : Told) → fails_nothing told ≡ false → verdict_text told ≡ process_lines told ++ frame_lines told
unfolding verdict_text
failing_text told e = λ i. if e i then codes "sound" ++ 10 ∷ [] else process_lines told ++ frame_lines told
