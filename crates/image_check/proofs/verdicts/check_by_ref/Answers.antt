use Rattle.std.proofs.Common.{subst, sym}
use Rattle.std.specs.Bool.{Decides}
use Rattle.memory_image.specs.Sound.{IsSound}
use Rattle.image_check.specs.Told.{Told, fails_nothing}
use Rattle.image_check.proofs.ToldLemmas.{sound_is_told}
use Rattle.image_check.proofs.verdicts.check_by_ref.Goals as goal

pub returns-in-Some-clause-sound : goal.returns-in-Some-clause-sound
returns-in-Some-clause-sound c = subst (λ (told : Told). Decides (fails_nothing told) (IsSound c.args.image.now)) (sym c.in-Some.ensures) (sound_is_told c.args.image.now c.within.ensures)
