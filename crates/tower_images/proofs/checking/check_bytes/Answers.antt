use Rattle.std.proofs.Common.{subst, sym}
use Rattle.memory_image.specs.Sound.{IsSound}
use Rattle.tower_images.proofs.TellLemmas.{is_alone}
use Rattle.tower_images.proofs.checking.check_bytes.Goals as goal

pub returns-in-Ok-clause-passes : goal.returns-in-Ok-clause-passes
returns-in-Ok-clause-passes c one = c.check_image.ensures.passes (subst IsSound (sym c.by_ref.ensures) (is_alone IsSound c.args.bytes.now c.in-Ok.image c.in-Ok.ensures.spelled one))
