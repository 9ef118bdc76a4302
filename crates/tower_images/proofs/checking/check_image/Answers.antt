use Rattle.image_restore.proofs.FailLemmas.{wide_unsound}
use Rattle.tower_images.proofs.checking.check_image.Goals as goal

pub returns-in-Some-clause-passes : goal.returns-in-Some-clause-passes
returns-in-Some-clause-passes c sound = absurd (wide_unsound c.args.image.now c.in-Some.failed c.within.ensures c.in-Some.ensures.failed sound)

pub returns-in-Some-clause-process : goal.returns-in-Some-clause-process
returns-in-Some-clause-process c is = c.tell_failed.ensures.process is c.args.image.now c.in-Some.ensures.failed
