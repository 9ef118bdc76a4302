use Rattle.std.proofs.Common.{subst}
use Rattle.memory_image.specs.Image.{Image}
use Rattle.image_restore.specs.Failing.{FailsFirst}
use Rattle.image_restore.proofs.FailLemmas.{wide_unsound}
use Rattle.image_restore.proofs.wide.check_wide.Goals as goal

pub returns-in-Some-clause-passes : goal.returns-in-Some-clause-passes
returns-in-Some-clause-passes c sound =
    let fails = subst (λ (image : Image). FailsFirst image c.in-Some.failed) c.image-shown.ensures c.in-Some.ensures.failed in
    absurd (wide_unsound c.args.image.now.image c.in-Some.failed c.within.ensures.fields.image fails sound)
