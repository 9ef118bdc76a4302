use Rattle.std.proofs.Common.{subst}
use Rattle.memory_image.specs.Image.{Image}
use Rattle.image_restore.specs.Failing.{FailsFirst}
use Rattle.image_restore.proofs.FailLemmas.{unsound}
use Rattle.image_restore.proofs.restoring.restore.Goals as goal

pub returns-in-Some-clause-passes : goal.returns-in-Some-clause-passes
returns-in-Some-clause-passes c today sound =
    let fails = subst (λ (image : Image). FailsFirst image c.in-Some.failed) c.by_ref.ensures c.in-Some.ensures.failed in
    absurd (unsound c.args.image c.in-Some.failed c.within.ensures fails sound)
