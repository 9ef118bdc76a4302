use Rattle.image_restore.specs.Failing.{NamesClause}
use Rattle.image_restore.proofs.FailLemmas.{unsound}
use Rattle.std.proofs.Common.{subst}
use Rattle.memory_image.specs.Sound.{IsSound}
use Rattle.image_restore.specs.Restored.{HasOldWords}
use Rattle.tower_images.proofs.TellLemmas.{is_alone, ok_or_not, one_fault}
use Rattle.tower_images.proofs.restoring.restore_bytes.Goals as goal

pub returns-in-Err-NotSound-clause-passes : goal.returns-in-Err-NotSound-clause-passes
returns-in-Err-NotSound-clause-passes c one =
    absurd (unsound c.in-Ok.image c.in-Err-NotSound.failed c.in-Ok.ensures.spelled.fits
    (subst (NamesClause c.in-Ok.image) c.in-Err-NotSound.field-0-is c.in-Err-NotSound.ensures.failed) (is_alone IsSound c.args.bytes.now c.in-Ok.image c.in-Ok.ensures.spelled one))

pub returns-in-Ok-new-clause-old : goal.returns-in-Ok-new-clause-old
returns-in-Ok-new-clause-old c one =
    let none = c.restore.ensures.old.1 (is_alone HasOldWords c.args.bytes.now c.in-Ok.image c.in-Ok.ensures.spelled one) in
    absurd (ok_or_not _ _ _ c.in-Ok-restore.is none)

pub returns-in-Err-NotSound-clause-old : goal.returns-in-Err-NotSound-clause-old
returns-in-Err-NotSound-clause-old c one =
    let none = c.restore.ensures.old.1 (is_alone HasOldWords c.args.bytes.now c.in-Ok.image c.in-Ok.ensures.spelled one) in
    absurd (one_fault _ _ _ c.in-Err-NotSound.is c.in-Err-NotSound.field-0-is none)
