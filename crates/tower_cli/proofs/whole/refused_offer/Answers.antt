use Rattle.std.proofs.Common.{subst}
use Rattle.image_restore.specs.Resumed.{NamesFault}
use Rattle.image_restore.proofs.FailLemmas.{wide_unsound}
use Rattle.tower_cli.proofs.whole.refused_offer.Goals as goal

pub unreachable-requires : goal.unreachable-requires
unreachable-requires c =
    wide_unsound c.args.image.image c.in-Err-NotSound.field-0-0 c.within.ensures.fields.image
    (subst (NamesFault c.args.image) c.in-Err-NotSound.field-0-is c.in-Err-NotSound.ensures.fault) c.requires
