use Rattle.locked_core.proofs.Kept.{stays}
use Rattle.locked_core.proofs.publish.publish.Goals as goal
use Rattle.locked_core.specs.Pages.{page}

pub replace_with-requires : goal.replace_with-requires
replace_with-requires g c = (
  c.requires.seen,
  c.requires.behind,
  c.requires.kept,
  c.requires.legal,
  stays _ _ c.args.writer.now.desk.shown.value (page c.args.writer.now.desk.spare.value.frames c.args.seen.now.book c.args.log.now.entries) c.requires.kernel,
)
