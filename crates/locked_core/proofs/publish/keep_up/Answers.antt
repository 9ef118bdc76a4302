use Rattle.std.proofs.Common.{sym, subst}
use Rattle.locked_core.proofs.CatchingUp.{lags_by_none}
use Rattle.locked_core.specs.Pages.{Page, LagsBehind, page}
use Rattle.locked_core.proofs.publish.keep_up.Goals as goal

pub returns-clause-shown : goal.returns-clause-shown
returns-clause-shown g c = lags_by_none (page c.args.writer.now.desk.spare.value.frames c.args.seen.now.book c.args.log.now.entries) c.publish.new.writer.desk.shown.value c.publish.ensures.shown

pub returns-clause-spare : goal.returns-clause-spare
returns-clause-spare g c = subst (λ (p : Page). LagsBehind p (page c.args.writer.now.desk.spare.value.frames c.args.seen.now.book c.args.log.now.entries)) (sym c.publish.ensures.spare) c.requires.shown
