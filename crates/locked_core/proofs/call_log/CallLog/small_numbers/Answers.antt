use Rattle.std.proofs.Common.{◌<◌, All, subst}
use Rattle.locked_core.specs.Counts.{Log}
use Rattle.locked_core.proofs.call_log.CallLog.small_numbers.Goals as goal

pub returns : goal.returns
returns c = subst (λ (l : Log). All (λ e. e.cpu < 8) l.entries) c.self.view_is c.self.invariant.small
