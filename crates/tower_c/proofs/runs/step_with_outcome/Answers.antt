use Rattle.std.proofs.Common.{◌∙◌, ap}
use Rattle.std.specs.Prelude.{nat_lt}
use Rattle.tower_c.specs.Border.{event_in}
use Rattle.tower_c.specs.declared.numbers.TowerReply.{TowerReply}
use Rattle.tower_c.proofs.RunLemmas.{kind_told}
use Rattle.tower_c.proofs.runs.step_with_outcome.Goals as goal

pub returns-clause-done : goal.returns-clause-done
returns-clause-done c = ap (λ (r : TowerReply). nat_lt r.kind 5) c.step-told.ensures.reply ∙ kind_told c.args.core.now.state (event_in c.args.event.now)
