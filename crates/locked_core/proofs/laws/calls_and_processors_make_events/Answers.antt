use Rattle.locked_core.proofs.Beside.{calls_and_processors}
use Rattle.locked_core.proofs.laws.calls_and_processors_make_events.Goals as goal

pub returns : goal.returns
returns c = record { events = calls_and_processors }
