use Rattle.std.proofs.Common.{ℕ, List, [], Option, subst}
use Rattle.std.specs.Prelude.{IfOk}
use Rattle.process_table.specs.State.{State}
use Rattle.script_run.specs.declared.session.Session.{Session}
use Rattle.script_run.specs.Progress.{Reached}
use Rattle.script_run.proofs.session.Session.boot.Goals as goal

pub returns-clause-opened : goal.returns-clause-opened
returns-clause-opened c =
    subst (λ (s : State). IfOk c.of_core.result (λ (session : Session). (held : Option (List ℕ)) → Reached s [] session held held)) c.in_ok-core.ensures.opening c.of_core.ensures.begun
