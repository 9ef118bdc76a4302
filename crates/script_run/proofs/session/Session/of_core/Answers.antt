use Rattle.std.proofs.Common.{refl}
use Rattle.script_run.proofs.RunLemmas.{opens}
use Rattle.script_run.proofs.session.Session.of_core.Goals as goal

pub returns-clause-begun : goal.returns-clause-begun
returns-clause-begun c = λ held. opens c.args.core.state _ held refl c.in_ok-output.ensures c.new-2.ensures refl
