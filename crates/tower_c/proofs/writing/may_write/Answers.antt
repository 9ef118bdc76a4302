use Rattle.std.proofs.Common.{Option, subst}
use Rattle.std.specs.Prelude.{◌↔◌, IsTrue}
use Rattle.kernel_calls.specs.declared.calls.Event.{Event}
use Rattle.tower_c.specs.Writing.{MayWriteIn}
use Rattle.tower_c.proofs.writing.may_write.Goals as goal

pub returns-clause-may : goal.returns-clause-may
returns-clause-may c =
    subst (λ (x : Option Event). IsTrue c.may_write.result ↔ MayWriteIn c.args.core.now x c.args.frame) c.in-Some.ensures c.may_write.ensures
