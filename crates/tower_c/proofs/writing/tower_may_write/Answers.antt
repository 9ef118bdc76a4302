use Rattle.std.proofs.Common.{Option, subst}
use Rattle.std.specs.Prelude.{◌↔◌, IsTrue, IfSome}
use Rattle.process_table.specs.View.{View}
use Rattle.tower_c.specs.Border.{event_in}
use Rattle.tower_c.specs.Writing.{MayWriteIn}
use Rattle.tower_c.proofs.writing.tower_may_write.Goals as goal

pub returns-in-Some-told-clause-may : goal.returns-in-Some-told-clause-may
returns-in-Some-told-clause-may c =
    let tells : View → Type 0 = λ core. IsTrue c.in-Some-told.told ↔ MayWriteIn core (event_in c.args.event.now) c.args.frame in
    λ _. subst (λ (x : Option View). IfSome x tells) c.in-Some.ensures.core (subst tells c.deref.ensures c.in-Some-told.ensures.may)
