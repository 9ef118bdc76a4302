use Rattle.std.proofs.Common.{◌≡◌, Option, Some, IfSome, false, subst, ap, ◌∙◌, sym}
use Rattle.process_table.specs.View.{View}
use Rattle.tower_c.specs.Border.{is_carried_out, pid_of}
use Rattle.tower_c.specs.Touching.{touch_in}
use Rattle.tower_c.proofs.touching.tower_touch.Goals as goal

-- the core that was taken out is the one that the handle had, and the one that was put back is what `touch` left of it
pub returns-in-Some-clause-refused : goal.returns-in-Some-clause-refused
returns-in-Some-clause-refused c =
    let is_refused : View → Type 0 = λ core. is_carried_out core.state (touch_in core.state (pid_of c.args.pid) c.args.address c.args.write) ≡ false in
    subst (λ (held : Option View). IfSome held (λ core. is_refused core → c.put.new.tower.hold.core ≡ Some core)) c.in-Some.ensures.core
    (λ refused. c.put.ensures.core ∙ ap Some (c.touch-told.ensures.refused (subst is_refused (sym c.deref_mut.ensures.value) refused) ∙ c.deref_mut.ensures.value))
