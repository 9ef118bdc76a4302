use Rattle.std.proofs.Common.{◌≡◌, Option, Some, IfSome, false, subst, ap, ◌∙◌, sym}
use Rattle.process_table.specs.View.{View}
use Rattle.tower_c.specs.Border.{event_in, is_carried_out}
use Rattle.tower_c.proofs.tower_step.Goals as goal

-- the core that was taken out is the one that the handle had, and the one that was put back is what `step_to` left of it
pub returns-in-Some-clause-refused : goal.returns-in-Some-clause-refused
returns-in-Some-clause-refused c =
    let is_refused : View → Type 0 = λ core. is_carried_out core.state (event_in c.args.event.now) ≡ false in
    subst (λ (held : Option View). IfSome held (λ core. is_refused core → c.put.new.tower.hold.core ≡ Some core)) c.in-Some.ensures.core
    (λ refused. c.put.ensures.core ∙ ap Some (c.step_to.ensures.refused (subst is_refused (sym c.deref_mut.ensures.value) refused) ∙ c.deref_mut.ensures.value))
