use Rattle.std.proofs.Common.{subst, Option}
use Rattle.kernel_calls.specs.Translations.{Ends}
use Rattle.kernel_calls.specs.declared.calls.Event.{Event}
use Rattle.kernel_calls.specs.declared.translations.Ended.{Ended}
use Rattle.tower_c.specs.Border.{ends_in}
use Rattle.tower_c.specs.Shadows.{Forgets}
use Rattle.tower_c.proofs.TouchLemmas.{still_ends}
use Rattle.tower_c.proofs.shadow_faults.step.Goals as goal

-- where nothing is done, nothing is ended
pub returns-in_default-clause-ends : goal.returns-in_default-clause-ends
returns-in_default-clause-ends c =
    let v = c.args.core.now in
    let now = c.stands.ensures in
    subst (λ (x : Option Event). Ends (ends_in v x) v v) c.in_default.ensures (still_ends v now.core)

pub returns-clause-forgets : goal.returns-clause-forgets
returns-clause-forgets c =
    let v = c.args.core.now in
    let made = c.carry_out-told.ensures in
    let u = c.carry_out-told.new.shadow in
    subst (λ (x : Option Event). Forgets c.args.tables.now (ends_in v x) u) c.in-Some.ensures
    (subst (λ (x : Ended). Forgets c.args.tables.now x u) made.ended
    (record { translations = made.left; roots = made.roots; tables = made.tables; gone = made.gone; free = made.free; fixed = made.fixed }))
