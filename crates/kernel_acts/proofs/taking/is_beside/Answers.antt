use Rattle.kernel_acts.proofs.Prelude.{◌∙◌, sym, at_page}
use Rattle.kernel_acts.proofs.Beside.{beside_there, beside_ways}
use Rattle.kernel_acts.proofs.taking.is_beside.Goals as goal

pub returns-in_default-frame_at : goal.returns-in_default-frame_at
returns-in_default-frame_at c =
    sym (beside_there c.args.core.now.state (at_page c.args.pid c.args.page) (at_page c.args.other c.args.other_page) c.stands.ensures.well_formed c.in_default-frame_at.ensures.none)

pub returns : goal.returns
returns c =
    let one = c.in-Some.ensures.leads.way in
    let two = c.in-Some-frame_at.ensures.leads.way in
    c.are_one.ensures
    ∙ sym (beside_ways c.args.core.now c.stands.ensures.core (at_page c.args.pid c.args.page) (at_page c.args.other c.args.other_page)
    one.0 c.in-Some.frame two.0 c.in-Some-frame_at.found (sym c.is_slot.ensures ∙ c.if-is_slot.false) one.1 two.1)
