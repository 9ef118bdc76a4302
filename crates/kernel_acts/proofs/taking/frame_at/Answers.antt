use Rattle.kernel_acts.proofs.Prelude.{◌∙◌, ap, sym, walk_of, Read}
use Rattle.kernel_acts.proofs.Beside.{page_leads, page_bare}
use Rattle.kernel_acts.proofs.taking.frame_at.Goals as goal

pub returns-in-Ok-clause-leads : goal.returns-in-Ok-clause-leads
returns-in-Ok-clause-leads c =
    let d = c.in-Some.directory in
    let a = c.start_of.result in
    page_leads c.args.core.now c.stands.ensures.core c.args.pid c.args.page d c.in-Ok.frame a c.requires.user
    c.start_of.ensures (sym c.in-Some.ensures) (ap (λ bytes. walk_of bytes d a Read) (sym c.memory.ensures) ∙ sym c.in-Ok.ensures)

pub returns-in-Err-clause-none : goal.returns-in-Err-clause-none
returns-in-Err-clause-none c =
    let d = c.in-Some.directory in
    let a = c.start_of.result in
    page_bare c.args.core.now c.stands.ensures.core c.args.pid c.args.page d a c.in-Err.field-0 c.requires.user
    c.start_of.ensures (sym c.in-Some.ensures) (ap (λ bytes. walk_of bytes d a Read) (sym c.memory.ensures) ∙ sym c.in-Err.ensures)
