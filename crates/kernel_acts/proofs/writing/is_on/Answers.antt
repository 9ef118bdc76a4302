use Rattle.kernel_acts.proofs.Prelude.{sym, subst, ◌≡◌, Bool, Some, ◌↔◌, IsTrue, page_frame, at_page, memory_of}
use Rattle.kernel_acts.proofs.FrameWriters.{on_frame}
use Rattle.kernel_acts.proofs.writing.is_on.Goals as goal

pub returns-in-Some : goal.returns-in-Some
returns-in-Some c =
    let v = c.args.core.now in
    let way = c.in-Some.ensures.leads.way in
    subst (λ (b : Bool). IsTrue b ↔ (page_frame (memory_of v) (at_page c.args.pid c.args.page) ≡ Some c.args.frame)) (sym c.are_one.ensures)
    (on_frame v c.stands.ensures.core (at_page c.args.pid c.args.page) way.0 c.in-Some.found c.args.frame way.1)
