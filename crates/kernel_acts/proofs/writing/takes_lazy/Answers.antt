use Rattle.kernel_acts.proofs.Prelude.{◌∙◌, sym, eqb-true}
use Rattle.kernel_acts.proofs.FrameWriters.{takes}
use Rattle.kernel_acts.proofs.writing.takes_lazy.Goals as goal

pub returns-then-eq : goal.returns-then-eq
returns-then-eq c = takes c.args.core.now c.args.event.now c.in-Accept.from c.in-Accept.giver_page c.in-Accept.page c.in-Accept.is c.args.giver (eqb-true c.in-Accept.from c.args.giver (sym c.eq.ensures ∙ c.if-eq.true)) c.is_lazy.result c.is_lazy.ensures
