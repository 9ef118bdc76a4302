use Rattle.kernel_acts.proofs.Prelude.{◌∙◌, sym, length}
use Rattle.kernel_acts.proofs.TransferSteps.{mapped_loads}
use Rattle.kernel_acts.proofs.transfers.load_in_page.Goals as goal

pub returns-then-load_mapped-clause-loaded : goal.returns-then-load_mapped-clause-loaded
returns-then-load_mapped-clause-loaded c = λ _.
    let is = c.if-load_mapped.true in
    let m = c.load_mapped.ensures in
    mapped_loads c.args.core.now.state c.load_mapped.new.self.state c.args.pid c.args.address (length c.args.out.now) c.load_mapped.new.out
    (m.live is) (m.user is) (sym (m.mapped (m.user is)) ∙ is) c.requires.some c.requires.within (m.bytes is) (m.state is)
