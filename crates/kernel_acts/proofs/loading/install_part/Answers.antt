use Rattle.kernel_acts.proofs.Prelude.{arith, page_number}
use Rattle.kernel_acts.proofs.LoadedPages.{part_goes}
use Rattle.kernel_acts.proofs.loading.install_part.Goals as goal

pub returns-clause-installed : goal.returns-clause-installed
returns-clause-installed c =
    c.install.ensures.installed (part_goes c.args.core.now.state c.args.pid (page_number c.args.address) c.install.result c.requires.none c.install.ensures.refused)

pub returns-clause-state : goal.returns-clause-state
returns-clause-state c = grind (arith, part_goes, c.install.ensures.state, c.requires.none, c.install.ensures.refused)

pub returns-clause-core : goal.returns-clause-core
returns-clause-core c =
    let now = c.stands-2.ensures in
    now.core
