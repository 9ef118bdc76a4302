use Rattle.kernel_laws.proofs.OwnActs.{cleaning_writes_its_own, copies_write_their_own, installs_write_their_own, loads_write_their_own, reads_write_their_own}
use Rattle.kernel_laws.proofs.laws.acts_write_their_own.Goals as goal

pub returns-clause-reads : goal.returns-clause-reads
returns-clause-reads c = reads_write_their_own

pub returns-clause-copies : goal.returns-clause-copies
returns-clause-copies c = copies_write_their_own

pub returns-clause-installs : goal.returns-clause-installs
returns-clause-installs c = installs_write_their_own

pub returns-clause-loads : goal.returns-clause-loads
returns-clause-loads c = loads_write_their_own

pub returns-clause-cleaning : goal.returns-clause-cleaning
returns-clause-cleaning c = cleaning_writes_its_own
