use Rattle.guest_cpu.proofs.HeardLemmas.{guests_hear_the_same, guests_are_unreached}
use Rattle.guest_cpu.proofs.laws.guests_hear_their_own.Goals as goal

pub returns-clause-seen : goal.returns-clause-seen
returns-clause-seen c = guests_hear_the_same

pub returns-clause-unreached : goal.returns-clause-unreached
returns-clause-unreached c = guests_are_unreached
