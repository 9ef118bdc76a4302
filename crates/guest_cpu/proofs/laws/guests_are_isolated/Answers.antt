use Rattle.guest_cpu.proofs.AloneLemmas.{guests_isolated}
use Rattle.guest_cpu.proofs.laws.guests_are_isolated.Goals as goal

pub returns : goal.returns
returns c = guests_isolated
