use Rattle.guest_cpu.proofs.RunLemmas.{determined}
use Rattle.guest_cpu.proofs.laws.runs_are_determined.Goals as goal

pub returns : goal.returns
returns c = λ program turns g h k given events made e f first second. determined first second
