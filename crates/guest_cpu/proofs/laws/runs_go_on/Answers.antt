use Rattle.guest_cpu.proofs.RunLemmas.{goes_on}
use Rattle.guest_cpu.proofs.laws.runs_go_on.Goals as goal

pub returns : goal.returns
returns c = λ program m n g h k given more events made e first second. goes_on first second
