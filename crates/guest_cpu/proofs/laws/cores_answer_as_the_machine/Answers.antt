use Rattle.guest_cpu.proofs.Chains.{core_answers}
use Rattle.guest_cpu.proofs.laws.cores_answer_as_the_machine.Goals as goal

pub returns : goal.returns
returns c = λ before after events given chain. core_answers chain
