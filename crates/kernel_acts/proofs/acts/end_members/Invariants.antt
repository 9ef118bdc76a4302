use Rattle.kernel_acts.proofs.Prelude.{◌≡◌, drop}
use Rattle.kernel_acts.proofs.FamilySteps.{Going}
use Rattle.page_words.specs.FiniteMap as map
use Rattle.kernel_acts.proofs.acts.end_members.Given as goal

abbrev pub invariant-leaves : goal.invariant-leaves
invariant-leaves l = record {
  going : Going l.fn.core l.core l.pid l.at l.count l.exited;
  rest : drop l.count l.exited ≡ drop l.count l.fn.exited;
}

abbrev pub decreases-leaves : goal.decreases-leaves
decreases-leaves l = map.len l.core.state.book
