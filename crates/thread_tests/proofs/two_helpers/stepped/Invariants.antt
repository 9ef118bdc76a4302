use Rattle.integrity_checker.specs.Steps.{IsOf}
use Rattle.thread_tests.proofs.two_helpers.stepped.Given as goal

abbrev pub invariant-loop-turn : goal.invariant-loop-turn
invariant-loop-turn l = IsOf l.audit l.helper
