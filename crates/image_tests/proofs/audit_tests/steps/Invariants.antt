use Rattle.integrity_checker.specs.Steps.{IsOf}
use Rattle.image_tests.proofs.audit_tests.steps.Given as goal

abbrev pub invariant-loop-turn : goal.invariant-loop-turn
invariant-loop-turn l = IsOf l.audit l.helper
