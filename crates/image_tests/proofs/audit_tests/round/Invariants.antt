use Rattle.std.proofs.Common.{All, vec_len}
use Rattle.integrity_checker.specs.Steps.{IsOf}
use Rattle.image_tests.proofs.audit_tests.round.Given as goal

abbrev pub invariant-loop-helper : goal.invariant-loop-helper
invariant-loop-helper l = All (λ h. IsOf l.audit h) l.helpers.items × All (λ h. IsOf l.audit h) l.back.items

abbrev pub decreases-loop-helper : goal.decreases-loop-helper
decreases-loop-helper l = vec_len l.helpers
