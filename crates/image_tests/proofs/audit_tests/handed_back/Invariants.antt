-- What is left and what is back are helpers of this audit.
use Rattle.std.proofs.Common.{All, vec_len}
use Rattle.integrity_checker.specs.Steps.{IsOf}
use Rattle.image_tests.proofs.audit_tests.handed_back.Given as goal

abbrev pub invariant-loop-one : goal.invariant-loop-one
invariant-loop-one l = All (λ r. IsOf l.audit r.0) l.done.items × All (λ h. IsOf l.audit h) l.back.items

abbrev pub decreases-loop-one : goal.decreases-loop-one
decreases-loop-one l = vec_len l.done
