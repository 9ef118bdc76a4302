-- The helper is one of this audit.
use Rattle.integrity_checker.specs.Steps.{IsOf}
use Rattle.guest_race.proofs.audits.all_steps.Given as goal

abbrev pub invariant-loop-step : goal.invariant-loop-step
invariant-loop-step l = IsOf l.audit l.helper
