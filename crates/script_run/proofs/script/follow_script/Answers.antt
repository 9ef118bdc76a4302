use Rattle.std.proofs.Common.{None}
use Rattle.std.proofs.lemmas.Result.{err_from_is_err_and}
use Rattle.script_run.proofs.RunLemmas.{late_is_no_bad_size, whole_part, state_part}
use Rattle.script_run.proofs.script.follow_script.Goals as goal

pub returns-in_err-run-clause-fault : goal.returns-in_err-run-clause-fault
returns-in_err-run-clause-fault g c =
    let p = err_from_is_err_and c.from_residual-in_err-run.result c.from_residual-in_err-run.ensures.1 in
    let ends = c.in_err-run.ensures.err c.args.core.state (c.in_ok-session.ensures.begun _) in
    rw (p.1, p.2) ends.1

pub returns-in_err-run-clause-size : goal.returns-in_err-run-clause-size
returns-in_err-run-clause-size g c =
    let p = err_from_is_err_and c.from_residual-in_err-run.result c.from_residual-in_err-run.ensures.1 in
    let ends = c.in_err-run.ensures.err c.args.core.state (c.in_ok-session.ensures.begun _) in
    rw (p.1, p.2) (late_is_no_bad_size c.in_err-run.field-0.0 ends.0)

pub returns-clause-whole : goal.returns-clause-whole
returns-clause-whole g c = whole_part c.args.core.state _ c.run.new.self None None (c.in_ok-run.ensures.ok c.args.core.state (c.in_ok-session.ensures.begun _))

pub returns-clause-state : goal.returns-clause-state
returns-clause-state g c = state_part c.args.core.state _ c.run.new.self None None (c.in_ok-run.ensures.ok c.args.core.state (c.in_ok-session.ensures.begun _))
