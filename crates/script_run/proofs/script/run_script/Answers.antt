use Rattle.std.proofs.lemmas.Result.{err_from_is_err_and}
use Rattle.process_table.specs.State.{open_with}
use Rattle.script_run.proofs.RunLemmas.{late_fault, no_fault, whole_part, state_part, replies_part}
use Rattle.script_run.proofs.script.run_script.Goals as goal

pub returns-in_err-run-clause-size : goal.returns-in_err-run-clause-size
returns-in_err-run-clause-size g c =
    let p = err_from_is_err_and c.from_residual-in_err-run.result c.from_residual-in_err-run.ensures.1 in
    let ends = c.in_err-run.ensures.err (open_with c.args.frames) (c.in_ok-session.ensures.opened _) in
    rw (p.1, p.2) (late_fault c.in_ok-session.session c.in_err-run.field-0.0 _ c.in_ok-session.ensures.size ends.0)

pub returns-in_err-run-clause-fault : goal.returns-in_err-run-clause-fault
returns-in_err-run-clause-fault g c =
    let p = err_from_is_err_and c.from_residual-in_err-run.result c.from_residual-in_err-run.ensures.1 in
    let ends = c.in_err-run.ensures.err (open_with c.args.frames) (c.in_ok-session.ensures.opened _) in
    rw (p.1, p.2) ends.1

pub returns-clause-size : goal.returns-clause-size
returns-clause-size g c = no_fault c.in_ok-session.session _ _ c.in_ok-session.ensures.size

pub returns-clause-whole : goal.returns-clause-whole
returns-clause-whole g c = whole_part (open_with c.args.frames) _ c.run.new.self _ _ (c.in_ok-run.ensures.ok (open_with c.args.frames) (c.in_ok-session.ensures.opened _))

pub returns-clause-state : goal.returns-clause-state
returns-clause-state g c = state_part (open_with c.args.frames) _ c.run.new.self _ _ (c.in_ok-run.ensures.ok (open_with c.args.frames) (c.in_ok-session.ensures.opened _))

pub returns-clause-replies : goal.returns-clause-replies
returns-clause-replies g c = replies_part (open_with c.args.frames) _ c.run.new.self _ _ (c.in_ok-run.ensures.ok (open_with c.args.frames) (c.in_ok-session.ensures.opened _))
