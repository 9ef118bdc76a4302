use Rattle.std.proofs.lemmas.Result.{err_from_is_err_and}
use Rattle.script_run.proofs.RunLemmas.{finishes, stops_at_last}
use Rattle.script_run.proofs.session.Session.finish.Goals as goal

pub returns-clause-ok : goal.returns-clause-ok
returns-clause-ok g c = λ frames read start reached.
    finishes frames read c.as_slice-line.result.now c.args.self.now _ start _ _ reached c.as_slice-line.ensures.value
    c.in_ok-carry_out.ensures.sound c.in_ok-carry_out.ensures.state c.in_ok-carry_out.ensures.text

pub returns-in_err-carry_out-clause-err : goal.returns-in_err-carry_out-clause-err
returns-in_err-carry_out-clause-err g c =
    let p = err_from_is_err_and c.from_residual.result c.from_residual.ensures.1 in
    rw (p.1, p.2) (λ frames read start reached.
    stops_at_last frames read c.as_slice-line.result.now c.args.self.now c.in_err-carry_out.field-0.0 c.carry_out.new.output start _ _ reached c.as_slice-line.ensures.value c.in_err-carry_out.ensures.fault)
