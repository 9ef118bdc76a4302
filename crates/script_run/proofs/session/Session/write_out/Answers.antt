use Rattle.std.proofs.Common.{refl}
use Rattle.std.proofs.lemmas.Result.{err_from_is_err_and}
use Rattle.script_run.proofs.ProgressLemmas.{written_out, stops_writing}
use Rattle.script_run.proofs.session.Session.write_out.Goals as goal

pub returns-in_err-flush-clause-err : goal.returns-in_err-flush-clause-err
returns-in_err-flush-clause-err g c =
    let p = err_from_is_err_and c.from_residual.result c.from_residual.ensures.1 in
    rw (p.1, p.2) (λ frames read start reached. stops_writing frames read c.args.self.now _ start _ _ reached c.flush.ensures.empty c.in_err-flush.ensures.err)

pub returns-clause-ok : goal.returns-clause-ok
returns-clause-ok g c = λ frames read start reached. written_out frames read c.args.self.now _ start _ _ reached refl refl refl c.flush.ensures.empty c.in_ok-flush.ensures.ok
