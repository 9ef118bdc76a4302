use Rattle.std.proofs.lemmas.Result.{err_from_is_err_and}
use Rattle.script_run.proofs.RunLemmas.{cut_at_end}
use Rattle.script_run.proofs.session.Session.run.Goals as goal

pub returns-in_err-flush-clause-err : goal.returns-in_err-flush-clause-err
returns-in_err-flush-clause-err g c =
    let p = err_from_is_err_and c.from_residual.result c.from_residual.ensures.1 in
    rw (p.1, p.2) (λ frames reached.
    cut_at_end frames c.take_script-ended.result (g.R.Read.remaining c.args.reader.now) (g.R.Read.remaining c.take_script-ended.new.reader) c.take_script-ended.new.self (g.W.Takes.contents c.args.writer.now) (g.W.Takes.contents c.take_script-ended.new.writer) _
    (c.take_script-ended.ensures.ok frames reached) (c.take_script-ended.ensures.err frames reached) c.in_err-flush.ensures.err)
