use Rattle.std.proofs.Common.{◌∷◌, ◌++◌, ℕ, List, length, subst, ap, arith, length-append}
use Rattle.std.specs.Result.{OnOk, IfErr}
use Rattle.std.proofs.lemmas.Result.{err_from_is_err_and}
use Rattle.script_run.specs.Progress.{Reached, Stops}
use Rattle.script_run.proofs.ProgressLemmas.{takes_line, stops_within, at_rest}
use Rattle.script_run.proofs.session.Session.take_lines.Goals as goal

pub returns-in_err-end_line-clause-err : goal.returns-in_err-end_line-clause-err
returns-in_err-end_line-clause-err g c =
    let p = err_from_is_err_and c.from_residual.result c.from_residual.ensures.1 in
    rw (p.1, p.2) (λ frames read start reached.
    let far = c.loop-line.invariant.reached frames read start reached in
    stops_within frames read c.args.bytes.now far.0 c.loop-line.rest.now c.in-Some.line.now c.in-Some.after.now c.in_err-end_line.field-0.0 c.end_line.new.self.output start _ far.1 c.in-Some.ensures.0
    (c.in_err-end_line.ensures.err c.in-Some.ensures.1 frames (read ++ far.0) start far.2))

pub loop-line-preserved : goal.loop-line-preserved
loop-line-preserved g c = record {
  lines = omega (arith, c.in_ok-end_line.ensures.lines, ap length c.in-Some.ensures.0, length-append c.in-Some.line.now (10 ∷ c.in-Some.after.now));
  reached = λ frames read start reached.
      let far = c.loop-line.invariant.reached frames read start reached in
      takes_line frames read c.args.bytes.now far.0 c.loop-line.rest.now c.in-Some.line.now c.in-Some.after.now c.end_line.new.self start _ far.1 c.in-Some.ensures.0
      (c.in_ok-end_line.ensures.ok c.in-Some.ensures.1 frames (read ++ far.0) start far.2);
}

pub returns-clause-ok : goal.returns-clause-ok
returns-clause-ok g c = λ frames read start reached.
    let far = c.loop-line.invariant.reached frames read start reached in
    subst (λ (bs : List ℕ). OnOk c.keep.result (Reached frames bs c.keep.new.self start (g.W.Takes.contents c.loop-line.writer))) (at_rest read c.args.bytes.now far.0 c.loop-line.rest.now far.1)
    (c.keep.ensures.ok _ c.in_default.ensures frames (read ++ far.0) start far.2)

pub returns-clause-err : goal.returns-clause-err
returns-clause-err g c = λ frames read start reached.
    let far = c.loop-line.invariant.reached frames read start reached in
    subst (λ (bs : List ℕ). IfErr c.keep.result (λ fault. Stops frames bs fault c.keep.new.self.output start (g.W.Takes.contents c.loop-line.writer))) (at_rest read c.args.bytes.now far.0 c.loop-line.rest.now far.1)
    (c.keep.ensures.err _ c.in_default.ensures frames (read ++ far.0) start far.2)
