use Rattle.std.proofs.Common.{◌≡◌, ◌+◌, [], ◌++◌, refl, sym, ap, ◌∙◌}
use Rattle.std.proofs.lemmas.Bool.{eqb-true}
use Rattle.std.proofs.lemmas.List.{nil_from_length}
use Rattle.std.proofs.lemmas.Result.{err_from_is_err_and}
use Rattle.script_run.proofs.ProgressLemmas.{ends_line, stops_at_line, ends_kept, stops_at_kept, stops_in_line}
use Rattle.script_run.proofs.session.Session.end_line.Goals as goal

pub returns-in_err-carry_out-clause-err : goal.returns-in_err-carry_out-clause-err
returns-in_err-carry_out-clause-err g c =
    let p = err_from_is_err_and c.from_residual.result c.from_residual.ensures.1 in
    let none : c.args.self.now.line.items ≡ [] = nil_from_length c.args.self.now.line.items (eqb-true _ 0 (sym c.is_empty.ensures ∙ c.if-is_empty.true)) in
    rw (p.1, p.2) (λ one frames read start reached.
    stops_at_line frames read c.args.piece.now c.args.piece.now c.args.self.now c.in_err-carry_out.field-0.0 c.carry_out.new.output start _ _ one reached
    (sym (ap (λ front. front ++ c.args.piece.now) none)) c.in_err-carry_out.ensures.fault)

pub returns-then-is_empty-clause-ok : goal.returns-then-is_empty-clause-ok
returns-then-is_empty-clause-ok g c = λ one frames read start reached.
    let none : c.args.self.now.line.items ≡ [] = nil_from_length c.args.self.now.line.items (eqb-true _ 0 (sym c.is_empty.ensures ∙ c.if-is_empty.true)) in
    ends_line frames read c.args.piece.now c.args.piece.now c.args.self.now _ start _ _ one reached (sym (ap (λ front. front ++ c.args.piece.now) none))
    c.in_ok-carry_out.ensures.sound c.in_ok-carry_out.ensures.state c.in_ok-carry_out.ensures.text none refl

pub returns-in_err-keep-clause-err : goal.returns-in_err-keep-clause-err
returns-in_err-keep-clause-err g c =
    let p = err_from_is_err_and c.from_residual-in_err-keep.result c.from_residual-in_err-keep.ensures.1 in
    rw (p.1, p.2) (λ one frames read start reached.
    stops_in_line frames read c.args.piece.now c.in_err-keep.field-0.0 c.keep.new.self.output start _ (c.in_err-keep.ensures.err _ one frames read start reached))

pub returns-in_err-carry_out-2-clause-err : goal.returns-in_err-carry_out-2-clause-err
returns-in_err-carry_out-2-clause-err g c =
    let p = err_from_is_err_and c.from_residual-in_err-carry_out-2.result c.from_residual-in_err-carry_out-2.ensures.1 in
    rw (p.1, p.2) (λ one frames read start reached.
    let kept = c.in_ok-keep.ensures.ok _ one frames read start reached in
    stops_at_kept frames read c.args.piece.now c.as_slice-line.result.now c.keep.new.self c.in_err-carry_out-2.field-0.0 c.carry_out-2.new.output start _ _ kept c.as_slice-line.ensures.value
    (c.args.self.now.lines + 1) (ap (λ n. n + 1) (sym c.in_ok-keep.ensures.lines)) c.in_err-carry_out-2.ensures.fault)

pub returns-clause-ok : goal.returns-clause-ok
returns-clause-ok g c = λ one frames read start reached.
    let kept = c.in_ok-keep.ensures.ok _ one frames read start reached in
    ends_kept frames read c.args.piece.now _ c.keep.new.self _ start _ _ kept c.as_slice-line.ensures.value
    c.in_ok-carry_out-2.ensures.sound c.in_ok-carry_out-2.ensures.state c.in_ok-carry_out-2.ensures.text c.clear.ensures (ap (λ n. n + 1) (sym c.in_ok-keep.ensures.lines))
