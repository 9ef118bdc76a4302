use Rattle.std.proofs.Common.{◌<◌, ◌+◌, length, refl, inl, inr}
use Rattle.std.proofs.lemmas.Bool.{cases_lt, false≢true}
use Rattle.script_run.proofs.ProgressLemmas.{keeps_piece, refuses_piece}
use Rattle.script_run.proofs.session.Session.keep.Goals as goal

pub returns-in-Ok-clause-ok : goal.returns-in-Ok-clause-ok
returns-in-Ok-clause-ok c = λ now one frames read start reached.
    keeps_piece frames read c.args.piece.now c.args.self.now _ start now one reached refl refl refl c.in-Ok.ensures.ok (c.in-Ok.ensures.variant.0 refl)

pub returns-in-Err-clause-err : goal.returns-in-Err-clause-err
returns-in-Err-clause-err c = λ now one frames read start reached.
    let over : 100 < length c.args.self.now.line.items + length c.args.piece.now = elim (cases_lt 100 (length c.args.self.now.line.items + length c.args.piece.now)) [
      | inl more ↦ more
      | inr fits ↦ absurd (false≢true (c.in-Err.ensures.variant.1 fits))
    ] in
    refuses_piece frames read c.args.piece.now c.args.self.now start now one reached over
