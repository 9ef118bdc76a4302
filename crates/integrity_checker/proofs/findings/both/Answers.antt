use Rattle.std.proofs.Common.{◌≡◌, ℕ, ◌+◌, ◌<◌, length-set, sym, subst, ◌∙◌, arith, Option, None}
use Rattle.std.specs.Prelude.{slice_get, slice_set, Some}
use Rattle.std.proofs.lemmas.Option.{unwrap_or-slice_get}
use Rattle.memory_image.proofs.FillLemmas.{fill_goes_on, filled_to}
use Rattle.image_check.specs.declared.clauses.ProcessClause.{ProcessClause}
use Rattle.integrity_checker.specs.Found.{clause_at, either}
use Rattle.integrity_checker.proofs.findings.both.Goals as goal

pub loop-place-preserved : goal.loop-place-preserved
loop-place-preserved c =
    let g : ℕ → Option ProcessClause = λ p. either (clause_at c.args.mine.now p) (clause_at c.args.other.now p) in
    let e : c.either.result ≡ g c.loop-place.place = c.either.ensures ∙ (λ i. either (sym (unwrap_or-slice_get c.args.mine.now c.loop-place.place None) i) (sym (unwrap_or-slice_get c.args.other.now c.loop-place.place None) i)) in (
      length-set c.loop-place.clauses c.loop-place.place c.either.result ∙ c.loop-place.invariant.0,
      subst (λ (x : Option ProcessClause). (p : ℕ) → p < c.loop-place.place + 1 → slice_get (slice_set c.loop-place.clauses c.loop-place.place x) p ≡ Some (g p)) (sym e)
          (fill_goes_on g c.loop-place.clauses c.loop-place.place (let l = c.loop-place.invariant.0 in omega (arith, l)) c.loop-place.invariant.1),
    )

pub returns-clause-clauses : goal.returns-clause-clauses
returns-clause-clauses c = filled_to (λ p. either (clause_at c.args.mine.now p) (clause_at c.args.other.now p)) 64 c.loop-place.clauses c.loop-place.invariant.0 (λ p low. c.loop-place.invariant.1 p (omega (arith, low)))
