use Rattle.std.proofs.Common.{inl, inr, arith}
use Rattle.std.proofs.lemmas.Bool.{cases_lt}
use Rattle.page_sharing.proofs.ListSteps.{none_behind}
use Rattle.page_sharing.proofs.remove_all_to.Goals as goal

pub returns-then-unseen-eq0-clause-offers : goal.returns-then-unseen-eq0-clause-offers
returns-then-unseen-eq0-clause-offers c = λ p. elim (cases_lt p c.loop-place.place) [
  | inl before ↦ c.loop-place.invariant.before p before
  | inr behind ↦
      grind (arith, none_behind, c.loop-place.invariant.left, c.if-unseen-eq0.true, c.loop-place.invariant.behind)
]
