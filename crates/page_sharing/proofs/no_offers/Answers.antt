use Rattle.std.proofs.Common.{rules, [], inl, inr, ap, arith}
use Rattle.std.proofs.lemmas.Bool.{cases_lt}
use Rattle.std.proofs.lemmas.List.{get_or_past}
use Rattle.page_sharing.proofs.no_offers.Goals as goal

pub returns-clause-offers : goal.returns-clause-offers
returns-clause-offers c = λ p. elim (cases_lt p 64) [
  | inl below ↦ (let made = c.from_fn.ensures.items.at p (record { items = [] }) below in search rules)
  | inr past ↦ ap (λ list. list.items) (get_or_past c.from_fn.result p (record { items = [] }) (omega (arith, c.from_fn.ensures.items.long)))
]

pub returns-clause-places : goal.returns-clause-places
returns-clause-places c = c.from_fn.ensures.items.long
