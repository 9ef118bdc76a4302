use Rattle.std.proofs.Common.{◌≡◌, ℕ, sym, subst, arith}
use Rattle.page_words.specs.FiniteMap as map
use Rattle.page_sharing.specs.Offers.{offer_key, offer_number}
use Rattle.page_sharing.specs.Listed.{IsDistinct, IsFirstFrom}
use Rattle.page_sharing.proofs.ListSteps.{right_in, get-offers_in}
use Rattle.page_sharing.proofs.FirstOffers.{first_pending, first_later, first_least, first_none}
use Rattle.page_sharing.proofs.Offers.next.Goals as goal

-- the map, by the list of the offerer
listed : (c : goal.After-first_from) (p t : ℕ) → map.get c.args.self.now (offer_key c.args.giver p t) ≡ right_in c.list_by.result.now p t
listed c p t = grind (arith, get-offers_in, right_in, c.list_by.ensures)

here : (c : goal.After-first_from) → IsFirstFrom (offer_number c.args.page c.args.target) c.list_by.result.now c.first_from.result
here c = subst (λ (n : ℕ). IsFirstFrom n c.list_by.result.now c.first_from.result) c.number_of.ensures c.first_from.ensures

pub returns-clause-pending : goal.returns-clause-pending
returns-clause-pending c =
    first_pending c.args.self.now c.args.giver c.list_by.result.now (listed c) (offer_number c.args.page c.args.target) c.first_from.result
    (subst IsDistinct (sym c.list_by.ensures) (c.self.invariant.bounds.distinct c.args.giver)) (here c)

pub returns-clause-from : goal.returns-clause-from
returns-clause-from c = first_later c.args.self.now c.args.giver c.list_by.result.now (listed c) (offer_number c.args.page c.args.target) c.first_from.result (here c)

pub returns-clause-least : goal.returns-clause-least
returns-clause-least c = first_least c.args.self.now c.args.giver c.list_by.result.now (listed c) (offer_number c.args.page c.args.target) c.first_from.result (here c)

pub returns-clause-none : goal.returns-clause-none
returns-clause-none c = first_none c.args.self.now c.args.giver c.list_by.result.now (listed c) (offer_number c.args.page c.args.target) c.first_from.result (here c)
