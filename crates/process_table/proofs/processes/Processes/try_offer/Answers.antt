use Rattle.process_table.proofs.Prelude.{◌≡◌, refl, sym, subst, ◌∙◌, None, State, View, after_offer, offer_refusal, state_of}
use Rattle.process_table.proofs.Lemmas.{whole, well_formed-offer}
use Rattle.process_table.proofs.processes.Processes.try_offer.Goals as goal

pub invariant_of-self : goal.invariant_of-self
invariant_of-self c =
    let s : State = state_of c.self.inside.spaces c.self.inside.quotas c.self.inside.offers in
    let none = subst (λ (v : View). offer_refusal v.state c.args.pid c.args.page c.args.target c.args.write ≡ None) (sym c.self.view_is) (sym c.offer_check.ensures ∙ c.in-None.is) in
    whole c.self.inside.spaces c.self.inside.quotas c.offer.new.self (after_offer s c.args.pid c.args.page c.args.target c.args.write) c.self.invariant.kept refl refl c.offer.ensures
    (well_formed-offer s c.args.pid c.args.page c.args.target c.args.write c.self.invariant.well_formed none)
