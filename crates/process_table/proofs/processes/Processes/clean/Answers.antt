use Rattle.process_table.proofs.Prelude.{◌≡◌, refl, sym, subst, ap, ◌∙◌, length, true, Spaces, cost, at_page, cost-same, kept, State, is_mapped, View, state_of}
use Rattle.process_table.proofs.Lemmas.{charged-same, whole, cleaned_state, well_formed-cleaned}
use Rattle.process_table.proofs.processes.Processes.clean.Goals as goal

pub invariant_of-self : goal.invariant_of-self
invariant_of-self c =
    let s : State = state_of c.self.inside.spaces c.self.inside.quotas c.self.inside.offers in
    let slot = at_page c.args.pid c.args.page in
    let there : is_mapped s slot ≡ true = subst (λ (v : View). is_mapped v.state slot ≡ true) (sym c.self.view_is) c.requires.mapped in
    let charges = charged-same c.self.inside.spaces c.clean_at.new.self c.self.inside.quotas c.self.invariant.kept c.clean_at.ensures.directories (ap length c.clean_at.ensures.roles)
    (λ q. ap (λ (S : Spaces). cost S q) c.clean_at.ensures.spaces ∙ cost-same (cleaned_state s slot).spaces s.spaces q (kept s.spaces slot _ there)) in
    whole c.clean_at.new.self c.self.inside.quotas c.self.inside.offers (cleaned_state s slot) charges c.clean_at.ensures.spaces refl refl
    (well_formed-cleaned s slot c.self.invariant.well_formed there)
