use Rattle.process_table.proofs.Prelude.{refl, sym, subst, ap, ◌∙◌, length, ◌≡◌, None, first_cause, State, cost, at_page, after_protect, protect_refusal, View, state_of, cost-protected_of, is_ok}
use Rattle.process_table.proofs.Lemmas.{charged-same, whole, may_be, may_protect, well_formed-protect}
use Rattle.process_table.proofs.processes.Processes.try_protect.Goals as goal

pub invariant_of-self : goal.invariant_of-self
invariant_of-self c =
    let s : State = state_of c.self.inside.spaces c.self.inside.quotas c.self.inside.offers in
    let p = c.args.pid in
    let page = c.args.page in
    let write = c.args.write in
    let none : first_cause s p (protect_refusal s p page write) ≡ None = subst (λ (v : View). first_cause v.state p (protect_refusal v.state p page write) ≡ None) (sym c.self.view_is) (c.place_to_protect.ensures.done (ap is_ok c.in_ok-place.was)) in
    let may = may_be s p (protect_refusal s p page write) none in
    let kept = charged-same c.self.inside.spaces c.protect_at.new.self c.self.inside.quotas c.self.invariant.kept c.protect_at.ensures.directories (ap length c.protect_at.ensures.roles)
    (λ q. ap (λ S. cost S q) c.protect_at.ensures.spaces ∙ cost-protected_of s.spaces (at_page p page) write q (may_protect s p page write may.1).mapped) in
    whole c.protect_at.new.self c.self.inside.quotas c.self.inside.offers (after_protect s p page write) kept c.protect_at.ensures.spaces refl refl
    (well_formed-protect s p page write c.self.invariant.well_formed may.0 may.1)
