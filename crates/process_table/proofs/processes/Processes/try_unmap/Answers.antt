use Rattle.process_table.proofs.Prelude.{rules, ◌≡◌, ℕ, ◌+◌, ◌-◌, sym, subst, ap, ◌∙◌, arith, ne_eqb, cost, without, is_slot, at_page, cost-without_other, used_of, State, after_unmap, unmap_refusal, View, IsProcesses, state_of, image_of, memory_of, slot_of_process, first_cause, None, LooseStay, is_ok}
use Rattle.process_table.proofs.Lemmas.{well_formed-unmap, charged-one, whole, may_be}
use Rattle.process_table.proofs.processes.Processes.try_unmap.Goals as goal

less : (u k n m : ℕ) → u ≡ n → m + k ≡ n → u - k ≡ m
less u k n m a b = omega arith

pub invariant_of-self : goal.invariant_of-self
invariant_of-self c =
    let v = c.self.inside.spaces in
    let q = c.self.inside.quotas in
    let p = c.args.pid in
    let page = c.args.page in
    let s : State = state_of v q c.self.inside.offers in
    let none : first_cause s p (unmap_refusal s p page) ≡ None = subst (λ (v : View). first_cause v.state p (unmap_refusal v.state p page) ≡ None) (sym c.self.view_is) (c.place_to_unmap.ensures.done (ap is_ok c.in_ok-place.was)) in
    let live = (may_be s p (unmap_refusal s p page) none).0 in
    let kept = subst (IsProcesses c.unmap_at.new.self) (sym c.refund.ensures)
    (charged-one v c.unmap_at.new.self q p (used_of q p - c.relief_at-relief.result) c.self.invariant.kept c.unmap_at.ensures.directories c.unmap_at.ensures.frames
    (less (used_of q p) c.relief_at-relief.result (cost v.spaces p) (cost (without v.spaces (is_slot p page)) p) (c.self.invariant.kept.charged p live) c.relief_at-relief.ensures ∙ sym (ap (λ S. cost S p) c.unmap_at.ensures.spaces))
    (λ other n. ap (λ S. cost S other) c.unmap_at.ensures.spaces ∙ cost-without_other v.spaces (is_slot p page) other (λ at. slot_of_process p page (at_page other at) (ne_eqb other p n)))) in
    whole c.unmap_at.new.self c.refund.new.self c.drop_page.new.self (after_unmap s p page) kept c.unmap_at.ensures.spaces (search rules) c.drop_page.ensures
    (well_formed-unmap s p page c.self.invariant.well_formed)

pub returns-clause-stay : goal.returns-clause-stay
returns-clause-stay c = grind (arith, c.unmap_at.ensures.stay)

pub returns-clause-loose : goal.returns-clause-loose
returns-clause-loose c = subst (λ (v : View). LooseStay (memory_of v) (image_of c.unmap_at.new.self)) c.self.view_is c.unmap_at.ensures.loose
