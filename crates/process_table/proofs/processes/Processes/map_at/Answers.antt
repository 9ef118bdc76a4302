use Rattle.process_table.proofs.Prelude.{rules, arith, refl, sym, subst, ap, ◌+◌, ◌∙◌, IsOk, Slot, cost, need, fresh, at_page, cost-insert, used_of, State, map_answer, after_map, map_refusal, View, IsProcesses, state_of, cost-insert_other}
use Rattle.process_table.proofs.Lemmas.{charged-one, whole, keeps-map, new_fits, no_cause, may_map}
use Rattle.process_table.proofs.processes.Processes.map_at.Goals as goal

pub invariant_of-self : goal.invariant_of-self
invariant_of-self c =
    let v = c.self.inside.spaces in
    let q = c.self.inside.quotas in
    let p = c.args.pid in
    let page = c.args.page in
    let s : State = state_of v q c.self.inside.offers in
    let ok : IsOk (map_answer s p page) = subst (λ (v : View). IsOk (map_answer v.state p page)) (sym c.self.view_is) c.requires.may in
    let free = no_cause s p (map_refusal s p page) _ ok in
    let slot : Slot = at_page p page in
    let cell = fresh slot c.args.write in
    let used = used_of q p + c.need.result in
    let need_is = c.need.ensures.value ∙ c.tells.ensures.need ∙ ap (λ (x : View). need x.state.spaces p page) (sym c.self.view_is) in
    let kept = subst (IsProcesses c.map_at.new.self) (sym c.take_room.ensures.quotas)
    (charged-one v c.map_at.new.self q p used c.self.invariant.kept c.map_at.ensures.directories c.map_at.ensures.frames
    ((λ i. c.self.invariant.kept.charged p free.0 i + need_is i) ∙ sym (cost-insert v.spaces slot cell (may_map s p page free.1).none) ∙ sym (ap (λ S. cost S p) c.map_at.ensures.spaces))
    (λ other n. ap (λ S. cost S other) c.map_at.ensures.spaces ∙ cost-insert_other v.spaces slot cell other n)) in
    whole c.map_at.new.self c.take_room.new.quotas c.self.inside.offers (after_map s p page c.args.write) kept c.map_at.ensures.spaces (search rules) refl
    (keeps-map s p page c.args.write c.self.invariant.well_formed ok)

pub returns-clause-stay : goal.returns-clause-stay
returns-clause-stay c = grind (arith, c.map_at.ensures.stay)

pub returns-clause-lazy : goal.returns-clause-lazy
returns-clause-lazy c = c.map_at.ensures.lazy

pub take_room-requires-clause-room : goal.take_room-requires-clause-room
take_room-requires-clause-room c = grind (arith, no_cause, may_map, new_fits)
