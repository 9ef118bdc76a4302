use Rattle.process_table.proofs.Prelude.{arith, rules, refl, sym, subst, ◌∙◌, IsOk, State, exit_answer, after_exit, View, IsProcesses, state_of, image_of, memory_of, LooseStay}
use Rattle.process_table.proofs.Lemmas.{charged-exit, whole, keeps-exit}
use Rattle.process_table.proofs.processes.Processes.try_exit.Goals as goal

pub invariant_of-self : goal.invariant_of-self
invariant_of-self c =
    let v = c.self.inside.spaces in
    let q = c.self.inside.quotas in
    let s : State = state_of v q c.self.inside.offers in
    let p = c.args.pid in
    let ok : IsOk (exit_answer s p) = subst (λ (v : View). IsOk (exit_answer v.state p)) (sym c.self.view_is) (subst IsOk (sym c.in_ok-can_exit.was ∙ c.can_exit.ensures) refl) in
    let kept = subst (IsProcesses c.drop_charged_space.new.self) (sym c.close.ensures)
    (charged-exit v c.drop_charged_space.new.self q p c.self.invariant.kept (search rules) c.drop_charged_space.ensures.spaces c.drop_charged_space.ensures.frames c.drop_charged_space.ensures.none c.drop_charged_space.ensures.others) in
    whole c.drop_charged_space.new.self c.close.new.self c.drop_process.new.self (after_exit s p) kept c.drop_charged_space.ensures.spaces (search rules) c.drop_process.ensures
    (keeps-exit s p c.self.invariant.well_formed ok)

pub returns-clause-stay : goal.returns-clause-stay
returns-clause-stay c = grind (arith, c.drop_charged_space.ensures.stay)

pub returns-clause-loose : goal.returns-clause-loose
returns-clause-loose c = subst (λ (v : View). LooseStay (memory_of v) (image_of c.drop_charged_space.new.self)) c.self.view_is c.drop_charged_space.ensures.loose
