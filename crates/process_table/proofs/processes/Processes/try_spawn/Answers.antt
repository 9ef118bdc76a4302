use Rattle.process_table.proofs.Prelude.{◌≡◌, ◌≤◌, refl, ap, sym, subst, ◌∙◌, arith, Ok, IsOk, cost, quota_of, Containers, total_used, after_split, spawn_answer, after_spawn, View, IsProcesses, state_of, State}
use Rattle.process_table.proofs.Spawns.{spawn-may, child-is, child-has_none, room-child, charged-child, cost-child}
use Rattle.process_table.proofs.Keeping.{whole, keeps-spawn}
use Rattle.page_words.specs.FiniteMap as map
use Rattle.process_table.proofs.processes.Processes.try_spawn.Goals as goal

pub split_as-requires-clause-live : goal.split_as-requires-clause-live
split_as-requires-clause-live c = grind (arith, spawn-may, c.self.invariant.kept, (sym c.can_spawn.ensures ∙ c.in_ok-number.was))

pub split_as-requires-clause-can : goal.split_as-requires-clause-can
split_as-requires-clause-can c =
    (spawn-may c.self.inside.spaces c.self.inside.quotas c.self.inside.offers c.args.pid c.args.quota c.in_ok-number.number c.self.invariant.kept
    (ap (λ (v : View). spawn_answer v.state c.args.pid c.args.quota) c.self.view_is ∙ (sym c.can_spawn.ensures ∙ c.in_ok-number.was))).1

pub fresh-requires-clause-none : goal.fresh-requires-clause-none
fresh-requires-clause-none c =
    let may = spawn-may c.self.inside.spaces c.self.inside.quotas c.self.inside.offers c.args.pid c.args.quota c.in_ok-number.number c.self.invariant.kept
    (ap (λ (v : View). spawn_answer v.state c.args.pid c.args.quota) c.self.view_is ∙ (sym c.can_spawn.ensures ∙ c.in_ok-number.was)) in
    child-has_none c.self.inside.spaces c.self.inside.quotas c.args.pid c.args.quota c.in_ok-number.number c.self.invariant.kept may.1

pub fresh-requires-clause-room : goal.fresh-requires-clause-room
fresh-requires-clause-room c =
    let q = c.self.inside.quotas in
    let after : Containers = after_split q c.args.pid c.args.quota c.in_ok-number.number in
    let is : c.split_as.new.self ≡ after = c.split_as.ensures in
    let may = spawn-may c.self.inside.spaces c.self.inside.quotas c.self.inside.offers c.args.pid c.args.quota c.in_ok-number.number c.self.invariant.kept
    (ap (λ (v : View). spawn_answer v.state c.args.pid c.args.quota) c.self.view_is ∙ (sym c.can_spawn.ensures ∙ c.in_ok-number.was)) in
    let room = room-child c.self.inside.spaces q c.args.pid c.args.quota c.in_ok-number.number c.self.invariant.kept c.within.ensures.root may.1
    q.used 1 (λ q n. refl)
    (λ p l. c.within-2.ensures.numbers p (ap (λ (x : Containers). map.contains_key x.book p) is ∙ l))
    (subst (λ (x : Containers). total_used x ≤ quota_of x.book 0) is c.within-2.ensures.total)
    in
    omega (arith, room)

pub returns-clause-state : goal.returns-clause-state
returns-clause-state c =
    let q = c.self.inside.quotas in
    let may = spawn-may c.self.inside.spaces c.self.inside.quotas c.self.inside.offers c.args.pid c.args.quota c.in_ok-number.number c.self.invariant.kept
    (ap (λ (v : View). spawn_answer v.state c.args.pid c.args.quota) c.self.view_is ∙ (sym c.can_spawn.ensures ∙ c.in_ok-number.was)) in
    let child = child-is c.self.inside.spaces q c.self.inside.offers c.args.pid c.args.quota c.in_ok-number.number may.1 in
    let book = ap (λ (x : Containers). x.book) c.split_as.ensures ∙ ap (λ n. map.insert q.book n (record { parent = c.args.pid; quota = c.args.quota })) (sym child) in
    λ done. (λ i. record { spaces = c.fresh.ensures.spaces i; book = book i; offers = c.self.inside.offers })
    ∙ ap (λ (v : View). after_spawn v.state c.args.pid c.args.quota) c.self.view_is

pub invariant_of-self : goal.invariant_of-self
invariant_of-self c =
    let v = c.self.inside.spaces in
    let q = c.self.inside.quotas in
    let o = c.self.inside.offers in
    let s : State = state_of v q o in
    let p = c.args.pid in
    let child = c.in_ok-number.number in
    let may_spawn : spawn_answer s p c.args.quota ≡ Ok child = ap (λ (v : View). spawn_answer v.state p c.args.quota) c.self.view_is ∙ (sym c.can_spawn.ensures ∙ c.in_ok-number.was) in
    let split = (spawn-may v q o p c.args.quota child c.self.invariant.kept may_spawn).1 in
    let is = child-is v q o p c.args.quota child split in
    let book = ap (λ (x : Containers). x.book) c.split_as.ensures ∙ ap (λ n. map.insert q.book n (record { parent = p; quota = c.args.quota })) (sym is) in
    let none = child-has_none v q p c.args.quota child c.self.invariant.kept split in
    let kept = subst (IsProcesses c.fresh.new.self) (sym c.split_as.ensures)
    (charged-child v q p c.args.quota child c.self.invariant.kept c.within.ensures.root split
    q.used 1 (λ q n. refl) c.fresh.new.self c.fresh.ensures.frames c.fresh.ensures.live c.fresh.ensures.others
    (sym (ap (λ S. cost S child) c.fresh.ensures.spaces ∙ cost-child v child c.stands.ensures.image none))
    (λ q n. ap (λ S. cost S q) c.fresh.ensures.spaces)) in
    whole c.fresh.new.self c.split_as.new.self o (after_spawn s p c.args.quota) kept c.fresh.ensures.spaces book refl
    (keeps-spawn s p c.args.quota c.self.invariant.well_formed (subst IsOk (sym may_spawn) refl))

pub returns-clause-stay : goal.returns-clause-stay
returns-clause-stay c = grind (arith, c.fresh.ensures.stay)
