use Rattle.process_table.proofs.Prelude.{◌≡◌, ◌≢◌, ◌≤◌, ◌<◌, ◌+◌, ℕ, Ok, refl, ap, sym, subst, ◌∙◌, is_some, length, arith, no_value, image_of, is_lazy_at, cost, at_page, copied, directory_of, total_cost, cost-copied, cost-copied_other, quota_of, Containers, IsLive, total_used, used_of, split_answer, after_split, with_used, after_fork, memory_of, State, fork_answer, View, IsProcesses, state_of, stays_then}
use Rattle.process_table.proofs.Lemmas.{may_fork, fork-ok, fork-spawns, well_formed-fork, whole}
use Rattle.process_table.proofs.Spawns.{spawn-may, child-is, child-absent, child-has_none, nothing-mapped, room-child, charged-child, used-before}
use Rattle.page_words.specs.FiniteMap as map
use Rattle.address_space.specs.View as frames
use Rattle.process_table.proofs.processes.Processes.try_fork.Goals as goal

-- there are the frames that a copy is charged for
room : (v : frames.View) (q after : Containers) (p quota copy : ℕ) → IsProcesses v q → IsLive q 0 → split_answer q p quota ≡ Ok copy → after ≡ with_used (after_split q p quota copy) copy (used_of q p)
    → ((x : ℕ) → IsLive after x → x < 64) → total_used after ≤ quota_of after.book 0 → 1 + total_cost v.directories v.spaces + used_of q p ≤ length v.roles
room v q after p quota copy kept root split is numbers total =
    room-child v q p quota copy kept root split (after_split q p quota copy).used (used_of q p) (used-before q p quota copy)
    (λ x l. numbers x (ap (λ (y : Containers). map.contains_key y.book x) is ∙ l))
    (subst (λ (x : Containers). total_used x ≤ quota_of x.book 0) is total)

pub fork_as-requires-clause-live : goal.fork_as-requires-clause-live
fork_as-requires-clause-live c = grind (arith, fork-ok, c.in_ok-copy.ensures.copy)

pub fork_as-requires-clause-can : goal.fork_as-requires-clause-can
fork_as-requires-clause-can c =
    let s : State = state_of c.self.inside.spaces c.self.inside.quotas c.self.inside.offers in
    let is = ap (λ (v : View). fork_answer v.state c.args.pid c.args.quota) c.self.view_is ∙ c.in_ok-copy.ensures.copy in
    (spawn-may c.self.inside.spaces c.self.inside.quotas c.self.inside.offers c.args.pid c.args.quota c.in_ok-copy.copy c.self.invariant.kept (fork-spawns s c.args.pid c.args.quota c.in_ok-copy.copy is)).1

pub fork_as-requires-clause-large : goal.fork_as-requires-clause-large
fork_as-requires-clause-large c =
    let s : State = state_of c.self.inside.spaces c.self.inside.quotas c.self.inside.offers in
    let is = ap (λ (v : View). fork_answer v.state c.args.pid c.args.quota) c.self.view_is ∙ c.in_ok-copy.ensures.copy in
    let ok = fork-ok s c.args.pid c.args.quota c.in_ok-copy.copy is in
    omega (arith, c.self.invariant.kept.charged c.args.pid ok.0, (may_fork s c.args.pid c.args.quota ok.1).large)

pub fresh-requires-clause-none : goal.fresh-requires-clause-none
fresh-requires-clause-none c =
    let s : State = state_of c.self.inside.spaces c.self.inside.quotas c.self.inside.offers in
    let is = ap (λ (v : View). fork_answer v.state c.args.pid c.args.quota) c.self.view_is ∙ c.in_ok-copy.ensures.copy in
    let split = (spawn-may c.self.inside.spaces c.self.inside.quotas c.self.inside.offers c.args.pid c.args.quota c.in_ok-copy.copy c.self.invariant.kept (fork-spawns s c.args.pid c.args.quota c.in_ok-copy.copy is)).1 in
    child-has_none c.self.inside.spaces c.self.inside.quotas c.args.pid c.args.quota c.in_ok-copy.copy c.self.invariant.kept split

pub fresh-requires-clause-room : goal.fresh-requires-clause-room
fresh-requires-clause-room c =
    let s : State = state_of c.self.inside.spaces c.self.inside.quotas c.self.inside.offers in
    let is = ap (λ (v : View). fork_answer v.state c.args.pid c.args.quota) c.self.view_is ∙ c.in_ok-copy.ensures.copy in
    let ok = fork-ok s c.args.pid c.args.quota c.in_ok-copy.copy is in
    let split = (spawn-may c.self.inside.spaces c.self.inside.quotas c.self.inside.offers c.args.pid c.args.quota c.in_ok-copy.copy c.self.invariant.kept (fork-spawns s c.args.pid c.args.quota c.in_ok-copy.copy is)).1 in
    let there = room c.self.inside.spaces c.self.inside.quotas c.fork_as.new.self c.args.pid c.args.quota c.in_ok-copy.copy c.self.invariant.kept c.within.ensures.root split c.fork_as.ensures c.within-2.ensures.numbers c.within-2.ensures.total in
    omega (arith, there, c.within.ensures.used c.args.pid ok.0)

pub copy_charged_space-requires-clause-from : goal.copy_charged_space-requires-clause-from
copy_charged_space-requires-clause-from c =
    let q = c.self.inside.quotas in
    let p = c.args.pid in
    let copy = c.in_ok-copy.copy in
    let s : State = state_of c.self.inside.spaces c.self.inside.quotas c.self.inside.offers in
    let is = ap (λ (v : View). fork_answer v.state c.args.pid c.args.quota) c.self.view_is ∙ c.in_ok-copy.ensures.copy in
    let split = (spawn-may c.self.inside.spaces c.self.inside.quotas c.self.inside.offers c.args.pid c.args.quota c.in_ok-copy.copy c.self.invariant.kept (fork-spawns s c.args.pid c.args.quota c.in_ok-copy.copy is)).1 in
    let live = (fork-ok s p c.args.quota copy is).0 in
    let apart : p ≢ copy = (λ e. let f = sym live ∙ ap (map.contains_key q.book) e ∙ child-absent q p c.args.quota copy split in cc) in
    ap is_some (c.fresh.ensures.others p apart) ∙ c.self.invariant.kept.live p ∙ live

pub copy_charged_space-requires-clause-empty : goal.copy_charged_space-requires-clause-empty
copy_charged_space-requires-clause-empty c =
    let v = c.self.inside.spaces in
    let copy = c.in_ok-copy.copy in
    let s : State = state_of c.self.inside.spaces c.self.inside.quotas c.self.inside.offers in
    let is = ap (λ (v : View). fork_answer v.state c.args.pid c.args.quota) c.self.view_is ∙ c.in_ok-copy.ensures.copy in
    let split = (spawn-may c.self.inside.spaces c.self.inside.quotas c.self.inside.offers c.args.pid c.args.quota c.in_ok-copy.copy c.self.invariant.kept (fork-spawns s c.args.pid c.args.quota c.in_ok-copy.copy is)).1 in
    λ page. ap (λ S. map.get S (at_page copy page)) c.fresh.ensures.spaces
    ∙ no_value (map.get v.spaces (at_page copy page))
    (nothing-mapped (image_of v) v.spaces copy page c.stands.ensures.image
    (child-has_none v c.self.inside.quotas c.args.pid c.args.quota copy c.self.invariant.kept split))

pub copy_charged_space-requires-clause-room : goal.copy_charged_space-requires-clause-room
copy_charged_space-requires-clause-room c =
    let p = c.args.pid in
    let s : State = state_of c.self.inside.spaces c.self.inside.quotas c.self.inside.offers in
    let is = ap (λ (v : View). fork_answer v.state c.args.pid c.args.quota) c.self.view_is ∙ c.in_ok-copy.ensures.copy in
    let live = (fork-ok s p c.args.quota c.in_ok-copy.copy is).0 in
    let split = (spawn-may c.self.inside.spaces c.self.inside.quotas c.self.inside.offers c.args.pid c.args.quota c.in_ok-copy.copy c.self.invariant.kept (fork-spawns s c.args.pid c.args.quota c.in_ok-copy.copy is)).1 in
    let there = room c.self.inside.spaces c.self.inside.quotas c.fork_as.new.self c.args.pid c.args.quota c.in_ok-copy.copy c.self.invariant.kept c.within.ensures.root split c.fork_as.ensures c.within-2.ensures.numbers c.within-2.ensures.total in
    let costs = ap (λ S. cost S p) c.fresh.ensures.spaces in
    omega (arith, there, costs, c.self.invariant.kept.charged p live, c.fresh.ensures.costs, c.fresh.ensures.frames)

pub returns-clause-state : goal.returns-clause-state
returns-clause-state c =
    let v = c.self.inside.spaces in
    let q = c.self.inside.quotas in
    let p = c.args.pid in
    let s : State = state_of c.self.inside.spaces c.self.inside.quotas c.self.inside.offers in
    let is = ap (λ (v : View). fork_answer v.state c.args.pid c.args.quota) c.self.view_is ∙ c.in_ok-copy.ensures.copy in
    let split = (spawn-may c.self.inside.spaces c.self.inside.quotas c.self.inside.offers c.args.pid c.args.quota c.in_ok-copy.copy c.self.invariant.kept (fork-spawns s c.args.pid c.args.quota c.in_ok-copy.copy is)).1 in
    let child = child-is v q c.self.inside.offers p c.args.quota c.in_ok-copy.copy split in
    let spaces = c.copy_charged_space.ensures.spaces ∙ (λ i. copied (c.fresh.ensures.spaces i) p (sym child i)) in
    let book = ap (λ (x : Containers). x.book) c.fork_as.ensures ∙ ap (λ n. map.insert q.book n (record { parent = p; quota = c.args.quota })) (sym child) in
    λ done. (λ i. record { spaces = spaces i; book = book i; offers = c.self.inside.offers })
    ∙ ap (λ (v : View). after_fork v.state p c.args.quota) c.self.view_is

pub invariant_of-self : goal.invariant_of-self
invariant_of-self c =
    let v = c.self.inside.spaces in
    let w = c.copy_charged_space.new.self in
    let q = c.self.inside.quotas in
    let p = c.args.pid in
    let copy = c.in_ok-copy.copy in
    let s : State = state_of c.self.inside.spaces c.self.inside.quotas c.self.inside.offers in
    let is = ap (λ (v : View). fork_answer v.state c.args.pid c.args.quota) c.self.view_is ∙ c.in_ok-copy.ensures.copy in
    let ok = fork-ok s c.args.pid c.args.quota c.in_ok-copy.copy is in
    let split = (spawn-may c.self.inside.spaces c.self.inside.quotas c.self.inside.offers c.args.pid c.args.quota c.in_ok-copy.copy c.self.invariant.kept (fork-spawns s c.args.pid c.args.quota c.in_ok-copy.copy is)).1 in
    let child = child-is v q c.self.inside.offers p c.args.quota copy split in
    let spaces = c.copy_charged_space.ensures.spaces ∙ ap (λ S. copied S p copy) c.fresh.ensures.spaces in
    let book = ap (λ (x : Containers). x.book) c.fork_as.ensures ∙ ap (λ n. map.insert q.book n (record { parent = p; quota = c.args.quota })) (sym child) in
    let kept = subst (IsProcesses w) (sym c.fork_as.ensures)
    (charged-child v q p c.args.quota copy c.self.invariant.kept c.within.ensures.root split
    (after_split q p c.args.quota copy).used (used_of q p) (used-before q p c.args.quota copy)
    w (c.copy_charged_space.ensures.frames ∙ c.fresh.ensures.frames)
    (ap (λ ds. is_some (directory_of ds copy)) c.copy_charged_space.ensures.directories ∙ c.fresh.ensures.live)
    (λ x n. ap (λ ds. directory_of ds x) c.copy_charged_space.ensures.directories ∙ c.fresh.ensures.others x n)
    (c.self.invariant.kept.charged p ok.0 ∙ sym (ap (λ S. cost S copy) spaces ∙ cost-copied v.spaces p copy))
    (λ x n. ap (λ S. cost S x) spaces ∙ cost-copied_other v.spaces p copy x n)) in
    whole w c.fork_as.new.self c.self.inside.offers (after_fork s p c.args.quota) kept (spaces ∙ ap (copied v.spaces p) (sym child)) book refl
    (well_formed-fork s p c.args.quota c.self.invariant.well_formed ok.0 ok.1)

pub returns-clause-stay : goal.returns-clause-stay
returns-clause-stay c = grind (arith, stays_then, c.fresh.ensures.stay, c.copy_charged_space.ensures.stay)

pub returns-clause-lazy : goal.returns-clause-lazy
returns-clause-lazy c = λ copy page is.
    let e : c.in_ok-copy.copy ≡ copy = cc in
    subst (λ n. is_lazy_at (image_of c.copy_charged_space.new.self) (at_page n page) ≡ is_lazy_at (memory_of c.args.self.now) (at_page c.args.pid page)) e
    (c.copy_charged_space.ensures.lazy page ∙ c.fresh.ensures.lazy (at_page c.args.pid page)
    ∙ ap (λ (v : View). is_lazy_at (memory_of v) (at_page c.args.pid page)) c.self.view_is)
