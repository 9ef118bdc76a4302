-- What each call leaves of the charges, and that the frames it needs are there.
use Rattle.process_table.proofs.Prelude.{◌≡◌, ◌≢◌, ℕ, ◌+◌, ◌<◌, ◌≤◌, true, false, cond, not, ap, ◌∙◌, Some, None, unwrap_or, is_some, length, arith, same, nat_order, same_or_not, same_itself, get-insert, get-retain_keys, cost, without, is_of, directory_of, live_cost, total_cost, sum_one, cost-without_other, quota_of, State, container_of, IsProcesses, ne_eqb, Containers, IsLive, used_of, with_used, after_close, total_used}
use Rattle.quota_tree.specs.declared.Container.{Container}
use Rattle.process_table.proofs.Ranges.{found, sum-range}
use Rattle.page_words.specs.FiniteMap as map
use Rattle.address_space.specs.View as frames

-- ---- The costs of processes that do not act

-- ---- What is used, after a change

pub used-itself : (c : Containers) (p u : ℕ) → used_of (with_used c p u) p ≡ u
used-itself c p u = ap (λ x. unwrap_or x 0) (get-insert c.used p u p ∙ ap (λ b. cond b (Some u) (map.get c.used p)) (same_itself nat_order p))

pub used-other : (c : Containers) (p u q : ℕ) → same nat_order q p ≡ false → used_of (with_used c p u) q ≡ used_of c q
used-other c p u q n = ap (λ x. unwrap_or x 0) (get-insert c.used p u q ∙ ap (λ b. cond b (Some u) (map.get c.used q)) n)

pub differ : (q p : ℕ) → same nat_order q p ≡ false → q ≢ p
differ q p n e = let a : same nat_order q p ≡ true = ap (λ x. same nat_order x p) e ∙ same_itself nat_order p in cc

-- a process is charged what it costs now, and the others cost what they did
pub charged-one : (v w : frames.View) (c : Containers) (p u : ℕ) → IsProcesses v c → w.directories ≡ v.directories → length w.roles ≡ length v.roles
    → u ≡ cost w.spaces p → ((q : ℕ) → q ≢ p → cost w.spaces q ≡ cost v.spaces q) → IsProcesses w (with_used c p u)
charged-one v w c p u kept dirs long own others = grind (arith, same_or_not, used-itself, used-other, differ)

-- no process's cost changed
pub charged-same : (v w : frames.View) (c : Containers) → IsProcesses v c → w.directories ≡ v.directories → length w.roles ≡ length v.roles
    → ((q : ℕ) → cost w.spaces q ≡ cost v.spaces q) → IsProcesses w c
charged-same v w c kept dirs long same_costs = grind arith

-- ---- Room

-- where charges that are one process's k more stay within the root's quota, there are k frames more
pub room-for : (v : frames.View) (c c' : Containers) (p k : ℕ) → IsProcesses v c → p < 64
    → ((q : ℕ) → map.contains_key c'.book q ≡ true → q < 64)
    → found (λ _. used_of c' p) (map.get c'.book p) ≡ live_cost (directory_of v.directories) v.spaces p + k
    → ((q : ℕ) → q ≢ p → map.get c'.book q ≡ map.get c.book q) → ((q : ℕ) → q ≢ p → used_of c' q ≡ used_of c q)
    → quota_of c'.book 0 ≡ quota_of c.book 0 → total_used c' ≤ quota_of c'.book 0
    → 1 + total_cost v.directories v.spaces + k ≤ length v.roles
unfolding total_cost
room-for v c c' p k kept low small own members used root within =
    let range = sum-range c'.book (λ q _. used_of c' q) 64 (λ q x is. small q (ap is_some is)) in
    let is = kept.root in
    omega (arith, sum_one after before p k 0 64 (omega arith) (omega (arith, low)) own others, range, is, root, within)
  where
    after : ℕ → ℕ
    after q = found (λ _. used_of c' q) (map.get c'.book q)

    before : ℕ → ℕ
    before = live_cost (directory_of v.directories) v.spaces

    others : (q : ℕ) → q ≢ p → after q ≡ before q
    others q n = grind (arith, found)

-- a live process was charged for k frames more
pub room-taken : (v : frames.View) (c c' : Containers) (p k : ℕ) → IsProcesses v c → IsLive c p → c' ≡ with_used c p (used_of c p + k)
    → ((q : ℕ) → map.contains_key c'.book q ≡ true → q < 64) → total_used c' ≤ quota_of c'.book 0
    → 1 + total_cost v.directories v.spaces + k ≤ length v.roles
room-taken v c c' p k kept live is small within =
    room-for v c c' p k kept (small p (ap (λ (x : Containers). map.contains_key x.book p) is ∙ live)) small
    (grind (arith, found, used-itself))
    (λ q n. ap (λ (x : Containers). map.get x.book q) is)
    (λ q n. ap (λ x. used_of x q) is ∙ used-other c p (used_of c p + k) q (grind (arith, same_or_not)))
    (ap (λ (x : Containers). quota_of x.book 0) is) within

-- ---- A process that is gone

removed-other : {X : Type 0} (m : map.Map nat_order X) (p q : ℕ) → same nat_order p q ≡ false → map.get (map.remove m p) q ≡ map.get m q
removed-other m p q n = get-retain_keys m (λ j. not (same nat_order p j)) q ∙ ap (λ b. cond (not b) (map.get m q) None) n

removed-itself : {X : Type 0} (m : map.Map nat_order X) (p : ℕ) → map.get (map.remove m p) p ≡ None
removed-itself m p = get-retain_keys m (λ j. not (same nat_order p j)) p ∙ ap (λ b. cond (not b) (map.get m p) None) (same_itself nat_order p)

differ-back : (p q : ℕ) → same nat_order p q ≡ false → q ≢ p
differ-back p q n e = let a : same nat_order p q ≡ true = ap (same nat_order p) e ∙ same_itself nat_order p in cc

pub charged-exit : (v w : frames.View) (c : Containers) (p : ℕ) → IsProcesses v c → p ≢ 0 → w.spaces ≡ without v.spaces (is_of p) → length w.roles ≡ length v.roles
    → directory_of w.directories p ≡ None → ((q : ℕ) → q ≢ p → directory_of w.directories q ≡ directory_of v.directories q) → IsProcesses w (after_close c p)
charged-exit v w c p kept child spaces long none others =
    grind (arith, same_or_not, removed-itself, differ-back, removed-other, cost-without_other, ne_eqb)

-- ---- Readings of a cell

-- a live process's container tells its cost
pub used-container : (s : State) (p : ℕ) (c : Container) → container_of s p ≡ Some c → c.used ≡ cost s.spaces p
used-container s p c is = grind arith
