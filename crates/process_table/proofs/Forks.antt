-- What the test of a fork answers, and what a copy of a process leaves of charges and of states.
use Rattle.process_table.proofs.Prelude.{◌≡◌, ◌≢◌, ℕ, ◌+◌, ◌≤◌, ◌==◌, Bool, true, false, cond, refl, sym, ap, subst, ◌∙◌, inl, inr, Option, Some, None, unwrap_or, is_some, is_none, Ok, arith, if◌then◌else◌, nat_lt, option_map, cases_eq, same_Some, nat_order, same_itself, get-insert, some_value, no_value, Slot, Cell, Spaces, cost, copy_of, copied, at_page, copied-own, copied-other, cost-copied, cost-copied_other, given, quota_of, next_number, child_no, State, is_live, room, child_of, spawn_refusal, fork_refusal, after_spawn, after_fork, child_unless, for_copy, spawn_answer, fork_answer, IsCellAt, IsWellFormed, Cause, given-insert, given-none}
use Rattle.process_table.proofs.BookLaws.{next_free, well_formed-spawn, root-spawn}
use Rattle.process_table.proofs.CellLaws.{cell-kept, AreCells, lone-cell}
use Rattle.process_table.proofs.SpaceLaws.{not_less, with-spaces}
use Rattle.page_words.specs.FiniteMap as map
use Rattle.process_table.specs.declared.causes.Cause.TheVariants as cause

-- ---- The test

-- a fork's test answers as a spawn's does, but for a quota that is too small
pub fork-by : (s : State) (p quota : ℕ) → is_live s p ≡ true → fork_answer s p quota ≡ for_copy (nat_lt quota (cost s.spaces p)) (spawn_answer s p quota)
fork-by s p quota live =
    ap (λ b. child_unless (if b then fork_refusal s p quota else Some cause.NoProcess) (child_of s)) live
    ∙ by (quota == 0) (next_number s.book) (nat_lt quota (cost s.spaces p)) (nat_lt (room s p) quota)
    ∙ sym (ap (λ b. for_copy (nat_lt quota (cost s.spaces p)) (child_unless (if b then spawn_refusal s p quota else Some cause.NoProcess) (child_of s))) live)
  where
    by : (none : Bool) (next : Option ℕ) (small over : Bool)
        → child_unless (if none then Some cause.BadQuota else if is_none next then Some cause.TableFull else if small then Some cause.TooSmall else if over then Some cause.Quota else None) (child_of s)
        ≡ for_copy small (child_unless (if none then Some cause.BadQuota else if is_none next then Some cause.TableFull else if over then Some cause.Quota else None) (child_of s))
    by none next small over = grind arith

-- a process may be copied: what it tells
pub record MayFork (s : State) (p quota : ℕ) : Type 0 where
  pub number : ℕ
  pub next : next_number s.book ≡ Some number
  pub spawn : spawn_refusal s p quota ≡ None
  pub large : cost s.spaces p ≤ quota

pub may_fork : (s : State) (p quota : ℕ) → fork_refusal s p quota ≡ None → MayFork s p quota
may_fork s p quota h = by (quota == 0) (next_number s.book) (nat_lt quota (cost s.spaces p)) (nat_lt (room s p) quota) refl refl refl refl h
  where
    by : (none : Bool) (next : Option ℕ) (small over : Bool) → (quota == 0) ≡ none → next_number s.book ≡ next → nat_lt quota (cost s.spaces p) ≡ small → nat_lt (room s p) quota ≡ over
        → (if none then Some cause.BadQuota else if is_none next then Some cause.TableFull else if small then Some cause.TooSmall else if over then Some cause.Quota else None) ≡ None → MayFork s p quota
    by true next small over a b c d h = cc
    by false None small over a b c d h = cc
    by false (Some k) true over a b c d h = cc
    by false (Some k) false true a b c d h = cc
    by false (Some k) false false a b c d h = record {
      number = k;
      next = b;
      spawn = λ i. if a i then Some cause.BadQuota else if is_none (b i) then Some cause.TableFull else if d i then Some cause.Quota else None;
      large = not_less quota (cost s.spaces p) c;
    }

-- where the test is Ok, the process is live and nothing is against it
pub fork-ok : (s : State) (p quota child : ℕ) → fork_answer s p quota ≡ Ok child → (is_live s p ≡ true) × (fork_refusal s p quota ≡ None)
fork-ok s p quota child is = by (is_live s p) (fork_refusal s p quota) is refl refl
  where
    by : (live : Bool) (x : Option Cause) → child_unless (if live then x else Some cause.NoProcess) (child_of s) ≡ Ok child → is_live s p ≡ live → fork_refusal s p quota ≡ x → (is_live s p ≡ true) × (fork_refusal s p quota ≡ None)
    by true None h live is = (live, is)
    by true (Some c) h live is = cc
    by false x h live is = cc

-- and a spawn may be then, of the same child
pub fork-spawns : (s : State) (p quota child : ℕ) → fork_answer s p quota ≡ Ok child → spawn_answer s p quota ≡ Ok child
fork-spawns s p quota child is =
    let ok = fork-ok s p quota child is in
    (λ i. child_unless (if ok.0 i then (may_fork s p quota ok.1).spawn i else Some cause.NoProcess) (child_of s))
    ∙ sym (λ i. child_unless (if ok.0 i then ok.1 i else Some cause.NoProcess) (child_of s)) ∙ is

-- ---- States

-- the number of the child is not in use
child-free : (s : State) (p quota : ℕ) → fork_refusal s p quota ≡ None → map.contains_key s.book (child_of s) ≡ false
child-free s p quota allowed =
    let may = may_fork s p quota allowed in
    ap (map.contains_key s.book) (ap (λ o. unwrap_or o 0) may.next) ∙ (next_free s.book may.number may.next).1

-- a process that is copied costs what it did
pub fork-cost : (s : State) (p quota : ℕ) → is_live s p ≡ true → fork_refusal s p quota ≡ None → cost (after_fork s p quota).spaces p ≡ cost s.spaces p
fork-cost s p quota live allowed =
    cost-copied_other s.spaces p (child_of s) p (λ same. let f = child-free s p quota allowed in let t : map.contains_key s.book (child_of s) ≡ true = ap (map.contains_key s.book) (sym same) ∙ live in cc)

module _ (s : State) (p quota : ℕ) (w : IsWellFormed s) (live : is_live s p ≡ true) (allowed : fork_refusal s p quota ≡ None) where
  may : MayFork s p quota
  may = may_fork s p quota allowed

  abbrev child : ℕ
  child = child_of s

  -- the state with the child, before it has pages
  abbrev spawned : State
  spawned = after_spawn s p quota

  spawned-well : IsWellFormed spawned
  spawned-well = well_formed-spawn s p quota w live may.spawn

  abbrev T : Spaces
  T = copied s.spaces p child

  absent : map.contains_key s.book child ≡ false
  absent = child-free s p quota allowed

  live_apart : (q : ℕ) → is_live s q ≡ true → q ≢ child
  live_apart q h e = let f = absent in let t : map.contains_key s.book child ≡ true = ap (map.contains_key s.book) (sym e) ∙ h in cc

  -- what was mapped is not the child's
  old_slot : (slot : Slot) (c : Cell) → map.get s.spaces slot ≡ Some c → map.get T slot ≡ Some c
  old_slot slot c h = copied-other s.spaces p child slot (live_apart slot.pid (w.owners slot c h)) ∙ h

  -- the child gives nothing
  given_child : given spawned.book child ≡ 0
  given_child =
      let none = no_value (map.get s.book child) absent in
      let a = given-insert s.book child (record { parent = p; quota = quota }) none child ∙ ap (λ b. cond b quota 0 + given s.book child) (child_no p child child quota (live_apart p live)) in
      let b = given-none s.book child none (λ q member h. some_value (map.get s.book member.parent) (w.processes q member h).1) in
      omega (arith, a, b)

  quota_child : quota_of spawned.book child ≡ quota
  quota_child = search (get-insert, same_itself, arith)

  rooms : (q : ℕ) → is_live spawned q ≡ true → cost T q + given spawned.book q ≤ quota_of spawned.book q
  rooms q h = elim (cases_eq q child) [
    | inl same ↦ grind (arith, cost-copied, given_child, quota_child, may)
    | inr differ ↦ (let a = cost-copied_other s.spaces p child q differ in let b = spawned-well.rooms q h in omega (arith, a, b))
  ]

  owners : (slot : Slot) (cell : Cell) → map.get T slot ≡ Some cell → is_live spawned slot.pid ≡ true
  owners slot cell h = elim (cases_eq slot.pid child) [
    | inl same ↦ ap (map.contains_key spawned.book) same ∙ ap is_some (get-insert s.book child (record { parent = p; quota = quota }) child ∙ ap (λ b. cond b (Some (record { parent = p; quota = quota })) (map.get s.book child)) (same_itself nat_order child))
    | inr differ ↦ spawned-well.owners slot cell (sym (copied-other s.spaces p child slot differ) ∙ h)
  ]

  -- the child's cells, each a copy
  own_cell : (page : ℕ) (cell : Cell) (x : Option Cell) → map.get s.spaces (at_page p page) ≡ x → option_map (copy_of (at_page child page)) x ≡ Some cell → IsCellAt T (at_page child page) cell
  own_cell page cell None from h = cc
  own_cell page cell (Some c) from h =
      let was = w.cells (at_page p page) c from in
      let slot : Slot = at_page child page in
      let copy : Cell = copy_of slot c in
      let there : map.get T slot ≡ Some copy = copied-own s.spaces p child page ∙ ap (option_map (copy_of slot)) from in
      subst (IsCellAt T slot) (same_Some copy cell h)
      (lone-cell T slot copy there was.user was.long was.small was.write_may (λ d. absurd (let x : false ≡ true = d in cc)) refl)

  old_cell : (slot : Slot) (cell : Cell) → map.get s.spaces slot ≡ Some cell → IsCellAt T slot cell
  old_cell slot cell h =
      let was = w.cells slot cell h in
      cell-kept T slot cell cell.holders was was.own
      (λ other inside. let o = was.alike other inside in (o.0, old_slot other o.0 o.1, o.2, o.3))

  cells : AreCells T
  cells slot cell h = elim (cases_eq slot.pid child) [
    | inl same ↦
        let here : slot ≡ at_page child slot.page = (λ i. record { pid = same i; page = slot.page }) in
        subst (λ (x : Slot). IsCellAt T x cell) (sym here)
        (own_cell slot.page cell (map.get s.spaces (at_page p slot.page)) refl (sym (copied-own s.spaces p child slot.page) ∙ ap (map.get T) (sym here) ∙ h))
    | inr differ ↦ old_cell slot cell (sym (copied-other s.spaces p child slot differ) ∙ h)
  ]

  -- a fork that is not refused
  pub well_formed-fork : IsWellFormed (after_fork s p quota)
  well_formed-fork = with-spaces spawned T spawned-well rooms owners cells (λ slot c h. (c, old_slot slot c h, refl))

  -- it leaves the root's entry
  pub root-fork : map.get (after_fork s p quota).book 0 ≡ map.get s.book 0
  root-fork = root-spawn s p quota w live may.spawn
