-- Each event keeps states well formed and leaves the root's entry in the book, and so does every run.
use Rattle.kernel_calls.proofs.Prelude.{◌≡◌, ℕ, ◌+◌, true, refl, ap, ◌∙◌, List, [], ◌∷◌, ◌++◌, Option, None, unwrap_or, arith, option_map, Member, quota_of, Write, State, open_with, is_live, IsWellFormed, Cause, well_formed-fork, root-fork, well_formed-open, well_formed-unmap, well_formed-spawn, well_formed-exit, root-spawn, root-exit, total-within, well_formed-protect, well_formed-offer, well_formed-withdraw, well_formed-accept, plan_of, step_of, goes_on, Plan, ready, all_user, answer, answer_of, answers, after, next, end_of, completes, refused_or, planned_or, Call, Event, Reply, well_formed-map, well_formed-load, well_formed-store, RunsStayWellFormed}
use Rattle.kernel_calls.proofs.Decided.{by_next}
use Rattle.page_words.specs.FiniteMap as map
use Rattle.kernel_calls.specs.declared.calls.Call.TheVariants as call

-- ---- Runs, one behind another

pub answers-append : (s : State) (xs ys : List Event) → answers s (xs ++ ys) ≡ answers s xs ++ answers (end_of s xs) ys
answers-append s [] ys = refl
answers-append s (x ∷ xs) ys = ap (λ replies. answer s x ∷ replies) (answers-append (next s x) xs ys)

pub end_of-append : (s : State) (xs ys : List Event) → end_of s (xs ++ ys) ≡ end_of (end_of s xs) ys
end_of-append s [] ys = refl
end_of-append s (x ∷ xs) ys = end_of-append (next s x) xs ys

-- a call that completes has no cause to be refused
pub not-refused : (x : Option Cause) (r : Reply) → completes (refused_or x r) ≡ true → x ≡ None
not-refused x r h = grind arith

-- an access that completes goes on
pub went-on : (x : Plan) (r : Reply) → completes (planned_or x r) ≡ true → goes_on x ≡ true
went-on x r h = grind arith

-- a well formed state, whose root has the entry that it has in another
abbrev pub KeepsRoot : State → State → Type 0
KeepsRoot s t = IsWellFormed t × (map.get t.book 0 ≡ map.get s.book 0)

-- a call that completes keeps the state well formed, and the root's entry
ruleset kept-well = (not-refused, well_formed-map, well_formed-unmap, well_formed-protect, well_formed-offer, well_formed-withdraw, well_formed-accept, well_formed-spawn, well_formed-fork, well_formed-exit)

ruleset kept-root = (not-refused, root-spawn, root-fork, root-exit)

kept-call : (s : State) (p : ℕ) (c : Call) → IsWellFormed s → is_live s p ≡ true → completes (answer_of s p c) ≡ true → KeepsRoot s (after s p c)
kept-call s p (call.Load address size) w live h = grind (arith, ready, went-on, well_formed-load, all_user)
kept-call s p (call.Store address size value) w live h =
    let g = ready (step_of s p) s p address size Write (went-on (plan_of s p address size Write) _ h) in
    (well_formed-store s p address size value w live (all_user address size g.outside) g.room, refl)
kept-call s p _ w live h = (first_of (assumption, search kept-well), first_of (assumption, search kept-root))

pub kept-next : (s : State) (e : Event) → IsWellFormed s → KeepsRoot s (next s e)
kept-next s e w = by_next (KeepsRoot s) s e (w, refl) (kept-call s e.pid e.call w)

pub kept-run : (s : State) (events : List Event) → IsWellFormed s → KeepsRoot s (end_of s events)
kept-run s [] w = (w, refl)
kept-run s (e ∷ events) w =
    let a = kept-next s e w in
    let b = kept-run (next s e) events a.0 in
    (b.0, b.1 ∙ a.1)

pub runs-stay : RunsStayWellFormed
runs-stay n events two =
    let r = kept-run (open_with n) events (well_formed-open n two) in
    let most = total-within (end_of (open_with n) events) r.0 in
    let root : quota_of (end_of (open_with n) events).book 0 ≡ quota_of (open_with n).book 0 = ap (λ o. unwrap_or (option_map (λ (m : Member). m.quota) o) 0) r.1 in
    let opening : quota_of (open_with n).book 0 + 1 ≡ n = omega (arith, two) in
    (r.0, omega (arith, most, root, opening))
