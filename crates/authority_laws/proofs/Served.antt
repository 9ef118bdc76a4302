-- A call that would complete still completes in a run, after events of others.
use Rattle.authority_laws.proofs.Prelude.{◌≡◌, ℕ, zero, suc, ◌+◌, List, [], ◌∷◌, ◌++◌, take, drop, sym, ap, ◌∙◌, arith, Some, inl, inr, State, IsWellFormed, IsServed, answer, answers, end_of, completes, Event, answer_at, end_of-append, kept-run}
use Rattle.authority_laws.proofs.Availability.{runs_never_refuse}

take_none : (n : ℕ) → ◌≡◌ {A = List Event} (take n []) []
take_none n = grind arith

-- the first events, and those that come then
split : (k n : ℕ) (events : List Event) → take (k + n) events ≡ take k events ++ take n (drop k events)
split zero n events = let is : 0 + n ≡ n = omega arith in ap (λ m. take m events) is
split (suc k) n [] = take_none (suc k + n) ∙ sym (take_none n)
split (suc k) n (e ∷ events) =
    let is : suc k + n ≡ suc (k + n) = omega arith in
    ap (λ m. take m (e ∷ events)) is ∙ ap (λ xs. e ∷ xs) (split k n events)

pub runs_are_served : (s : State) (events : List Event) → IsWellFormed s → IsServed s events (answers s events)
runs_are_served s events w k n e r at told others done =
    let here = end_of s (take k events) in
    let later : end_of s (take (k + n) events) ≡ end_of here (take n (drop k events)) =
    ap (end_of s) (split k n events) ∙ end_of-append s (take k events) (take n (drop k events)) in
    let is : answer (end_of here (take n (drop k events))) e ≡ r =
    ap (λ t. answer t e) (sym later) ∙ answer_at (k + n) s events e r at told in
    elim (runs_never_refuse here (take n (drop k events)) e (kept-run s (take k events) w).0 others done) [
      | inl goes ↦ inl (ap completes (sym is) ∙ goes)
      | inr refused ↦ inr (refused ∙ ap Some is)
    ]
