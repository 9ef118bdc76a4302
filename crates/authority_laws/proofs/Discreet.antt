-- Outsiders don't see what the members of a confined set have and do, except processes that are made and that end.
use Rattle.authority_laws.proofs.Prelude.{◌≡◌, ℕ, ◌&&◌, not, Bool, true, false, List, [], ◌∷◌, refl, sym, ap, subst, ◌∙◌, arith, if◌then◌else◌, some_value, Slot, State, is_live, IsWellFormed, members_after, IsUnseen, IsStranger, IsQuietCall, IsQuiet, Along, heard, AskAlike, IsConfined, keeps_within, IsDiscreet, OutsidersHearNothing, exchanges, answer_of, next, completes, child_free, fork_free, Call, Event, eqb-true, outside, next-stays, not-refused, kept-next, caller_live}
use Rattle.authority_laws.proofs.Confined.{next_confined}
use Rattle.authority_laws.proofs.Hearing.{members_hear_the_same}
use Rattle.kernel_calls.specs.declared.calls.Call.TheVariants as call

-- ---- One event of a member

module _ (s : State) (C Q : ℕ → Bool) (confined : IsConfined s C) (apart : (p : ℕ) → Q p ≡ true → C p ≡ false)
    (lives : (p : ℕ) → Q p ≡ true → is_live s p ≡ true) where
  no_member : (p : ℕ) → C p ≡ true → Q p ≡ false
  no_member p member = grind arith

  -- a member's page is seen by no outsider
  unseen : (slot : Slot) → C slot.pid ≡ true → IsUnseen s Q slot
  unseen slot member other shared seen = grind (arith, eqb-true, some_value)

  -- nobody outside has the number of a new child
  dead_out : (k : ℕ) → is_live s k ≡ false → Q k ≡ false
  dead_out k dead = grind arith

  quiet_call : (q : ℕ) (c : Call) → C q ≡ true → keeps_within C c ≡ true
      → (c ≡ call.Exit → IsStranger s (outside s C) q) → completes (answer_of s q c) ≡ true → IsQuietCall s Q q c
  quiet_call q c member within strange h =
      grind (arith, unseen, no_member, not-refused, some_value, dead_out, child_free, fork_free)

-- ---- Runs

-- a new process is made by a live one
maker_live : (s : State) (e : Event) (p : ℕ) → is_live s p ≡ false → is_live (next s e) p ≡ true
    → is_live s e.pid ≡ true
maker_live s e p free lives = grind (arith, caller_live, next-stays)

all_quiet : (events : List Event) (s : State) (C Q : ℕ → Bool) → IsWellFormed s → IsConfined s C
    → ((p : ℕ) → Q p ≡ true → C p ≡ false) → ((p : ℕ) → Q p ≡ true → is_live s p ≡ true)
    → ((p : ℕ) → is_live s p ≡ true → Q p ≡ false → C p ≡ true)
    → Along IsDiscreet s C events → Along IsQuiet s Q events
all_quiet [] s C Q w confined apart lives rest discreet = tt
all_quiet (e ∷ events) s C Q w confined apart lives rest discreet = (
  λ out done. (
      let live = caller_live s e done in
      let member = rest e.pid live.0 out in
      let kept = discreet.0 member in
      quiet_call s C Q confined apart lives e.pid e.call member kept.0 kept.1 live.1),
  all_quiet events (next s e) (members_after s C e) (members_after s Q e) (kept-next s e w).0
      (next_confined s e C (members_after s C e) w confined (λ member. (discreet.0 member).0)
      (λ p before after. (λ i. after i && (if before i then C p else C e.pid))))
      (λ p h. still_apart p (is_live (next s e) p) (is_live s p) h)
      (λ p h. first (is_live (next s e) p) (if is_live s p then Q p else Q e.pid) h)
      (λ p lives h. still_rest p lives (is_live s p) refl
      (sym (ap (λ b. b && (if is_live s p then Q p else Q e.pid)) lives) ∙ h))
      discreet.1,
)
  where
    first : (a b : Bool) → (a && b) ≡ true → a ≡ true
    first a b h = grind arith

    still_apart : (p : ℕ) (a b : Bool) → (a && (if b then Q p else Q e.pid)) ≡ true
        → (a && (if b then C p else C e.pid)) ≡ false
    still_apart p a b h = grind arith

    still_rest : (p : ℕ) → is_live (next s e) p ≡ true → (b : Bool) → is_live s p ≡ b
        → (if is_live s p then Q p else Q e.pid) ≡ false → members_after s C e p ≡ true
    still_rest p lives b is h = grind (arith, maker_live)

-- ---- From two states that look the same to outsiders

outside_live : (a b : Bool) → (a && not b) ≡ true → a ≡ true
outside_live a b h = grind arith

outside_rest : (a b : Bool) → a ≡ true → (a && not b) ≡ false → b ≡ true
outside_rest a b live h = grind arith

outside_quiet : (s : State) (C : ℕ → Bool) (events : List Event) → IsWellFormed s → IsConfined s C
    → Along IsDiscreet s C events → Along IsQuiet s (outside s C) events
outside_quiet s C events w confined discreet = grind (arith, all_quiet, outside_live, outside_rest)

pub outsiders_hear_nothing : OutsidersHearNothing
outsiders_hear_nothing s t C events others w v confined confined_t same l discreet discreet_t alike =
    members_hear_the_same s events w t (outside s C) others v (λ q h. outside_live (is_live s q) (C q) h) l
    (outside_quiet s C events w confined discreet)
    (subst (λ Q. Along IsQuiet t Q others) (sym sets) (outside_quiet t C others v confined_t discreet_t))
    (subst (λ Q. AskAlike (heard s (outside s C) (exchanges s events)) (heard t Q (exchanges t others))) (sym sets) alike)
    ∙ ap (λ Q. heard t Q (exchanges t others)) sets
  where
    sets : outside s C ≡ outside t C
    sets = λ i. λ p. same p i
