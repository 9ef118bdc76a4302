-- Members of a set that make the same calls in two runs get the same replies, if outsiders use no channel.
use Rattle.authority_laws.proofs.Prelude.{◌≡◌, ℕ, ◌&&◌, Bool, true, false, List, [], ◌∷◌, refl, sym, ap, subst, ◌∙◌, arith, if◌then◌else◌, State, is_live, IsWellFormed, LooksSame, found, members_after, members_at_end, IsQuiet, Along, Heard, heard, AskAlike, MembersHearTheSame, HaveTheSame, KeepsWithin, IsFamily, FamiliesHearTheirOwn, exchanges, answer, next, end_of, Event, and_parts, kept-next, child_dead}
use Rattle.authority_laws.proofs.Outsiders.{outsiders_unseen}
use Rattle.authority_laws.proofs.Standings.{live_in}
use Rattle.authority_laws.proofs.Children.{places_stay}
use Rattle.authority_laws.proofs.Families.{next_family, others_leave, family_told, family_sees}
use Rattle.authority_laws.proofs.SeenTogether.{told_same, members_see_the_same}

-- ---- Looking the same, there and back

looks_back : (s t : State) (Q : ℕ → Bool) → LooksSame s t Q → LooksSame t s Q
looks_back s t Q l = grind arith

looks_on : (s t u : State) (Q : ℕ → Bool) → LooksSame s t Q → LooksSame t u Q → LooksSame s u Q
looks_on s t u Q l m = grind arith

-- ---- Who are members

abbrev AreLive : State → (ℕ → Bool) → Type 0
AreLive s Q = (q : ℕ) → Q q ≡ true → is_live s q ≡ true

-- who is live and a member still is after an outsider's event that leaves them live, and nobody else
module _ (s : State) (e : Event) (Q : ℕ → Bool) (out : Q e.pid ≡ false)
    (lives : (q : ℕ) → Q q ≡ true → is_live s q ≡ is_live (next s e) q) (members : AreLive s Q) where
  same_members : members_after s Q e ≡ Q
  same_members = λ i. λ p. each_same p (Q p) refl i
    where
      none : (a b : Bool) → (a && (if b then false else false)) ≡ false
      none a b = grind arith

      each_same : (p : ℕ) (c : Bool) → Q p ≡ c → members_after s Q e p ≡ Q p
      each_same p true is = grind arith
      each_same p false is = grind (arith, none)

members_live : (s : State) (e : Event) (Q : ℕ → Bool) → AreLive (next s e) (members_after s Q e)
members_live s e Q p h = (and_parts (is_live (next s e) p) (if is_live s p then Q p else Q e.pid) h).0

-- ---- Runs

nothing_heard : (xs : List Heard) → AskAlike [] xs → [] ≡ xs
nothing_heard [] h = refl
nothing_heard (x ∷ xs) h = absurd h

-- what is told of an event at the head of a run
abbrev first_of : State → Event → Heard
first_of s e = record { pid = e.pid; call = e.call; reply = answer s e; finds = found s e.call }

-- an event on another CPU
abbrev on_cpu : Event → ℕ → Event
on_cpu e k = record { cpu = k; pid = e.pid; call = e.call }

-- For a view of two states, a set that stands well in a state, and events that are good there: where views go there and
-- back and on, a member's good event is told the same and keeps the view, and an outsider's leaves it.
module _ (View : State → State → (ℕ → Bool) → Type 0) (Stands : State → (ℕ → Bool) → Type 0)
    (IsGood : State → (ℕ → Bool) → Event → Type 0)
    (alive : (s : State) (Q : ℕ → Bool) → Stands s Q → AreLive s Q)
    (lasts : (s : State) (Q : ℕ → Bool) (e : Event) → Stands s Q → IsGood s Q e
    → Stands (next s e) (members_after s Q e))
    (lives : (s t : State) (Q : ℕ → Bool) → View s t Q → (q : ℕ) → Q q ≡ true → is_live s q ≡ is_live t q)
    (back : (s t : State) (Q : ℕ → Bool) → View s t Q → View t s Q)
    (onward : (s t u : State) (Q : ℕ → Bool) → View s t Q → View t u Q → View s u Q)
    (told : (s t : State) (e : Event) (Q : ℕ → Bool) → View s t Q → IsGood s Q e → Q e.pid ≡ true
    → found s e.call ≡ found t e.call → answer s e ≡ answer t e)
    (sees : (s t : State) (e : Event) (Q : ℕ → Bool) → Stands s Q → Stands t Q → View s t Q → IsGood s Q e
    → Q e.pid ≡ true → found s e.call ≡ found t e.call → View (next s e) (next t e) (members_after s Q e))
    (leaves : (s : State) (e : Event) (Q : ℕ → Bool) → Stands s Q → IsGood s Q e → Q e.pid ≡ false
    → View s (next s e) Q)
    (anywhere : (s : State) (e : Event) (k : ℕ) (Q : ℕ → Bool) → IsGood s Q e → IsGood s Q (on_cpu e k)) where
  -- after a member's event who is a member in one run is one in the other
  module _ (s t : State) (e : Event) (Q : ℕ → Bool) (w : Stands s Q) (v : Stands t Q) (mine : Q e.pid ≡ true)
      (l : View s t Q) (good : IsGood s Q e) (finds : found s e.call ≡ found t e.call) where
    too : (p : ℕ) → members_after s Q e p ≡ true → members_after t Q e p ≡ true
    too p m = by (is_live s p) refl (and_parts (is_live (next s e) p) (if is_live s p then Q p else Q e.pid) m).1
      where
        now : is_live (next s e) p ≡ true
        now = members_live s e Q p m

        now_too : is_live (next t e) p ≡ true
        now_too = sym (lives (next s e) (next t e) (members_after s Q e) (sees s t e Q w v l good mine finds) p m)
            ∙ now

        by : (b : Bool) → is_live s p ≡ b → (if b then Q p else Q e.pid) ≡ true → members_after t Q e p ≡ true
        by b is old = grind (arith, now_too, places_stay, now, child_dead)

  -- the law, at the events of the first run
  abbrev Hear : List Event → Type 0
  Hear events = (s t : State) (Q : ℕ → Bool) (others : List Event) → Stands s Q → Stands t Q
      → View s t Q → Along IsGood s Q events → Along IsGood t Q others
      → AskAlike (heard s Q (exchanges s events)) (heard t Q (exchanges t others))
      → (heard s Q (exchanges s events) ≡ heard t Q (exchanges t others))
      × View (end_of s events) (end_of t others) (members_at_end s Q events)

  -- an outsider's event at the head of a run
  module _ (t : State) (o : Event) (os : List Event) (Q : ℕ → Bool) (v : Stands t Q) (out : Q o.pid ≡ false)
      (good : Along IsGood t Q (o ∷ os)) where
    unseen : View t (next t o) Q
    unseen = leaves t o Q v good.0 out

    same_set_then : members_after t Q o ≡ Q
    same_set_then = same_members t o Q out (lives t (next t o) Q unseen) (alive t Q v)

    good_later : Along IsGood (next t o) Q os
    good_later = subst (λ D. Along IsGood (next t o) D os) same_set_then good.1

    stands_later : Stands (next t o) Q
    stands_later = subst (λ D. Stands (next t o) D) same_set_then (lasts t Q o v good.0)

  -- a run of outsiders
  ends : (others : List Event) (s t : State) (Q : ℕ → Bool) → Stands t Q → View s t Q → Along IsGood t Q others
      → AskAlike [] (heard t Q (exchanges t others)) → View s (end_of t others) Q
  ends [] s t Q v l good alike = l
  ends (o ∷ os) s t Q v l good alike = grind (arith, stands_later, unseen, good_later, same_set_then, (ends os))

  -- a member's event at the head of the first run: the second comes to it
  module _ (events : List Event) (law : Hear events) (s : State) (e : Event) (Q : ℕ → Bool) (w : Stands s Q)
      (mine : Q e.pid ≡ true) (good : IsGood s Q e) (good_s : Along IsGood (next s e) (members_after s Q e) events)
    where
      abbrev first : List Heard
      first = first_of s e ∷ heard (next s e) (members_after s Q e) (exchanges (next s e) events)

      abbrev EndsWith : State → Type 0
      EndsWith u = View (end_of (next s e) events) u (members_at_end (next s e) (members_after s Q e) events)

      meets : (t : State) (o : Event) (os : List Event) → Stands t Q → View s t Q → IsGood t Q o
          → Along IsGood (next t o) (members_after t Q o) os
          → AskAlike first (first_of t o ∷ heard (next t o) (members_after t Q o) (exchanges (next t o) os))
          → (first ≡ first_of t o ∷ heard (next t o) (members_after t Q o) (exchanges (next t o) os))
          × EndsWith (end_of (next t o) os)
      meets t o os v l good_o good_t alike = (
        λ i. same_first i ∷ (later.0 ∙ sym heard_is) i,
        subst (λ (x : Event). EndsWith (end_of (next t x) os)) same_event later.1,
      )
        where
          -- the other's event, on this one's CPU
          same_event : e ≡ on_cpu o e.cpu
          same_event = λ i. record { cpu = e.cpu; pid = alike.0 i; call = alike.1 i }

          same_found : found s e.call ≡ found t o.call
          same_found = alike.2

          finds : found s e.call ≡ found t e.call
          finds = same_found ∙ sym (ap (found t) alike.1)

          reply : answer s e ≡ answer t o
          reply = told s t e Q l good mine finds ∙ ap (answer t) same_event

          same_first : first_of s e ≡ first_of t o
          same_first = λ i. record { pid = alike.0 i; call = alike.1 i; reply = reply i; finds = same_found i }

          after : View (next s e) (next t e) (members_after s Q e)
          after = sees s t e Q w v l good mine finds

          good_too : IsGood t Q e
          good_too = subst (IsGood t Q) (sym same_event) (anywhere t o e.cpu Q good_o)

          both : (p : ℕ) (a b : Bool) → members_after s Q e p ≡ a → members_after t Q e p ≡ b → a ≡ b
          both p _ _ x y = grind (arith, too)

          sets : members_after s Q e ≡ members_after t Q e
          sets = λ i. λ p. both p (members_after s Q e p) (members_after t Q e p) refl refl i

          heard_is : heard (next t o) (members_after t Q o) (exchanges (next t o) os) ≡ heard (next t e)
              (members_after s Q e) (exchanges (next t e) os)
          heard_is = ap (λ (x : Event). heard (next t x) (members_after t Q x) (exchanges (next t x) os))
              (sym same_event) ∙ ap (λ D. heard (next t e) D (exchanges (next t e) os)) (sym sets)

          later : (heard (next s e) (members_after s Q e) (exchanges (next s e) events) ≡ heard (next t e)
              (members_after s Q e) (exchanges (next t e) os)) × EndsWith (end_of (next t e) os)
          later = law (next s e) (next t e) (members_after s Q e) os (lasts s Q e w good)
              (subst (Stands (next t e)) (sym sets) (lasts t Q e v good_too)) after good_s
              (subst (λ D. Along IsGood (next t e) D os) (sym sets)
              (subst (λ (x : Event). Along IsGood (next t x) (members_after t Q x) os) (sym same_event) good_t))
              (subst (AskAlike (heard (next s e) (members_after s Q e) (exchanges (next s e) events))) heard_is
              (alike.3 same_first))

      comes : (others : List Event) (t : State) → Stands t Q → View s t Q → Along IsGood t Q others
          → AskAlike first (heard t Q (exchanges t others))
          → (first ≡ heard t Q (exchanges t others)) × EndsWith (end_of t others)
      comes [] t v l good_t alike = absurd alike
      comes (o ∷ os) t v l good_t alike = by (comes os) (Q o.pid) refl alike
        where
          by : ((t : State) → Stands t Q → View s t Q → Along IsGood t Q os
              → AskAlike first (heard t Q (exchanges t os))
              → (first ≡ heard t Q (exchanges t os)) × EndsWith (end_of t os))
              → (b : Bool) → Q o.pid ≡ b
              → AskAlike first (if b then first_of t o ∷ heard (next t o) (members_after t Q o)
              (exchanges (next t o) os) else heard (next t o) (members_after t Q o) (exchanges (next t o) os))
              → (first ≡ (if b then first_of t o ∷ heard (next t o) (members_after t Q o) (exchanges (next t o) os)
              else heard (next t o) (members_after t Q o) (exchanges (next t o) os))) × EndsWith (end_of (next t o) os)
          by go_on true is h = meets t o os v l good_t.0 good_t.1 h
          by go_on false out h =
              grind (
                arith,
                (same_set_then t o os Q v out good_t),
                (stands_later t o os Q v out good_t),
                (good_later t o os Q v out good_t),
                (unseen t o os Q v out good_t),
              )

  pub hear_the_same : (events : List Event) → Hear events
  hear_the_same [] s t Q others w v l good good_t alike = grind (arith, nothing_heard, ends)
  hear_the_same (e ∷ events) s t Q others w v l good good_t alike = by (hear_the_same events) (Q e.pid) refl alike
    where
      by : Hear events → (b : Bool) → Q e.pid ≡ b
          → AskAlike (if b then first_of s e ∷ heard (next s e) (members_after s Q e) (exchanges (next s e) events)
          else heard (next s e) (members_after s Q e) (exchanges (next s e) events)) (heard t Q (exchanges t others))
          → ((if b then first_of s e ∷ heard (next s e) (members_after s Q e) (exchanges (next s e) events)
          else heard (next s e) (members_after s Q e) (exchanges (next s e) events)) ≡ heard t Q (exchanges t others))
          × View (end_of (next s e) events) (end_of t others) (members_at_end (next s e) (members_after s Q e) events)
      by law true mine h = comes events law s e Q w mine good.0 good.1 others t v l good_t h
      by law false out h =
          grind (
            arith,
            (same_set_then s e events Q w out good),
            (stands_later s e events Q w out good),
            (good_later s e events Q w out good),
            (unseen s e events Q w out good),
          )

-- ---- What members see, where outsiders use no channel

abbrev IsWellSet : State → (ℕ → Bool) → Type 0
IsWellSet s Q = IsWellFormed s × AreLive s Q

pub members_hear_the_same : MembersHearTheSame
members_hear_the_same s events w t Q others v members l quiet quiet_t alike =
    (hear_the_same LooksSame IsWellSet IsQuiet (λ s Q x. x.1)
    (λ s Q e x good. ((kept-next s e x.0).0, members_live s e Q)) (λ s t Q l q h. ap live_in (l.standing q h)) looks_back looks_on
    (λ s t e Q l good mine finds. told_same s t e Q l mine finds)
    (λ s t e Q x y l good mine finds. members_see_the_same s t e Q x.0 y.0 l mine finds)
    (λ s e Q x good out. outsiders_unseen s e Q x.0 out good)
    (λ s e k Q good. good)
    events s t Q others (w, members) (v, λ q h. sym (ap live_in (l.standing q h)) ∙ members q h) l quiet quiet_t alike).0

-- ---- What a family has, whatever outsiders do

has_back : (s t : State) (Q : ℕ → Bool) → HaveTheSame s t Q → HaveTheSame t s Q
has_back s t Q l = grind arith

has_on : (s t u : State) (Q : ℕ → Bool) → HaveTheSame s t Q → HaveTheSame t u Q → HaveTheSame s u Q
has_on s t u Q l m = grind arith

abbrev IsWellFamily : State → (ℕ → Bool) → Type 0
IsWellFamily s Q = IsWellFormed s × IsFamily s Q

-- what it hears, and what it has at the end
pub families_hear : (s t : State) (C : ℕ → Bool) (events other : List Event) → IsWellFormed s → IsWellFormed t
    → IsFamily s C → IsFamily t C → HaveTheSame s t C
    → Along (λ _. KeepsWithin) s C events → Along (λ _. KeepsWithin) t C other
    → AskAlike (heard s C (exchanges s events)) (heard t C (exchanges t other))
    → (heard s C (exchanges s events) ≡ heard t C (exchanges t other))
    × HaveTheSame (end_of s events) (end_of t other) (members_at_end s C events)
families_hear s t C events others w v family family_t l within within_t alike =
    hear_the_same HaveTheSame IsWellFamily (λ _. KeepsWithin) (λ s Q x. x.1.live)
    (λ s Q e x keeps. ((kept-next s e x.0).0, next_family s e Q x.0 x.1 keeps)) (λ s t Q l q h. ap live_in (l.standing q h)) has_back has_on
    (λ s t e Q l keeps mine finds. family_told s t e Q l mine (keeps mine) finds)
    (λ s t e Q x y l keeps mine finds. family_sees s t e Q x.0 y.0 l mine (keeps mine) finds)
    (λ s e Q x keeps out. others_leave s e Q x.0 x.1 out)
    (λ s e k Q keeps. keeps)
    events s t C others (w, family) (v, family_t) l within within_t alike

pub families_hear_their_own : FamiliesHearTheirOwn
families_hear_their_own s events w t C others v family family_t l within within_t alike =
    (families_hear s t C events others w v family family_t l within within_t alike).0
