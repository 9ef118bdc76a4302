-- Guests of one program that find the same, over processes that see the same, get the same replies and end the same.
use Rattle.std.proofs.Common.{◌≡◌, ℕ, zero, suc, ◌==◌, Bool, true, false, List, [], ◌∷◌, refl, sym, ap, subst, ◌∙◌, Option, Some, None}
use Rattle.std.specs.Prelude.{slice_get}
use Rattle.std.proofs.lemmas.Option.{same_Some}
use Rattle.authority_laws.specs.Authority.{AskAlike, Heard, heard}
use Rattle.kernel_calls.specs.Isolation.{exchanges}
use Rattle.kernel_calls.specs.declared.calls.Event.{Event}
use Rattle.kernel_calls.specs.declared.calls.Reply.{Reply}
use Rattle.authority_laws.proofs.Hearing.{members_hear_the_same, families_hear_their_own}
use Rattle.process_table.specs.State.{is_live}
use Rattle.guest_cpu.specs.declared.instructions.Instruction.{Instruction}
use Rattle.guest_cpu.specs.declared.runs.End.{End}
use Rattle.guest_cpu.specs.Guests.{GuestView, event_asked, value_of, after}
use Rattle.guest_cpu.specs.Laws.{event_told, events_told, answers_told, founds, GuestsHearTheSame, GuestsAreUnreached}
use Rattle.guest_cpu.specs.Ports.{Answer}
use Rattle.guest_cpu.specs.Runs.{IsRun}
use Rattle.guest_cpu.proofs.RunLemmas.{Outcome, in_front, is_last, replied, answered, quiet, acted, stepped, stood, follow, followed, determined}
use borrow.Author.Tests.{eqb-true}

abbrev Ended : Type 0
Ended = End × GuestView

-- ---- Lists that are empty, their heads and what is behind

abbrev head_or : Event → List Event → Event
head_or d [] = d
head_or d (e ∷ es) = e

abbrev tail_of : List Event → List Event
tail_of [] = []
tail_of (e ∷ es) = es

abbrev first_or : Option ℕ → List (Option ℕ) → Option ℕ
first_or d [] = d
first_or d (n ∷ ns) = n

abbrev rest_of : List (Option ℕ) → List (Option ℕ)
rest_of [] = []
rest_of (n ∷ ns) = ns

empty : (n : ℕ) (xs : List Heard) → [] ≡ events_told n xs → xs ≡ []
empty n [] h = refl
empty n (x ∷ xs) h = cc

-- where nothing was asked, nothing is
both_empty : (n : ℕ) (xs ys : List Heard) → [] ≡ events_told n xs → [] ≡ events_told n ys → AskAlike xs ys
both_empty n xs ys h k = subst (λ zs. AskAlike zs ys) (sym (empty n xs h)) (subst (λ zs. AskAlike [] zs) (sym (empty n ys k)) tt)

no_more : (n : ℕ) (xs : List Heard) (x y : Ended) → ◌≡◌ {A = Outcome} (Some ([], x)) (Some (events_told n xs, y)) → [] ≡ events_told n xs
no_more n xs x y h = ap (λ (p : List Event × Ended). p.0) (same_Some ([], x) (events_told n xs, y) h)

-- what follows an event
behind : (event : Event) (o : Outcome) (events : List Event) (x : Ended) → in_front (event ∷ []) o ≡ Some (events, x)
    → (es : List Event) × (y : Ended) × (o ≡ Some (es, y)) × (event ∷ es ≡ events)
behind event None events x h = cc
behind event (Some p) events x h = (p.0, p.1, refl, ap (λ (q : List Event × Ended). q.0) (same_Some (event ∷ p.0, p.1) (events, x) h))

-- ---- A turn, where the turns after it ask alike

module _ (n : ℕ) (rest : GuestView → List Answer → Outcome)
    (law : (g : GuestView) (xs ys : List Heard) (x y : Ended) → rest g (answers_told xs) ≡ Some (events_told n xs, x) → rest g (answers_told ys) ≡ Some (events_told n ys, y)
    → founds xs ≡ founds ys → AskAlike xs ys) where
  -- the event that is asked
  first_event : (i : Instruction) (g : GuestView) (event : Event) (r : Reply) (more : List Answer) (v : Option ℕ) (e : Event) (es : List Event) (x : Ended)
      → replied rest i g event r more v ≡ Some (e ∷ es, x) → event ≡ e
  first_event i g event r more None e es x h = ap (λ (q : List Event × Ended). head_or e q.0) (same_Some _ (e ∷ es, x) h)
  first_event i g event r more (Some v) e es x h = let b = behind event (rest (after g i v) more) (e ∷ es) x h in ap (head_or e) b.3

  -- and what is behind it
  later : (i : Instruction) (g : GuestView) (event : Event) (r : Reply) (v : Option ℕ) (e : Event) (xs ys : List Heard) (x y : Ended)
      → replied rest i g event r (answers_told xs) v ≡ Some (e ∷ events_told n xs, x) → replied rest i g event r (answers_told ys) v ≡ Some (e ∷ events_told n ys, y)
      → founds xs ≡ founds ys → AskAlike xs ys
  later i g event r None e xs ys x y h k f = both_empty n xs ys
      (ap (λ (q : List Event × Ended). tail_of q.0) (same_Some _ (e ∷ events_told n xs, x) h))
      (ap (λ (q : List Event × Ended). tail_of q.0) (same_Some _ (e ∷ events_told n ys, y) k))
  later i g event r (Some v) e xs ys x y h k f =
      let a = behind event (rest (after g i v) (answers_told xs)) (e ∷ events_told n xs) x h in
      let b = behind event (rest (after g i v) (answers_told ys)) (e ∷ events_told n ys) y k in
      law (after g i v) xs ys a.1 b.1 (a.2 ∙ ap (λ es. Some (tail_of es, a.1)) a.3) (b.2 ∙ ap (λ es. Some (tail_of es, b.1)) b.3) f

  same_event : (i : Instruction) (g : GuestView) (event : Event) (a b : Heard) (xs ys : List Heard) (x y : Ended)
      → replied rest i g event a.reply (answers_told xs) (value_of a.reply) ≡ Some (event_told n a ∷ events_told n xs, x)
      → replied rest i g event b.reply (answers_told ys) (value_of b.reply) ≡ Some (event_told n b ∷ events_told n ys, y) → event_told n a ≡ event_told n b
  same_event i g event a b xs ys x y h k =
      sym (first_event i g event a.reply (answers_told xs) (value_of a.reply) (event_told n a) (events_told n xs) x h)
      ∙ first_event i g event b.reply (answers_told ys) (value_of b.reply) (event_told n b) (events_told n ys) y k

  by_event : (i : Instruction) (g : GuestView) (event : Event) (xs ys : List Heard) (x y : Ended)
      → answered rest i g event (answers_told xs) ≡ Some (events_told n xs, x) → answered rest i g event (answers_told ys) ≡ Some (events_told n ys, y)
      → founds xs ≡ founds ys → AskAlike xs ys
  by_event i g event [] ys x y h k f = cc
  by_event i g event (a ∷ xs) [] x y h k f = cc
  by_event i g event (a ∷ xs) (b ∷ ys) x y h k f = (
    ap (λ (e : Event). e.pid) (same_event i g event a b xs ys x y h k),
    ap (λ (e : Event). e.call) (same_event i g event a b xs ys x y h k),
    ap (first_or a.finds) f,
    λ same. later i g event a.reply (value_of a.reply) (event_told n a) xs ys x y h
        (subst (λ (c : Heard). replied rest i g event c.reply (answers_told ys) (value_of c.reply) ≡ Some (event_told n c ∷ events_told n ys, y)) (sym same) k)
        (ap rest_of f),
  )

  by_quiet : (i : Instruction) (g : GuestView) (b : Bool) (xs ys : List Heard) (x y : Ended)
      → quiet rest i g (answers_told xs) b ≡ Some (events_told n xs, x) → quiet rest i g (answers_told ys) b ≡ Some (events_told n ys, y)
      → founds xs ≡ founds ys → AskAlike xs ys
  by_quiet i g true xs ys x y h k f = both_empty n xs ys (no_more n xs _ x h) (no_more n ys _ y k)
  by_quiet i g false xs ys x y h k f = law (after g i 0) xs ys x y h k f

  by_act : (i : Instruction) (g : GuestView) (o : Option Event) (xs ys : List Heard) (x y : Ended)
      → acted rest i g (answers_told xs) o ≡ Some (events_told n xs, x) → acted rest i g (answers_told ys) o ≡ Some (events_told n ys, y)
      → founds xs ≡ founds ys → AskAlike xs ys
  by_act i g None xs ys x y h k f = by_quiet i g (is_last i) xs ys x y h k f
  by_act i g (Some event) xs ys x y h k f = by_event i g event xs ys x y h k f

  by_step : (g : GuestView) (o : Option Instruction) (xs ys : List Heard) (x y : Ended)
      → stepped rest g (answers_told xs) o ≡ Some (events_told n xs, x) → stepped rest g (answers_told ys) o ≡ Some (events_told n ys, y)
      → founds xs ≡ founds ys → AskAlike xs ys
  by_step g None xs ys x y h k f = both_empty n xs ys (no_more n xs _ x h) (no_more n ys _ y k)
  by_step g (Some i) xs ys x y h k f = by_act i g (event_asked g i) xs ys x y h k f

by_stood : (n : ℕ) (g : GuestView) (o : Option Instruction) (xs ys : List Heard) (x y : Ended) → stood g o ≡ Some (events_told n xs, x) → stood g o ≡ Some (events_told n ys, y) → AskAlike xs ys
by_stood n g None xs ys x y h k = both_empty n xs ys (no_more n xs _ x h) (no_more n ys _ y k)
by_stood n g (Some i) xs ys x y h k = both_empty n xs ys (no_more n xs _ x h) (no_more n ys _ y k)

-- ---- All turns

asks_alike : (n : ℕ) (program : List Instruction) (turns : ℕ) (g : GuestView) (xs ys : List Heard) (x y : Ended) → follow program turns g (answers_told xs) ≡ Some (events_told n xs, x)
    → follow program turns g (answers_told ys) ≡ Some (events_told n ys, y) → founds xs ≡ founds ys → AskAlike xs ys
unfolding follow
asks_alike n program zero g xs ys x y h k f = by_stood n g (slice_get program g.counter) xs ys x y h k
asks_alike n program (suc turns) g xs ys x y h k f =
    by_step n (λ h more. follow program turns h more) (asks_alike n program turns) g (slice_get program g.counter) xs ys x y h k f

-- where what is heard is the same, guests end the same
module _ (program : List Instruction) (turns : ℕ) (g h k : GuestView) (e d : End) (mine theirs : List Heard)
    (first : IsRun program turns g (answers_told mine) (events_told g.cpu mine) e h)
    (second : IsRun program turns g (answers_told theirs) (events_told g.cpu theirs) d k) where
  ask_alike : founds mine ≡ founds theirs → AskAlike mine theirs
  ask_alike f = asks_alike g.cpu program turns g mine theirs (e, h) (d, k) (followed first) (followed second) f

  end_same : mine ≡ theirs → (mine ≡ theirs) × (e ≡ d) × (h ≡ k)
  end_same same =
      let ended = determined (subst (λ xs. IsRun program turns g (answers_told xs) (events_told g.cpu xs) e h) same first) second in
      (same, ended.1, ended.2)

pub guests_hear_the_same : GuestsHearTheSame
guests_hear_the_same s t p events others w v live l quiet_s quiet_t f program turns g h k e d first second =
    let mine = heard s (λ q. q == p) (exchanges s events) in
    let theirs = heard t (λ q. q == p) (exchanges t others) in
    end_same program turns g h k e d mine theirs first second
    (members_hear_the_same s events w t (λ q. q == p) others v (λ q here. ap (is_live s) (eqb-true q p here) ∙ live) l quiet_s quiet_t
    (ask_alike program turns g h k e d mine theirs first second f))

pub guests_are_unreached : GuestsAreUnreached
guests_are_unreached s t p events others w v family family_t l within within_t f program turns g h k e d first second =
    let mine = heard s (λ q. q == p) (exchanges s events) in
    let theirs = heard t (λ q. q == p) (exchanges t others) in
    end_same program turns g h k e d mine theirs first second
    (families_hear_their_own s events w t (λ q. q == p) others v family family_t l within within_t
    (ask_alike program turns g h k e d mine theirs first second f))
