-- A call that one function tests and carries out: its reply, and the state after it, are the definition's.
use Rattle.kernel_calls.proofs.Prelude.{◌≡◌, ◌∙◌, ℕ, true, false, refl, ap, sym, subst, Option, is_err, Err, arith, Result, Ok, IsOk, IsErr, Pid, Slot, FramesStay, Gone, stays_more, stays_same, memory_of, View, Cause, done_told, child_told, gone_of_call, gone_by, answer, answer_of, after, completes, refused_or, Call, Event, Reply, first_cause, done_unless, number_unless, child_unless, IsReplied}
use Rattle.kernel_calls.proofs.Decided.{next-stays, next-goes}
use Rattle.kernel_calls.specs.declared.calls.Reply.TheVariants as reply

-- what is shown of a call that one function tests and carries out, by what it is told
module _ {A B : Type 0} (say : Result A B → Reply) (goes : (a : A) → completes (say (Ok a)) ≡ true)
    (stops : (k : B) → completes (say (Err k)) ≡ false) (v w : View) (e : Event) (c : Call) (gone : Gone)
    (r : Result A B) (q : Reply) (is : e.call ≡ c)
    (same : (slot : Slot) (f : ℕ) → gone_of_call e.pid c slot f ≡ gone slot f) (told : say r ≡ answer v.state e)
    (state : IsOk r → w.state ≡ after v.state e.pid c) (stay : FramesStay gone (memory_of v) (memory_of w))
    (kept : IsErr r → w ≡ v) (said : q ≡ say r) where
  frames_stay : FramesStay (gone_by v.state e) (memory_of v) (memory_of w)
  frames_stay = by r refl
    where
      by : (x : Result A B) → r ≡ x → FramesStay (gone_by v.state e) (memory_of v) (memory_of w)
      by (Ok a) h = grind (arith, stays_more)
      by (Err k) h = subst (λ (x : View). FramesStay (gone_by v.state e) (memory_of v) (memory_of x))
          (sym (kept (ap is_err h))) stays_same

  pub is_replied : IsReplied v e q w
  is_replied = record {
    reply = said ∙ told;
    state = grind (arith, next-goes, next-stays);
    stay = frames_stay;
    kept = grind arith;
  }

module _ (v w : View) (e : Event) (c : Call) (x : Option Cause) (gone : Gone) (q : Reply) (is : e.call ≡ c) where
  -- of one that is done or refused
  pub is_done : (r : Result (Unit {0}) Cause) → answer_of v.state e.pid c ≡ refused_or x reply.Done
      → ((slot : Slot) (f : ℕ) → gone_of_call e.pid c slot f ≡ gone slot f)
      → r ≡ done_unless (first_cause v.state e.pid x) → (IsOk r → w.state ≡ after v.state e.pid c)
      → FramesStay gone (memory_of v) (memory_of w) → (IsErr r → w ≡ v) → q ≡ done_told r → IsReplied v e q w
  is_done r asks same result = is_replied done_told (λ a. refl) (λ k. refl) v w e c gone r q is same (grind arith)

  -- of one that answers with a charge or is refused
  pub has_charge : (r : Result ℕ Cause) (charge : ℕ) → answer_of v.state e.pid c ≡ refused_or x reply.Done
      → ((slot : Slot) (f : ℕ) → gone_of_call e.pid c slot f ≡ gone slot f)
      → r ≡ number_unless (first_cause v.state e.pid x) charge → (IsOk r → w.state ≡ after v.state e.pid c)
      → FramesStay gone (memory_of v) (memory_of w) → (IsErr r → w ≡ v) → q ≡ done_told r → IsReplied v e q w
  has_charge r charge asks same result = is_replied done_told (λ a. refl) (λ k. refl) v w e c gone r q is same (grind arith)

  -- of one that makes a child or is refused
  pub has_child : (r : Result Pid Cause) (child : ℕ) → answer_of v.state e.pid c ≡ refused_or x (reply.Child child)
      → ((slot : Slot) (f : ℕ) → gone_of_call e.pid c slot f ≡ gone slot f)
      → r ≡ child_unless (first_cause v.state e.pid x) child → (IsOk r → w.state ≡ after v.state e.pid c)
      → FramesStay gone (memory_of v) (memory_of w) → (IsErr r → w ≡ v) → q ≡ child_told r → IsReplied v e q w
  has_child r child asks same result = is_replied child_told (λ a. refl) (λ k. refl) v w e c gone r q is same (grind arith)
