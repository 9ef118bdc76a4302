-- What a new child has, and that it sees what its parent saw.
use Rattle.kernel_calls.proofs.Prelude.{◌≡◌, ℕ, Bool, true, false, refl, ap, Option, None, inl, inr, arith, ◌⊎◌, if◌then◌else◌, State, is_live, child_of, spawn_refusal, fork_refusal, IsWellFormed, Cause, child_free, fork_free, Plan, answer, answer_of, completes, refused_or, planned_or, Call, Event, Reply, eqb-true, is_child_of, parents_in}
use Rattle.kernel_calls.proofs.Untouched.{caller_live}
use Rattle.process_table.specs.declared.causes.Cause.TheVariants as cause
use Rattle.kernel_calls.specs.declared.calls.Call.TheVariants as call
use Rattle.kernel_calls.specs.declared.calls.Reply.TheVariants as reply

-- ---- Who is told a child's number

abbrev child_in : Reply → ℕ
child_in (reply.Child n) = n
child_in _ = 0

-- a spawn or a fork that is not refused
abbrev pub IsBirth : State → ℕ → Call → ℕ → Type 0
IsBirth s p c child = (child_of s ≡ child) × (((quota : ℕ) × (c ≡ call.Spawn quota) × (spawn_refusal s p quota ≡ None))
    ⊎ ((quota : ℕ) × (c ≡ call.Fork quota) × (fork_refusal s p quota ≡ None)))

pub planned_child : (x : Plan) (r : Reply) (child : ℕ) → planned_or x r ≡ reply.Child child → r ≡ reply.Child child
planned_child x r child h = grind arith

pub refused_child : (x : Option Cause) (r : Reply) (child : ℕ) → refused_or x r ≡ reply.Child child
    → (x ≡ None) × (r ≡ reply.Child child)
refused_child x r child h = grind arith

birth_of : (s : State) (p : ℕ) (c : Call) (child : ℕ) → answer_of s p c ≡ reply.Child child → IsBirth s p c child
birth_of s p (call.Spawn quota) child h = let r = refused_child (spawn_refusal s p quota) _ child h in
    (ap child_in r.1, inl (quota, refl, r.0))
birth_of s p (call.Fork quota) child h = let r = refused_child (fork_refusal s p quota) _ child h in
    (ap child_in r.1, inr (quota, refl, r.0))
birth_of s p _ child h = absurd (grind (arith, planned_child, refused_child))

-- who makes a child is live, and its call is done
pub record IsMaker (s : State) (e : Event) (child : ℕ) : Type 0 where
  pub live : is_live s e.pid ≡ true
  pub done : completes (answer s e) ≡ true
  pub birth : IsBirth s e.pid e.call child

pub maker_of : (s : State) (e : Event) (child : ℕ) → answer s e ≡ reply.Child child → IsMaker s e child
maker_of s e child told = record {
  live = live.0;
  done = done;
  birth =
      birth_of s e.pid e.call child (by (is_live s e.pid) live.0 told);
}
  where
    done : completes (answer s e) ≡ true
    done = ap completes told

    live : (is_live s e.pid ≡ true) × (completes (answer_of s e.pid e.call) ≡ true)
    live = caller_live s e done

    by : (b : Bool) → b ≡ true → (if b then answer_of s e.pid e.call else reply.Refused cause.NoProcess) ≡ reply.Child
        child → answer_of s e.pid e.call ≡ reply.Child child
    by b is h = grind arith

-- ---- What it has

-- it was not live
pub birth_free : (s : State) (p : ℕ) (c : Call) (child : ℕ) → IsBirth s p c child → is_live s child ≡ false
birth_free s p c child b = grind (arith, child_free, fork_free)

pub child_dead : (s : State) (e : Event) (child : ℕ) → answer s e ≡ reply.Child child → is_live s child ≡ false
child_dead s e child told = birth_free s e.pid e.call child (maker_of s e child told).birth

-- who is not live has no child
pub no_parent : (s : State) (k r : ℕ) → IsWellFormed s → is_live s k ≡ false → is_child_of s k r ≡ false
no_parent s k r w free = grind (arith, parents_in, eqb-true)
