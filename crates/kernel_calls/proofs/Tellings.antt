-- The reply to a call that completes.
use Rattle.kernel_calls.proofs.Prelude.{◌≡◌, ℕ, true, false, ap, ◌∙◌, Option, unwrap_or, arith, option_map, some_value, Cell, cost, fresh, at_page, Member, given, State, is_live, as_container, protect_refusal, Cause, may_protect, flags_of, shown_of, Tells, CompletesByKind, answer_of, completes, refused_or, info_of, Call, Reply}
use Rattle.kernel_calls.proofs.Runs.{not-refused}
use Rattle.kernel_calls.proofs.Untouched.{caller_live}
use Rattle.kernel_calls.proofs.WalkedReplies.{told_planned}
use Rattle.page_words.specs.FiniteMap as map
use Rattle.kernel_calls.specs.declared.calls.Call.TheVariants as call
use Rattle.kernel_calls.specs.declared.calls.Reply.TheVariants as reply

by_cause : (x : Option Cause) (r : Reply) → completes (refused_or x r) ≡ true → refused_or x r ≡ r
by_cause x r h = grind arith

told_of : (s : State) (p : ℕ) (c : Call) → is_live s p ≡ true → completes (answer_of s p c) ≡ true
    → Tells s p c (answer_of s p c)
told_of s p (call.Load addr size) live h = told_planned _ _ h
told_of s p (call.Store addr size value) live h = told_planned _ _ h
told_of s p (call.Info page) live h =
    let m = may_protect s p page false (not-refused (protect_refusal s p page false) _ h) in
    let c = some_value (map.get s.spaces (at_page p page)) m.mapped in (
      flags_of c.0,
      shown_of c.0,
      ap (option_map flags_of) c.1,
      ap (option_map shown_of) c.1,
      by_cause _ _ h ∙ ap (λ (x : Option Cell). info_of (unwrap_or x (fresh (at_page p page) true))) c.1,
    )
told_of s p (call.Spawn quota) live h = (_, by_cause _ _ h)
told_of s p (call.Fork quota) live h = (_, by_cause _ _ h)
told_of s p call.Quota live h =
    let m = some_value (map.get s.book p) live in (
      as_container s p m.0,
      ap (option_map (λ member. as_container s p member)) m.1,
      ap (λ (x : Option Member). reply.Quota (unwrap_or (option_map (λ (m : Member). m.quota) x) 0) (cost s.spaces p)
          (given s.book p)) m.1,
    )
told_of s p _ live h = by_cause _ _ h

pub completes_by_kind : CompletesByKind
completes_by_kind s e done = grind (arith, caller_live, told_of)
