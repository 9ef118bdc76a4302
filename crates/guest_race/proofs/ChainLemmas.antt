-- Chains of a port's steps, by what the port shows and what it keeps.
use Rattle.std.proofs.Common.{◌≡◌, ◌∙◌, List, refl}
use Rattle.guest_cpu.specs.Ports.{Answer, Chain, none, call}
use Rattle.kernel_calls.specs.declared.calls.Event.{Event}

module _ {S T : Type 0} {step : S → Event → Answer → S → Type 0} (shown : S → T) where
  -- the steps of what is shown
  pub chain_through : (tells : T → Event → Answer → T → Type 0) → ((s : S) (e : Event) (a : Answer) (t : S) → step s e a t → tells (shown s) e a (shown t))
      → {before after : S} {events : List Event} {answers : List Answer} → Chain step before events answers after → Chain tells (shown before) events answers (shown after)
  chain_through tells tell none = none
  chain_through tells tell (call {t = t} {u = u} {event = event} {answer = answer} chain made) = call (chain_through tells tell chain) (tell t event answer u made)

  -- what each step keeps is kept
  pub chain_keeps : ((s : S) (e : Event) (a : Answer) (t : S) → step s e a t → shown t ≡ shown s)
      → {before after : S} {events : List Event} {answers : List Answer} → Chain step before events answers after → shown after ≡ shown before
  chain_keeps keep none = refl
  chain_keeps keep (call {t = t} {u = u} {event = event} {answer = answer} chain made) = keep t event answer u made ∙ chain_keeps keep chain
