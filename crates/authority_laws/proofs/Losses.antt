-- Which event of another process makes a call impossible.
use Rattle.authority_laws.proofs.Prelude.{◌≡◌, ◌≢◌, ℕ, true, false, sym, ap, ◌∙◌, Some, is_some, arith, inl, inr, some_value, offer_key, State, is_live, Loses, OthersNeverRefuse, answer, next, completes, Call, Event, at_page, ◌⊎◌, OfferKey, Settles, IsLeave, child_dead, caller_live}
use Rattle.authority_laws.proofs.Children.{place_of}
use Rattle.authority_laws.proofs.GivenUp.{offers_stay}
use Rattle.authority_laws.proofs.Availability.{leaves_one, IsGone, Lost, outcome, answered}
use Rattle.page_words.specs.FiniteMap as map
use Rattle.kernel_calls.specs.declared.calls.Call.TheVariants as call
use Rattle.kernel_calls.specs.declared.calls.Reply.TheVariants as reply

module _ (s : State) (o : Event) (p : ℕ) (d : p ≢ o.pid) where
  comes : (k : ℕ) → is_live s k ≡ false → is_live (next s o) k ≡ true → answer s o ≡ reply.Child k
  comes k was now = grind (arith, place_of)

  goes : (k : ℕ) → is_live s k ≡ true → is_live (next s o) k ≡ false → (o.pid ≡ k) × (o.call ≡ call.Exit)
  goes k was now = grind (arith, place_of, child_dead)

  -- how an offer that is gone ended
  ends : (key : OfferKey) → IsGone s (next s o) key
      → Settles o key ⊎ (IsLeave o (at_page key.offerer key.page) ⊎ ((key.target ≡ o.pid) × (o.call ≡ call.Exit)))
  ends key gone =
      let at = some_value (map.get s.offers key) gone.0 in
      elim (offers_stay s o key at.0 at.1) [
        | inl stays ↦ absurd (let a = ap is_some stays in let b = gone.1 in cc)
        | inr by ↦ by
      ]

  loses : (c : Call) → Lost s (next s o) p c → Loses s o p c
  loses (call.Offer page target write) x = grind (arith, goes)
  loses (call.Spawn quota) x = grind (arith, comes)
  loses (call.Fork quota) x = grind (arith, comes)
  loses _ x = let by = ends (offer_key x.0 x.1 x.2) x.3 in grind arith

pub others_never_refuse : OthersNeverRefuse
others_never_refuse s o e w d done =
    let c = caller_live s e done in
    let l = leaves_one s o e.pid w c.0 d in
    let is = answered (next s o) e (ap is_some l.member ∙ c.0) in
    elim (outcome s (next s o) e.pid l e.call c.1) [
      | inl completes_too ↦ inl (ap completes is ∙ completes_too)
      | inr x ↦ inr (loses s o e.pid d e.call x.1, x.0 ∙ ap Some (sym is))
    ]
