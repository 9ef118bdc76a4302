-- What a process gives up goes.
use Rattle.authority_laws.proofs.Prelude.{◌≡◌, ℕ, ◌||◌, ◌==◌, not, Bool, true, false, cond, refl, sym, ap, subst, ◌∙◌, Option, Some, None, unwrap_or, arith, inl, inr, if◌then◌else◌, option_map, same_itself, get-retain_keys, contains-retain, get-removed, Slot, slot_order, Cell, Spaces, without, is_slot, is_of, at_page, left, get-without, Member, is_child, given-remove, OfferKey, offer_key, State, exit_refusal, after_unmap, after_exit, HasExited, ExitsEnd, HasLeft, UnmapsEnd, OffersEnd, answer, answer_of, after, next, completes, Call, Event, eq-eqb, next-goes, not-refused, caller_live}
use Rattle.page_words.specs.FiniteMap as map
use Rattle.page_words.specs.FiniteSet as set
use Rattle.process_table.specs.declared.causes.Cause.TheVariants as cause
use Rattle.kernel_calls.specs.declared.calls.Call.TheVariants as call
use Rattle.kernel_calls.specs.declared.calls.Reply.TheVariants as reply

-- a call that is done
done_goes : (s : State) (e : Event) (c : Call) → e.call ≡ c → answer s e ≡ reply.Done
    → (next s e ≡ after s e.pid c) × (completes (answer_of s e.pid c) ≡ true)
done_goes s e c is told = grind (arith, next-goes, caller_live)

-- slots that leave are in no group
without_drops : (S : Spaces) (gone : Slot → Bool) (slot other : Slot) → gone other ≡ true
    → unwrap_or (option_map (λ (c : Cell). set.contains c.holders other) (map.get (without S gone) slot)) false ≡ false
without_drops S gone slot other h = grind (arith, get-without, left, contains-retain)

without_none : (S : Spaces) (gone : Slot → Bool) (slot : Slot) → gone slot ≡ true → map.get (without S gone) slot ≡ None
without_none S gone slot h = grind (arith, get-without, left)

not_root : (a c : Bool) → (if a then Some cause.RootExit else if c then Some cause.HasChildren else None) ≡ None
    → a ≡ false
not_root a c h = grind arith

exited : (s : State) (p : ℕ) → exit_refusal s p ≡ None → HasExited s (after_exit s p) p
exited s p allowed = record {
  gone = get-removed s.book p;
  pages = λ page. record {
    gone = without_none s.spaces (is_of p) (at_page p page) (eq-eqb p p refl);
    groups = λ slot. without_drops s.spaces (is_of p) slot (at_page p page) (eq-eqb p p refl);
    offers = grind (arith, get-retain_keys, stay, eq-eqb);
  };
  offers = grind (arith, get-retain_keys, stay, eq-eqb, none);
  returned = λ member at.
      let a = given-remove s.book p member at member.parent in
      let b : ◌≡◌ {A = ℕ} (cond (is_child member.parent (p, member)) member.quota 0) member.quota =
      (λ i. cond (child member i) member.quota 0) in
      omega (arith, a, b);
}
  where
    stay : OfferKey → Bool
    stay k = not ((k.offerer == p) || (k.target == p))

    none : (b : Bool) (x : Option Bool) → cond (not (b || true)) x None ≡ None
    none b x = grind arith

    child : (member : Member) → is_child member.parent (p, member) ≡ true
    child member = grind (arith, not_root, eq-eqb)

pub exits_end : ExitsEnd
exits_end s e is told =
    let d = done_goes s e call.Exit is told in
    subst (λ t. HasExited s t e.pid) (sym d.0) (exited s e.pid (not-refused (exit_refusal s e.pid) _ d.1))

unmapped : (s : State) (p page : ℕ) → HasLeft (after_unmap s p page) (at_page p page)
unmapped s p page = record {
  gone = without_none s.spaces (is_slot p page) (at_page p page) (same_itself slot_order (at_page p page));
  groups = λ other. without_drops s.spaces (is_slot p page) other (at_page p page)
      (same_itself slot_order (at_page p page));
  offers = grind (arith, get-retain_keys, eq-eqb);
}

pub unmaps_end : UnmapsEnd
unmaps_end s e page is told = subst (λ t. HasLeft t (at_page e.pid page))
    (sym (done_goes s e (call.Unmap page) is told).0) (unmapped s e.pid page)

pub offers_end : OffersEnd
offers_end s e key (inl withdrawn) told =
    ap (λ (t : State). map.get t.offers key) (done_goes s e _ withdrawn.1 told).0
    ∙ ap (map.get (map.remove s.offers (offer_key e.pid key.page key.target)))
    (λ i. record { offerer = sym withdrawn.0 i; page = key.page; target = key.target })
    ∙ get-removed s.offers (offer_key e.pid key.page key.target)
offers_end s e key (inr taken) told =
    ap (λ (t : State). map.get t.offers key) (done_goes s e _ taken.1.1 told).0
    ∙ ap (map.get (map.remove s.offers (offer_key key.offerer key.page e.pid)))
    (λ i. record { offerer = key.offerer; page = key.page; target = sym taken.0 i })
    ∙ get-removed s.offers (offer_key key.offerer key.page e.pid)
