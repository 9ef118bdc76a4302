-- Slots that are taken back in two parts, one after the other.
use Rattle.kernel_acts.proofs.Prelude.{◌≡◌, ℕ, Bool, true, cond, not, ◌||◌, List, [], ◌∷◌, ◌++◌, refl, sym, ap, subst, ◌∙◌, None, arith, map-append, All-append, All-weaker, list_any-append, same_map, get-retain_keys, Slot, at_page, is_slot, OfferKey, State, View, answer, completes, info_of_page, is_beside, is_held, without_slots, TakesBack, Taking, EndAlong, Event, Holder, Ended, answers-append, end_of-append}
use Rattle.kernel_acts.proofs.FamilyEnds.{without_both, stays_twice}
use Rattle.kernel_acts.proofs.Unmaps.{beside_before, takes_none}
use Rattle.page_words.specs.FiniteMap as map

-- the offers of a page
abbrev of_page : OfferKey → Slot
of_page key = at_page key.offerer key.page

without_twice : (s : State) (gone later : Slot → Bool) → without_slots (without_slots s gone) later ≡ without_slots s (λ x. gone x || later x)
without_twice s gone later = λ i. record s { spaces = without_both s.spaces gone later i; offers = offers i }
  where
    offers : map.retain_keys (map.retain_keys s.offers (λ key. not (gone (of_page key)))) (λ key. not (later (of_page key)))
        ≡ map.retain_keys s.offers (λ key. not (gone (of_page key) || later (of_page key)))
    offers = same_map _ _ (λ key.
        get-retain_keys (map.retain_keys s.offers (λ key. not (gone (of_page key)))) (λ k. not (later (of_page k))) key
        ∙ ap (λ x. cond (not (later (of_page key))) x None) (get-retain_keys s.offers (λ key. not (gone (of_page key))) key)
        ∙ stays_twice (gone (of_page key)) (later (of_page key)) (map.get s.offers key)
        ∙ sym (get-retain_keys s.offers (λ key. not (gone (of_page key) || later (of_page key))) key))

abbrev IsBeside : State → Slot → Holder → Type 0
IsBeside s own h = is_beside s own (at_page h.pid h.page) ≡ true

abbrev tests : Slot → Holder → Bool
tests x h = is_slot h.pid h.page x

pub takes_then : (s t u : State) (own : Slot) (first second : List Holder) → TakesBack s own first t → TakesBack t own second u → TakesBack s own (first ++ second) u
takes_then s t u own first second a b = record {
  beside = All-append (IsBeside s own) first second a.beside (All-weaker (IsBeside t own) (IsBeside s own)
      (λ h k. beside_before s (is_held first) own (at_page h.pid h.page) (sym (ap (λ (x : State). is_beside x own (at_page h.pid h.page)) a.left) ∙ k)) second b.beside);
  done = grind (arith, map-append, answers-append);
  after = grind (arith, map-append, end_of-append);
  left = b.left ∙ ap (λ x. without_slots x (is_held second)) a.left ∙ without_twice s (is_held first) (is_held second)
      ∙ (λ i. without_slots s (λ q. sym (list_any-append (tests q) first second) i));
  kept = b.kept ∙ a.kept;
}

along_then : (events later : List Event) (ended more : List Ended) (v w u : View) → EndAlong events ended v w → EndAlong later more w u
    → EndAlong (events ++ later) (ended ++ more) v u
along_then [] later [] more v w u a b = subst (λ (x : View). EndAlong later more x u) (sym a) b
along_then [] later (x ∷ ended) more v w u a b = absurd a
along_then (e ∷ events) later [] more v w u a b = absurd a
along_then (e ∷ events) later (x ∷ ended) more v w u a b = (a.0, a.1, a.2, along_then events later ended more a.0 w u a.3 b)

pub taking_none : (v : View) (own : Slot) → Taking v v own []
taking_none v own = record { taken = takes_none v.state own; along = refl }

pub taking_then : (v w u : View) (own : Slot) (first second : List Holder) → Taking v w own first → Taking w u own second → Taking v u own (first ++ second)
taking_then v w u own first second a b = record {
  taken = takes_then v.state w.state u.state own first second a.taken b.taken;
  along = grind (arith, map-append, along_then);
}

-- ---- Whether the page can be taken back

-- so it does afterwards, where it does before
pub info_later : (s t : State) (p page : ℕ) (holders : List Holder) → TakesBack s (at_page p page) holders t
    → completes (answer t (info_of_page p page)) ≡ completes (answer s (info_of_page p page))
info_later s t p page holders taken = grind arith
