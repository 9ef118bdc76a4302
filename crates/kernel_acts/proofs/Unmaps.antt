-- The other slots of a group are unmapped, one after another.
use Rattle.kernel_acts.proofs.Prelude.{◌≡◌, ℕ, ◌+◌, ◌<◌, ◌≤◌, Bool, true, false, cond, not, ◌&&◌, ◌||◌, ◌==◌, length, take, set, List, [], ◌∷◌, ◌++◌, refl, sym, ap, subst, ◌∙◌, is_some, Option, Some, None, unwrap_or, arith, inl, inr, if◌then◌else◌, All, option_map, cases_lt, and_parts, same_Some, map-append, take_more_set, All-append, All-cons, list_any-append, same, Set, same_map, same_set, same-true, same_itself, get-retain_keys, contains-retain, some_value, same_cases, same_sym, Slot, slot_order, slot_cmp, Cell, without, is_slot, at_page, is_lazy_at, left, get-without, OfferKey, without_page, State, is_live, is_mapped, after_unmap, View, IsWellFormed, memory_of, page_is_user, ungrouped, shares, answer, next, completes, refused_or, unmap_of, is_beside, is_held, without_slots, TakesBack, Taking, Unmapped, ended_by, Holder, and-true, or-false, find, next-goes, answers-append, end_of-append}
use Rattle.address_space.specs.Shown.{shown}
use Rattle.kernel_calls.specs.Pages.{page_in}
use Rattle.kernel_calls.specs.declared.pages.PageState.{PageState}
use Rattle.kernel_acts.proofs.Beside.{shares_there}
use Rattle.kernel_acts.proofs.FamilyEnds.{without_both, stays_twice, along_more}
use Rattle.page_words.specs.FiniteMap as map
use Rattle.page_words.specs.FiniteSet as set
use Rattle.process_table.specs.declared.causes.Cause.TheVariants as cause
use Rattle.kernel_calls.specs.declared.calls.Reply.TheVariants as reply
use Rattle.kernel_calls.specs.declared.translations.Ended.TheVariants as end
use Rattle.kernel_calls.specs.Effects.{IsAlone}

-- ---- Who shares, without some slots

pub shares_without : (s : State) (gone : Slot → Bool) (slot other : Slot)
    → shares (without_slots s gone) slot other ≡ (shares s slot other && (not (gone slot) && not (gone other)))
shares_without s gone slot other = grind (arith, get-without, left, contains-retain)

-- who is beside a slot without some slots is so with them
pub beside_before : (s : State) (gone : Slot → Bool) (slot other : Slot) → is_beside (without_slots s gone) slot other ≡ true → is_beside s slot other ≡ true
beside_before s gone slot other h = grind (arith, and_parts, shares_without)

-- ---- One slot less

pub slot_test : (p page q n : ℕ) → is_slot p page (at_page q n) ≡ ((q == p) && (n == page))
slot_test p page q n = grind (arith, same_cases)

abbrev of_page : OfferKey → Slot
of_page key = at_page key.offerer key.page

pub without_slots_more : (s : State) (gone : Slot → Bool) (p page : ℕ)
    → after_unmap (without_slots s gone) p page ≡ without_slots s (λ x. gone x || is_slot p page x)
without_slots_more s gone p page = λ i. record s { spaces = without_both s.spaces gone (is_slot p page) i; offers = offers i }
  where
    offers : without_page (map.retain_keys s.offers (λ key. not (gone (of_page key)))) p page
        ≡ map.retain_keys s.offers (λ key. not (gone (of_page key) || is_slot p page (of_page key)))
    offers = same_map _ _ (λ key.
        get-retain_keys (map.retain_keys s.offers (λ key. not (gone (of_page key)))) (λ k. not ((k.offerer == p) && (k.page == page))) key
        ∙ ap (λ x. cond (not ((key.offerer == p) && (key.page == page))) x None) (get-retain_keys s.offers (λ key. not (gone (of_page key))) key)
        ∙ stays_twice (gone (of_page key)) ((key.offerer == p) && (key.page == page)) (map.get s.offers key)
        ∙ ap (λ b. cond (not (gone (of_page key) || b)) (map.get s.offers key) None) (sym (slot_test p page key.offerer key.page))
        ∙ sym (get-retain_keys s.offers (λ key. not (gone (of_page key) || is_slot p page (of_page key))) key))

held-more : (holders : List Holder) (h : Holder) (x : Slot) → is_held (holders ++ h ∷ []) x ≡ (is_held holders x || is_slot h.pid h.page x)
held-more holders h x = list_any-append (λ (k : Holder). is_slot k.pid k.page x) holders (h ∷ []) ∙ ap (λ b. is_held holders x || b) (or-false (is_slot h.pid h.page x))

-- ---- One Unmap more

module _ (t : State) (own : Slot) (h : Holder) (w : IsWellFormed t) (beside : is_beside t own (at_page h.pid h.page) ≡ true) where
  there : is_mapped t (at_page h.pid h.page) ≡ true
  there = shares_there t own (at_page h.pid h.page) w (and_parts (not (is_slot own.pid own.page (at_page h.pid h.page))) (shares t own (at_page h.pid h.page)) beside).1

  pub unmap_done : answer t (unmap_of h) ≡ reply.Done
  unmap_done =
      let c = some_value (map.get t.spaces (at_page h.pid h.page)) there in
      let live : is_live t h.pid ≡ true = w.owners (at_page h.pid h.page) c.0 c.1 in
      let user = page_is_user h.page (w.cells (at_page h.pid h.page) c.0 c.1).user in
      λ i. if live i then refused_or (if not (user i) then Some cause.BadPage else if not (there i) then Some cause.NotMapped else None) reply.Done else reply.Refused cause.NoProcess

  pub unmap_after : next t (unmap_of h) ≡ after_unmap t h.pid h.page
  unmap_after = next-goes t (unmap_of h) (ap completes unmap_done)

  unmap_kept : option_map ungrouped (map.get (next t (unmap_of h)).spaces own) ≡ option_map ungrouped (map.get t.spaces own)
  unmap_kept = grind (arith, unmap_after, get-without, left, same_sym, and_parts)

  -- nobody is beside a slot then who was not before
  pub unmap_beside : (x : Slot) → is_beside t own x ≡ false → is_beside (next t (unmap_of h)) own x ≡ false
  unmap_beside x none = grind (arith, beside_before, unmap_after)

  -- the slot itself is no more
  pub unmap_gone : is_beside (next t (unmap_of h)) own (at_page h.pid h.page) ≡ false
  unmap_gone =
      ap (λ (k : State). not (is_slot own.pid own.page (at_page h.pid h.page)) && shares k own (at_page h.pid h.page)) unmap_after
      ∙ ap (λ b. not (is_slot own.pid own.page (at_page h.pid h.page)) && b) (shares_without t (is_slot h.pid h.page) own (at_page h.pid h.page)
      ∙ ap (λ b. shares t own (at_page h.pid h.page) && (not (is_slot h.pid h.page own) && not b)) (same_itself slot_order (at_page h.pid h.page)))
      ∙ three (not (is_slot own.pid own.page (at_page h.pid h.page))) (shares t own (at_page h.pid h.page)) (not (is_slot h.pid h.page own))
    where
      three : (a b c : Bool) → (a && (b && (c && false))) ≡ false
      three a b c = grind arith

all_none : (P : Holder → Type 0) → All P []
all_none P k d h = absurd (omega (arith, h))

all_more : (P : Holder → Type 0) (xs : List Holder) (h : Holder) → All P xs → P h → All P (xs ++ h ∷ [])
all_more P xs h all one = All-append P xs (h ∷ []) all (All-cons P h [] one (all_none P))

pub takes_none : (s : State) (own : Slot) → TakesBack s own [] s
takes_none s own = record {
  beside = all_none (λ (h : Holder). is_beside s own (at_page h.pid h.page) ≡ true);
  done = refl;
  after = refl;
  left = λ i. record s {
    spaces = same_map s.spaces (without s.spaces (λ _. false)) (λ q. sym (get-without s.spaces (λ _. false) q ∙ same (map.get s.spaces q))) i;
    offers = same_map s.offers (map.retain_keys s.offers (λ _. true)) (λ q. sym (get-retain_keys s.offers (λ _. true) q)) i;
  };
  kept = refl;
}
  where
    all_stay : (h : Set slot_order) → set.retain h (λ _. true) ≡ h
    all_stay h = same_set _ _ (λ x. contains-retain h (λ _. true) x ∙ and-true (set.contains h x))

    same : (x : Option Cell) → option_map (left (λ _. false)) x ≡ x
    same None = refl
    same (Some c) = ap (λ (h : Set slot_order). Some (record c { holders = h })) (all_stay c.holders)

pub takes_more : (s t : State) (own : Slot) (holders : List Holder) (h : Holder) → TakesBack s own holders t → IsWellFormed t
    → is_beside t own (at_page h.pid h.page) ≡ true → TakesBack s own (holders ++ h ∷ []) (next t (unmap_of h))
takes_more s t own holders h x w beside = record {
  beside = all_more (λ (k : Holder). is_beside s own (at_page k.pid k.page) ≡ true) holders h x.beside
      (beside_before s (is_held holders) own (at_page h.pid h.page) (sym (ap (λ (k : State). is_beside k own (at_page h.pid h.page)) x.left) ∙ beside));
  done = grind (arith, map-append, answers-append, unmap_done);
  after = grind (arith, map-append, end_of-append);
  left = unmap_after t own h w beside ∙ ap (λ k. after_unmap k h.pid h.page) x.left ∙ without_slots_more s (is_held holders) h.pid h.page
      ∙ (λ i. without_slots s (λ q. sym (held-more holders h q) i));
  kept = unmap_kept t own h w beside ∙ x.kept;
}

-- ---- Along the loop

pub taking_on : (v w u : View) (own : Slot) (count : ℕ) (lost : List Holder) (h : Holder) → IsWellFormed w.state → Taking v w own (take count lost)
    → Unmapped w u own h → count < length lost → Taking v u own (take (count + 1) (set lost count h))
taking_on v w u own count lost h ww g l within = record {
  taken = subst (λ (o : List Holder). TakesBack v.state own o u.state) (sym more)
      (subst (λ (k : State). TakesBack v.state own (take count lost ++ h ∷ []) k) (sym l.carried.state)
      (takes_more v.state w.state own (take count lost) h g.taken ww l.beside));
  along = grind (arith, more, map-append, along_more);
}
  where
    more : take (count + 1) (set lost count h) ≡ take count lost ++ h ∷ []
    more = take_more_set lost count h within

pub unmap_ends : (v : View) (h : Holder) → answer v.state (unmap_of h) ≡ reply.Done → end.Page h.pid h.page ≡ ended_by v (unmap_of h)
unmap_ends v h done = sym (ap (λ b. if b then end.Page h.pid h.page else end.Nothing) (ap completes done))

-- ---- Alone

-- nobody is beside a slot: it is alone in its group
pub alone_by : (t : State) (own : Slot) → IsWellFormed t → ((p page : ℕ) → p < 64 → is_beside t own (at_page p page) ≡ false) → IsAlone t own
alone_by t own w none other held = by (is_slot own.pid own.page other) refl
  where
    by : (b : Bool) → is_slot own.pid own.page other ≡ b → other ≡ own
    by true is = sym (same-true slot_order own other is)
    by false is = absurd (
        let c = some_value (map.get t.spaces other) (shares_there t own other w held) in
        let m = some_value (map.get t.book other.pid) (w.owners other c.0 c.1) in
        let small = (w.processes other.pid m.0 m.1).0 in
        let no = none other.pid other.page small in
        let yes : is_beside t own other ≡ true = (λ i. not (is i) && held i) in
        cc)

one_member : (h : Set slot_order) (x y : Slot) → set.len h ≡ 1 → set.contains h x ≡ true → set.contains h y ≡ true → y ≡ x
one_member h x y one = by h.entries one
  where
    first : (k : Slot) (e : Slot × Unit {0}) → is_some (cond (same slot_order k e.0) (Some e.1) None) ≡ true → k ≡ e.0
    first k e c = grind (arith, same-true)

    by : (es : List (Slot × Unit {0})) → length es ≡ 1 → is_some (find slot_cmp x es) ≡ true → is_some (find slot_cmp y es) ≡ true → y ≡ x
    by [] l a b = cc
    by (e ∷ []) l a b = first y e b ∙ sym (first x e a)
    by (e ∷ f ∷ es) l a b = absurd (omega (arith, l))

-- a slot whose group has one slot is alone
pub alone_one : (v : View) (p page : ℕ) (x : PageState) → IsWellFormed v.state → page_in v p page ≡ Some x → x.cell.holders ≡ 1
    → IsAlone v.state (at_page p page)
alone_one v p page x w is one = by (map.get v.state.spaces (at_page p page)) refl is
  where
    by : (y : Option Cell) → map.get v.state.spaces (at_page p page) ≡ y
        → option_map (λ cell. record { cell = shown cell; lazy = is_lazy_at (memory_of v) (at_page p page) }) y ≡ Some x → IsAlone v.state (at_page p page)
    by None at h = cc
    by (Some c) at h = λ other held.
        let few : set.len c.holders ≡ 1 = ap (λ (k : PageState). k.cell.holders) (same_Some (record { cell = shown c; lazy = is_lazy_at (memory_of v) (at_page p page) }) x h) ∙ one in
        one_member c.holders (at_page p page) other few (w.cells (at_page p page) c at).own
        (sym (ap (λ (k : Option Cell). unwrap_or (option_map (λ (d : Cell). set.contains d.holders other) k) false) at) ∙ held)

-- ---- What the Unmap of one leaves

pub clear_on : (w u : View) (own : Slot) (h : Holder) → IsWellFormed w.state → Unmapped w u own h → (x : Slot)
    → is_beside w.state own x ≡ false → is_beside u.state own x ≡ false
clear_on w u own h ww l x none = ap (λ (k : State). is_beside k own x) l.carried.state ∙ unmap_beside w.state own h ww l.beside x none

pub clear_here : (w u : View) (own : Slot) (h : Holder) → IsWellFormed w.state → Unmapped w u own h
    → is_beside u.state own (at_page h.pid h.page) ≡ false
clear_here w u own h ww l = ap (λ (k : State). is_beside k own (at_page h.pid h.page)) l.carried.state ∙ unmap_gone w.state own h ww l.beside

-- all so far, up to the next
pub clear_up : (w u : View) (own : Slot) (holder at found : ℕ) → IsWellFormed w.state → Unmapped w u own (record { pid = holder; page = found })
    → ((other : ℕ) → other < at → is_beside w.state own (at_page holder other) ≡ false)
    → ((other : ℕ) → at ≤ other → other < found → is_beside w.state own (at_page holder other) ≡ false)
    → (other : ℕ) → other < found + 1 → is_beside u.state own (at_page holder other) ≡ false
clear_up w u own holder at found ww l before between other down = elim (cases_lt other found) [
  | inl below ↦ clear_on w u own (record { pid = holder; page = found }) ww l (at_page holder other) (elim (cases_lt other at) [
    | inl first ↦ before other first
    | inr above ↦ between other above below
  ])
  | inr past ↦
      let same : other ≡ found = omega (arith, past, down) in
      ap (λ n. is_beside u.state own (at_page holder n)) same ∙ clear_here w u own (record { pid = holder; page = found }) ww l
]
