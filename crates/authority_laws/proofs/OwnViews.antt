-- A process's replies, and what it has afterwards, depend on what it has, except for its offers.
use Rattle.authority_laws.proofs.Prelude.{◌≡◌, ℕ, ◌==◌, Bool, true, false, refl, sym, ap, ◌∙◌, Option, None, unwrap_or, subst, ◌≢◌, arith, option_map, no_value, Slot, Cell, Spaces, is_of, copied, at_page, copied-other, next_number, get-insert_other, given-insert, number-insert, OfferKey, offer_key, State, is_live, child_of, spawn_refusal, fork_refusal, after_spawn, after_fork, child_free, fork_free, live_differ, flags_of, shown_of, HaveTheSame, found, OwnIsEnough, answer, answer_of, after, next, completes, Call, Event, eqb-true, eq-eqb, MembersToldTheSame, next-stays, next-goes, not-refused, caller_live}
use Rattle.authority_laws.proofs.TogetherSpaces.{SameSpaces, after_one}
use Rattle.authority_laws.proofs.Views.{HasTheSame, takes_offer, member_has, answer_of_same, told_by_own, child_is_same, process_told}
use Rattle.authority_laws.proofs.SharingStays.{makes_child}
use Rattle.page_words.specs.FiniteMap as map
use Rattle.page_words.specs.FiniteSet as set
use Rattle.kernel_calls.specs.declared.calls.Call.TheVariants as call

-- ---- What it has afterwards

-- its slots
abbrev Mine : ℕ → Slot → Type 0
Mine q slot = is_of q slot ≡ true

itself : (q : ℕ) → (q == q) ≡ true
itself q = eq-eqb q q refl

own_slot : (q : ℕ) (slot : Slot) → Mine q slot → at_page q slot.page ≡ slot
own_slot q slot h = λ i. record { pid = sym (eqb-true slot.pid q h) i; page = slot.page }

spaces_of : (s t : State) (q : ℕ) → HasTheSame s t q → SameSpaces (λ p. p == q) (Mine q) s.spaces t.spaces
spaces_of s t q l = grind (arith, own_slot)

-- ---- A process is the set of one

alone_has : (s t : State) (q : ℕ) → HasTheSame s t q → HaveTheSame s t (λ p. p == q)
alone_has s t q l =
    let spaces = spaces_of s t q l in
    record {
      standing = grind (arith, eqb-true);
      families = λ p r hp hr d. absurd (d (eqb-true p q hp ∙ sym (eqb-true r q hr)));
      flags = spaces.flags;
      offers = grind (arith, here);
      pages = spaces.pages;
      same_page = spaces.groups;
    }
  where
    here : (key : OfferKey) → (key.offerer == q) ≡ true → key ≡ offer_key q key.page key.target
    here key h = λ i. record { offerer = eqb-true key.offerer q h i; page = key.page; target = key.target }

module _ (s t : State) (q : ℕ) (l : HasTheSame s t q) where
  abbrev Q : ℕ → Bool
  Q p = p == q

  start : SameSpaces Q (Mine q) s.spaces t.spaces
  start = spaces_of s t q l

  -- a child more
  child_has : (k quota : ℕ) (S T : Spaces) → is_live s q ≡ true → is_live s k ≡ false → is_live t k ≡ false
      → SameSpaces Q (Mine q) S T
      → HasTheSame (record {
        spaces = S;
        book = map.insert s.book k (record { parent = q; quota = quota });
        offers =
            s.offers;
      }) (record {
        spaces = T;
        book = map.insert t.book k (record { parent = q; quota = quota });
        offers =
            t.offers;
      }) q
  child_has k quota S T live free free_t spaces =
      grind (arith, no_value, get-insert_other, live_differ, given-insert, number-insert, itself)

  spawn_has : (quota : ℕ) → next_number s.book ≡ next_number t.book → is_live s q ≡ true → spawn_refusal s q quota ≡ None
      → spawn_refusal t q quota ≡ None → HasTheSame (after_spawn s q quota) (after_spawn t q quota) q
  spawn_has quota finds live allowed allowed_t =
      let free_t = ap (is_live t) (child_is_same s t finds) ∙ child_free t q quota allowed_t in
      subst (λ k. HasTheSame (after_spawn s q quota)
      (record t { book = map.insert t.book k (record { parent = q; quota = quota }) }) q)
      (child_is_same s t finds)
      (child_has (child_of s) quota s.spaces t.spaces live (child_free s q quota allowed) free_t start)

  fork_has : (quota : ℕ) → next_number s.book ≡ next_number t.book → is_live s q ≡ true → fork_refusal s q quota ≡ None
      → fork_refusal t q quota ≡ None → HasTheSame (after_fork s q quota) (after_fork t q quota) q
  fork_has quota finds live allowed allowed_t =
      let k = child_of s in
      let free = fork_free s q quota allowed in
      let free_t = ap (is_live t) (child_is_same s t finds) ∙ fork_free t q quota allowed_t in
      subst (λ k. HasTheSame (after_fork s q quota)
      (record t { spaces = copied t.spaces q k; book = map.insert t.book k (record { parent = q; quota = quota }) })
      q) (child_is_same s t finds)
      (child_has k quota (copied s.spaces q k) (copied t.spaces q k) live free free_t
      (copies k (live_differ s q k live free)))
    where
      copies : (k : ℕ) → q ≢ k → SameSpaces Q (Mine q) (copied s.spaces q k) (copied t.spaces q k)
      copies k d = record {
        flags = λ slot h. ap (option_map flags_of) (old s slot h) ∙ start.flags slot h
            ∙ sym (ap (option_map flags_of) (old t slot h));
        pages = λ slot h. ap (option_map shown_of) (old s slot h) ∙ start.pages slot h
            ∙ sym (ap (option_map shown_of) (old t slot h));
        groups = λ slot other h o.
            ap (λ (y : Option Cell). unwrap_or (option_map (λ (e : Cell). set.contains e.holders other) y) false)
            (old s slot h) ∙ start.groups slot other h o
            ∙ sym (ap (λ (y : Option Cell). unwrap_or (option_map (λ (e : Cell). set.contains e.holders other) y) false)
            (old t slot h));
      }
        where
          old : (u : State) (slot : Slot) → Mine q slot → map.get (copied u.spaces q k) slot ≡ map.get u.spaces slot
          old u slot h = copied-other u.spaces q k slot (λ is. d (sym (eqb-true slot.pid q h) ∙ is))

  alone_has_after : (c : Call) → takes_offer c ≡ false → makes_child c ≡ false → is_live s q ≡ true
      → completes (answer_of s q c) ≡ true → HasTheSame (after s q c) (after t q c) q
  alone_has_after c none no_child live h =
      member_has (after s q c) (after t q c) Q q (itself q)
      (after_one Q q (itself q) (Mine q) (λ page. itself q) s t (λ key. Q key.offerer ≡ true) (alone_has s t q l) c no_child
      live h (λ giver giver_page page is. absurd (let e : true ≡ false = sym (ap takes_offer is) ∙ none in cc)))

  parent_has : (c : Call) → takes_offer c ≡ false → makes_child c ≡ true → found s c ≡ found t c → is_live s q ≡ true
      → completes (answer_of s q c) ≡ true → completes (answer_of t q c) ≡ true → HasTheSame (after s q c) (after t q c) q
  parent_has (call.Spawn quota) none makes finds live h k =
      spawn_has quota finds live (not-refused (spawn_refusal s q quota) _ h) (not-refused (spawn_refusal t q quota) _ k)
  parent_has (call.Fork quota) none makes finds live h k =
      fork_has quota finds live (not-refused (fork_refusal s q quota) _ h) (not-refused (fork_refusal t q quota) _ k)
  parent_has _ none makes finds live h k = cc

  after_has : (c : Call) → takes_offer c ≡ false → found s c ≡ found t c → is_live s q ≡ true
      → completes (answer_of s q c) ≡ true → HasTheSame (after s q c) (after t q c) q
  after_has c none finds live h = by (makes_child c) refl
    where
      by : (b : Bool) → makes_child c ≡ b → HasTheSame (after s q c) (after t q c) q
      by true makes = parent_has c none makes finds live h (sym (ap completes (answer_of_same s t q l c none finds)) ∙ h)
      by false no_child = alone_has_after c none no_child live h

next_has : (s t : State) (e : Event) → HasTheSame s t e.pid → takes_offer e.call ≡ false
    → found s e.call ≡ found t e.call → HasTheSame (next s e) (next t e) e.pid
next_has s t e l none finds = by (completes (answer s e)) refl
  where
    told : answer s e ≡ answer t e
    told = told_by_own s t e l none finds

    by : (b : Bool) → completes (answer s e) ≡ b → HasTheSame (next s e) (next t e) e.pid
    by true h = grind (arith, caller_live, next-goes, told, after_has)
    by false h = grind (arith, next-stays, told)

pub own_is_enough : OwnIsEnough
own_is_enough s t e l finds none = alone_has (next s e) (next t e) e.pid
    (next_has s t e (member_has s t (λ p. p == e.pid) e.pid (itself e.pid) l) (taken e.call refl) finds)
  where
    taken : (c : Call) → e.call ≡ c → takes_offer c ≡ false
    taken c is = grind arith

-- ---- Any member

pub members_told_the_same : MembersToldTheSame
members_told_the_same s t e Q l mine finds accepts = process_told s t e (member_has s t Q e.pid mine l) finds accepts
