-- A new child is a family by itself, and what a family has in two runs.
use Rattle.authority_laws.proofs.Prelude.{arith, FamiliesEndTheSame, ◌≡◌, ◌≢◌, ◌==◌, ◌&&◌, not, ℕ, Bool, true, false, refl, ap, sym, subst, ◌∙◌, inl, inr, Option, Some, None, unwrap_or, eqb-true, option_map, Slot, Cell, at_page, Member, is_child, IsApart, lone, spawn_alike, fork_alike, live_differ, State, is_live, child_of, IsWellFormed, shares, is_child_of, IsFamily, NewbornsAreFamilies, answer, next, after, Event, in_lone, maker_of, child_dead, next-goes}
use Rattle.authority_laws.proofs.Hearing.{families_hear}
use Rattle.authority_laws.proofs.Children.{place_of, children_are_their_makers}
use Rattle.page_words.specs.FiniteMap as map
use Rattle.page_words.specs.FiniteSet as set
use Rattle.kernel_calls.specs.declared.calls.Reply.TheVariants as reply

module _ (s : State) (e : Event) (child : ℕ) (w : IsWellFormed s) (told : answer s e ≡ reply.Child child) where
  abbrev t : State
  t = next s e

  apart : IsApart t child
  apart = let b = maker_of s e child told in elim b.birth.1 [
    | inl spawned ↦ subst (λ k. IsApart t k) b.birth.0
        (subst (λ u. IsApart u (child_of s)) (sym (next-goes s e b.done ∙ ap (after s e.pid) spawned.1))
        (spawn_alike s e.pid 0 spawned.0 w b.live spawned.2).one)
    | inr forked ↦ subst (λ k. IsApart t k) b.birth.0
        (subst (λ u. IsApart u (child_of s)) (sym (next-goes s e b.done ∙ ap (after s e.pid) forked.1))
        (fork_alike s e.pid 0 forked.0 w b.live forked.2).one)
  ]

  alone : (slot other : Slot) → (slot.pid == child) ≡ true → (other.pid == child) ≡ false → shares t slot other ≡ false
  alone slot other mine theirs = by (map.get t.spaces slot) refl
    where
      here : at_page child slot.page ≡ slot
      here = λ i. record { pid = sym (eqb-true slot.pid child mine) i; page = slot.page }

      differ : other ≢ slot
      differ is = let a = ap (λ (x : Slot). x.pid == child) is in let m = mine in let o = theirs in cc

      by : (x : Option Cell) → map.get t.spaces slot ≡ x → shares t slot other ≡ false
      by None is = ap (λ (x : Option Cell). unwrap_or (option_map (λ (c : Cell). set.contains c.holders other) x) false) is
      by (Some c) is =
          ap (λ (x : Option Cell). unwrap_or (option_map (λ (c : Cell). set.contains c.holders other) x) false) is
          ∙ ap (λ h. set.contains h other) (apart.shares_none slot.page c (ap (map.get t.spaces) here ∙ is) ∙ ap lone here)
          ∙ in_lone slot other differ

  childless : (p q : ℕ) → (p == child) ≡ true → is_child_of t p q ≡ true → ⊥
  childless p q is has = elim (place_of s e q) [
    | inl same_place ↦ (
        let m = child_place (map.get s.book q) (sym (ap child_in same_place) ∙ has) in
        let parent = (w.processes q m.0 m.1).1 in
        let dead = child_dead s e child told in
        let e1 : m.0.parent ≡ child = m.2 ∙ eqb-true p child is in
        let l : is_live s child ≡ true = ap (is_live s) (sym e1) ∙ parent in
        cc)
    | inr differs ↦ elim differs [
      | inl born ↦ grind (arith, children_are_their_makers, child_place, live_differ, maker_of, child_dead, eqb-true)
      | inr gone ↦ (let x = ap child_in gone.2 in let y = has in cc)
    ]
  ]
    where
      child_in : Option Member → Bool
      child_in x = unwrap_or (option_map (λ (m : Member). is_child p (q, m)) x) false

      second : (a b : Bool) → (a && b) ≡ true → b ≡ true
      second a b h = grind arith

      child_place : (x : Option Member) → child_in x ≡ true → (m : Member) × (x ≡ Some m) × (m.parent ≡ p)
      child_place None h = cc
      child_place (Some m) h = (m, refl, eqb-true m.parent p (second (not (q == 0)) (m.parent == p) h))

  pub newborn : IsFamily t (λ q. q == child)
  newborn = record {
    confined = record {
      shares_none = alone;
      offers_none = λ key right pending mine. absurd (apart.offers_none key right pending (eqb-true key.offerer child mine));
    };
    live = λ p is. ap (is_live t) (eqb-true p child is) ∙ apart.live;
    children = λ p q is has. absurd (childless p q is has);
  }

pub newborns_are_families : NewbornsAreFamilies
newborns_are_families s e child w told = newborn s e child w told

-- what a family has is the same at the end of two runs
pub families_end_the_same : FamiliesEndTheSame
families_end_the_same s t h events others w v family family_t l within within_t alike = grind (arith, families_hear)
