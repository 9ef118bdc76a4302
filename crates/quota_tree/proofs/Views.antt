-- What containers are seen as, what holds of every process, and what they keep where they open.
use Rattle.quota_tree.proofs.Prelude
use Prelude.{◌≡◌, ◌≢◌, ℕ, zero, suc, ◌+◌, ◌-◌, ◌<◌, ◌≤◌, true, false, not, List, ◌∷◌, length, replicate, get_or, is_some, refl, sym, ap, ◌∙◌, Option, Some, None, unwrap_or, arith, find, range_with_len, option_map, cases_lt, Container, Member, given, quota_of, next_number, collected, IsLive, used_of, room_of, total_used, opened_container, container_of, member_of, seen_as, IsBooked, IsQuotas, same_Some, as_container, opening, position, IfSome, get_or_past, length-replicate}
use Rattle.std.proofs.lemmas.List.Quantifiers.{position-Some}
use Rattle.quota_tree.proofs.CollectedLemmas.{get-collected, collected_from-replicate, find-position}
use Rattle.quota_tree.proofs.Sums.{Parents, costs_within}
use Rattle.page_words.specs.FiniteMap as map

pub IfSome-each : {A : Type 0} (P : A → Type 0) (o : Option A) → ((x : A) → o ≡ Some x → P x) → IfSome o P
IfSome-each P o h = grind arith

module _ (cs : List (Option Container)) where
  -- a live process has a container, and what is seen of it is what that says
  pub container_where_live : (p : ℕ) → IsLive (seen_as cs) p → (c : Container) × (get_or cs p None ≡ Some c)
  container_where_live p live = grind (arith, get-collected)

  -- a process is live exactly where it has a container
  pub live-is_some : (p : ℕ) → is_some (get_or cs p None) ≡ map.contains_key (collected member_of cs) p
  live-is_some p = grind (arith, get-collected)

  pub is_some-live : (p : ℕ) → IsLive (seen_as cs) p → is_some (get_or cs p None) ≡ true
  is_some-live p live = let c = container_where_live p live in ap is_some c.1

  module _ (p : ℕ) (c : Container) (h : get_or cs p None ≡ Some c) where
    pub get-member : map.get (collected member_of cs) p ≡ Some (member_of c)
    get-member = get-collected member_of cs p ∙ ap (option_map member_of) h

    pub live-container : IsLive (seen_as cs) p
    live-container = ap is_some get-member

    pub used_of-container : used_of (seen_as cs) p ≡ c.used
    used_of-container = ap (λ o. unwrap_or o 0) (get-collected (λ x. x.used) cs p ∙ ap (option_map (λ x. x.used)) h)

    pub quota_of-container : quota_of (collected member_of cs) p ≡ c.quota
    quota_of-container = ap (λ o. unwrap_or (option_map (λ m. m.quota) o) 0) get-member

  module _ (kept : IsQuotas cs) where
    member_kept : (p : ℕ) (m : Member) → map.get (collected member_of cs) p ≡ Some m → (c : Container) × (get_or cs p None ≡ Some c) × (m ≡ member_of c)
    member_kept p m h = grind (arith, container_where_live p (ap is_some h), same_Some, get-member)

    pub parents_live : Parents (collected member_of cs)
    parents_live p m h =
        let c = member_kept p m h in
        let k = kept.each p c.0 c.1 in
        let live : IsLive (seen_as cs) m.parent = ap (λ x. map.contains_key (collected member_of cs) x.parent) c.2 ∙ k.parent in
        grind (arith, container_where_live, get-member)

    pub each_quota : (p : ℕ) (m : Member) → map.get (collected member_of cs) p ≡ Some m → 1 ≤ m.quota
    each_quota p m h = grind (arith, member_kept p m h, kept.each p (member_kept p m h).0 (member_kept p m h).1)

    pub room_of-container : (p : ℕ) (c : Container) → get_or cs p None ≡ Some c → room_of (seen_as cs) p ≡ c.quota - c.used - c.given
    room_of-container p c h = grind (arith, kept.each p c h, quota_of-container, used_of-container)

    pub container_of-kept : (p : ℕ) → container_of (seen_as cs) p ≡ get_or cs p None
    container_of-kept p = by (get_or cs p None) refl
      where
        by : (o : Option Container) → get_or cs p None ≡ o → container_of (seen_as cs) p ≡ o
        by None is =
            let none : map.get (collected member_of cs) p ≡ None = get-collected member_of cs p ∙ ap (option_map member_of) is in
            ap (option_map (λ m. as_container (seen_as cs) p m)) none
        by (Some c) is =
            let k = kept.each p c is in
            ap (option_map (λ m. as_container (seen_as cs) p m)) (get-member p c is)
            ∙ (λ i. Some (record {
              parent = c.parent;
              quota = c.quota;
              used = used_of-container p c is i;
              given = sym k.given i;
              children = sym k.children i;
            }))

    pub within_places : (p : ℕ) (c : Container) → get_or cs p None ≡ Some c → p < length cs
    within_places p c h = grind (arith, cases_lt, get_or_past)

    pub next_number-position : next_number (collected member_of cs) ≡ position (λ c. not (is_some c)) cs
    next_number-position =
        ap (λ n. find (λ p. not (map.contains_key (collected member_of cs) p)) (range_with_len 0 n)) (sym kept.places)
        ∙ find-position (λ c. not (is_some c)) (λ p. not (map.contains_key (collected member_of cs) p)) None 0 cs alike
        ∙ from_0 (position (λ c. not (is_some c)) cs)
      where
        present : (o : Option Container) → is_some (option_map member_of o) ≡ is_some o
        present o = grind arith

        alike : (i : ℕ) → i < length cs → not (map.contains_key (collected member_of cs) (0 + i)) ≡ not (is_some (get_or cs i None))
        alike i h = let e : 0 + i ≡ i = omega arith in ap (λ k. not (map.contains_key (collected member_of cs) k)) e ∙ ap (λ o. not (is_some o)) (get-collected member_of cs i) ∙ ap not (present (get_or cs i None))

        from_0 : (o : Option ℕ) → option_map (λ i. 0 + i) o ≡ o
        from_0 o = grind arith

    -- the next number's place is empty
    pub absent_at : (k : ℕ) → next_number (collected member_of cs) ≡ Some k → (k < length cs) × (get_or cs k None ≡ None)
    absent_at k h =
        let found = position-Some (λ c. not (is_some c)) cs k None (sym next_number-position ∙ h) in
        grind arith

    -- all together use at most the root's quota
    pub within_root : total_used (seen_as cs) ≤ quota_of (collected member_of cs) 0
    within_root =
        let root = kept.root in
        let h = costs_within (collected member_of cs) (used_of (seen_as cs)) (record { parent = 0; quota = root.quota }) root.is parents_live each in
        let e : quota_of (collected member_of cs) 0 ≡ root.quota = ap (λ o. unwrap_or (option_map (λ m. m.quota) o) 0) root.is in
        omega (arith, h, e)
      where
        each : (p : ℕ) (m : Member) → map.get (collected member_of cs) p ≡ Some m → used_of (seen_as cs) p + given (collected member_of cs) p ≤ m.quota
        each p m h =
            let c = member_kept p m h in
            let k = kept.each p c.0 c.1 in
            let used = used_of-container p c.0 c.1 in
            let given_is = k.given in
            let e : m.quota ≡ c.0.quota = ap (λ x. x.quota) c.2 in
            omega arith

-- ---- What holds of every process

module _ (cs : List (Option Container)) (kept : IsQuotas cs) where
  pub all_numbers : (p : ℕ) → IsLive (seen_as cs) p → p < 64
  all_numbers p live = grind (arith, container_where_live, within_places)

  pub all_parents : (p : ℕ) (m : Member) → map.get (collected member_of cs) p ≡ Some m → IsLive (seen_as cs) m.parent
  all_parents p m h = let parent = parents_live cs kept p m h in ap is_some parent.1

  pub all_used : (p : ℕ) → IsLive (seen_as cs) p → 1 ≤ used_of (seen_as cs) p
  all_used p live =
      let c = container_where_live cs p live in
      let used = (kept.each p c.0 c.1).used in
      grind (arith, used_of-container)

  pub all_within : (p : ℕ) → IsLive (seen_as cs) p → used_of (seen_as cs) p + given (collected member_of cs) p ≤ quota_of (collected member_of cs) p
  all_within p live =
      let c = container_where_live cs p live in
      let k = kept.each p c.0 c.1 in
      grind (arith, used_of-container, quota_of-container)

-- ---- The opening

module _ (n quota : ℕ) (some : 1 ≤ quota) where
  collected-opening : {X : Type 0} (f : Container → X) → collected f (Some (opened_container 0 quota) ∷ replicate n None) ≡ map.insert map.empty 0 (f (opened_container 0 quota))
  unfolding collected
  collected-opening f = ap (λ m. map.insert m 0 (f (opened_container 0 quota))) (collected_from-replicate f 1 n)

  pub seen_as-opening : seen_as (Some (opened_container 0 quota) ∷ replicate n None) ≡ opening quota
  seen_as-opening = λ i. record { book = collected-opening member_of i; used = collected-opening (λ c. c.used) i }

  none_later : (m i : ℕ) (c : Container) → get_or (replicate m None) i None ≢ Some c
  none_later zero i c h = absurd (let f : false ≡ true = ap is_some h in cc)
  none_later (suc m) zero c h = absurd (let f : false ≡ true = ap is_some h in cc)
  none_later (suc m) (suc i) c h = none_later m i c h

  pub quotas-opening : suc n ≡ 64 → IsQuotas (Some (opened_container 0 quota) ∷ replicate n None)
  quotas-opening places = record {
    places = ap suc (length-replicate n None) ∙ places;
    root = record { quota = quota; is = ap (λ b. map.get b 0) (collected-opening member_of) };
    each = each;
  }
    where
      root_kept : IsBooked (map.insert map.empty 0 (member_of (opened_container 0 quota))) 0 (opened_container 0 quota)
      root_kept = record { parent = refl; given = refl; children = refl; used = omega arith; within = some }

      each : (p : ℕ) (c : Container) → get_or (Some (opened_container 0 quota) ∷ replicate n None) p None ≡ Some c → IsBooked (collected member_of (Some (opened_container 0 quota) ∷ replicate n None)) p c
      each k c h = grind (arith, collected-opening, same_Some, root_kept, none_later)
