-- What the event of a member does to what all members see depends on what they see alone.
use Rattle.authority_laws.proofs.Prelude.{◌≡◌, ◌≢◌, ℕ, ◌+◌, ◌||◌, ◌==◌, Bool, true, false, cond, refl, sym, ap, subst, ◌∙◌, Option, Some, None, is_some, unwrap_or, arith, inl, inr, ◌⊎◌, option_map, cases_eq, ne_eqb, and_parts, same, nat_order, get-insert, no_value, same_cases, Slot, Cell, Spaces, is_of, at_page, copied, copied-own, copied-other, Member, is_child, given, number_of_children, next_number, given-insert, given-none, number-insert, number-none, OfferKey, State, is_live, child_of, accept_refusal, spawn_refusal, fork_refusal, after_offer, after_spawn, after_fork, IsWellFormed, lone, child_free, fork_free, no_page, parents_in, may_accept, Flags, flags_of, Shown, shown_of, shares, is_offered, Sees, LooksSame, found, members_after, MembersSeeTheSame, answer, answer_of, after, next, completes, Call, Event, eq-eqb, or-true, AreOne, next-stays, next-goes, not-refused, caller_live, no_parent}
use Rattle.authority_laws.proofs.Children.{with_child, own_seen, no_offer_by, no_offer_to, AreLone, none_lone, copy_lone, copy_flags, copy_shown}
use Rattle.authority_laws.proofs.Confined.{shared_live}
use Rattle.authority_laws.proofs.Seen.{kept_key}
use Rattle.authority_laws.proofs.Standings.{live_in, quota_in, given_in, children_in}
use Rattle.authority_laws.proofs.SharingStays.{makes_child, next_live}
use Rattle.authority_laws.proofs.Views.{sees, sees_own, child_is_same, process_told}
use Rattle.authority_laws.proofs.TogetherSpaces.{shares_in, after_one}
use Rattle.page_words.specs.FiniteMap as map
use Rattle.page_words.specs.FiniteSet as set
use Rattle.kernel_calls.specs.declared.calls.Call.TheVariants as call

-- ---- States that look the same

pub weaken : (s t : State) (Q D : ℕ → Bool) → ((p : ℕ) → D p ≡ true → Q p ≡ true) → LooksSame s t Q → LooksSame s t D
weaken s t Q D less l = grind arith

pub told_same : (s t : State) (e : Event) (Q : ℕ → Bool) → LooksSame s t Q → Q e.pid ≡ true
    → found s e.call ≡ found t e.call → answer s e ≡ answer t e
told_same s t e Q l mine finds = grind (arith, process_told, live_in, quota_in, given_in, children_in, sees_own)

-- a call that makes no child shows no slot more: where no offer is new, nothing new is seen
fewer_seen : (s u : State) (Q : ℕ → Bool) → ((key : OfferKey) → map.contains_key u.offers key ≡ true
    → map.contains_key s.offers key ≡ true) → (slot : Slot) → Sees u Q slot → Sees s Q slot
fewer_seen s u Q fewer slot v = grind arith

-- and an offer is of a slot of its process
offer_seen : (s : State) (Q : ℕ → Bool) (q page target : ℕ) (write : Bool) → Q q ≡ true
    → (slot : Slot) → Sees (after_offer s q page target write) Q slot → Sees s Q slot
offer_seen s Q q page target write mine slot v = by (is_of v.0 slot) refl v.2
  where
    own_slots : (slot : Slot) → is_of q slot ≡ true → Sees s Q slot
    own_slots slot h = (q, mine, ap (λ b. b || is_offered s q slot) h)

    by : (b : Bool) → is_of v.0 slot ≡ b → (b || is_offered (after_offer s q page target write) v.0 slot) ≡ true
        → Sees s Q slot
    by b is h = grind (arith, same_cases, own_slots, eq-eqb, get-insert)

seen_before : (s : State) (Q : ℕ → Bool) (q : ℕ) (c : Call) → Q q ≡ true → makes_child c ≡ false
    → (slot : Slot) → Sees (after s q c) Q slot → Sees s Q slot
seen_before s Q q (call.Offer page target write) mine none = offer_seen s Q q page target write mine
seen_before s Q q c mine none = fewer_seen s (after s q c) Q (first_of (assumption, search kept_key))

-- ---- A child joins them

abbrev grown : (ℕ → Bool) → ℕ → ℕ → Bool
grown Q k p = Q p || (p == k)

module _ (s t : State) (Q : ℕ → Bool) (q k quota : ℕ) (w : IsWellFormed s) (v : IsWellFormed t) (l : LooksSame s t Q)
    (free : is_live s k ≡ false) (free_t : is_live t k ≡ false) (S T : Spaces)
    (others : (slot : Slot) → slot.pid ≢ k → map.get S slot ≡ map.get s.spaces slot)
    (others_too : (slot : Slot) → slot.pid ≢ k → map.get T slot ≡ map.get t.spaces slot)
    (flags : (page : ℕ) → option_map flags_of (map.get S (at_page k page)) ≡ option_map flags_of
    (map.get T (at_page k page)))
    (pages : (page : ℕ) → option_map shown_of (map.get S (at_page k page)) ≡ option_map shown_of
    (map.get T (at_page k page)))
    (alone : AreLone S k) (alone_too : AreLone T k) where
  abbrev child : Member
  child = record { parent = q; quota = quota }

  -- who is not the child was a member
  was : (p : ℕ) → grown Q k p ≡ true → p ≢ k → Q p ≡ true
  was p h d = grind (arith, ne_eqb)

  here : (slot : Slot) → slot.pid ≡ k → slot ≡ at_page k slot.page
  here slot is = λ i. record { pid = is i; page = slot.page }

  old : (slot : Slot) → Sees (with_child s q k quota S) (grown Q k) slot → slot.pid ≢ k → Sees s Q slot
  old slot u d = grind (arith, cases_eq, own_seen, sees, with_child, was)

  group_of : (page : ℕ) (other : Slot) → shares_in S (at_page k page) other ≡ shares_in T (at_page k page) other
  group_of page other = by (map.get S (at_page k page)) (map.get T (at_page k page)) refl refl (pages page)
    where
      by : (x y : Option Cell) → map.get S (at_page k page) ≡ x → map.get T (at_page k page) ≡ y
          → option_map shown_of x ≡ option_map shown_of y
          → unwrap_or (option_map (λ (c : Cell). set.contains c.holders other) x) false ≡ unwrap_or
          (option_map (λ (c : Cell). set.contains c.holders other) y) false
      by x y a b h = grind arith

  -- who is not live is in no group
  not_in : (u : State) → IsWellFormed u → is_live u k ≡ false → (slot other : Slot) → other.pid ≡ k → (b : Bool)
      → shares u slot other ≡ b → b ≡ false
  not_in u x dead slot other is b h = grind (arith, shared_live)

  no_offers : (key : OfferKey) → (key.offerer ≡ k) ⊎ (key.target ≡ k) → map.get s.offers key ≡ map.get t.offers key
  no_offers key h = grind (arith, no_offer_by, no_offer_to)

  child_together : LooksSame (with_child s q k quota S) (with_child t q k quota T) (grown Q k)
  child_together = record {
    standing = λ r h. λ i. record {
      live = (ap is_some (get-insert s.book k child r) ∙ by_live r h (same_cases nat_order r k)
          ∙ sym (ap is_some (get-insert t.book k child r))) i;
      quota = (ap (λ (x : Option Member). unwrap_or (option_map (λ (m : Member). m.quota) x) 0) (get-insert s.book k child r)
          ∙ by_quota r h (same_cases nat_order r k)
          ∙ sym (ap (λ (x : Option Member). unwrap_or (option_map (λ (m : Member). m.quota) x) 0)
          (get-insert t.book k child r))) i;
      given = (given-insert s.book k child none r ∙ ap (λ n. cond (is_child r (k, child)) quota 0 + n)
          (given_same r h (cases_eq r k)) ∙ sym (given-insert t.book k child none_t r)) i;
      children = (number-insert s.book k child none r ∙ ap (λ n. cond (is_child r (k, child)) 1 0 + n)
          (children_same r h (cases_eq r k)) ∙ sym (number-insert t.book k child none_t r)) i;
    };
    families = grind (arith, get-insert, by_family, same_cases, cases_eq);
    flags = λ slot h. elim (cases_eq slot.pid k) [
      | inl is ↦ subst (λ x. option_map flags_of (map.get S x) ≡ option_map flags_of (map.get T x)) (sym (here slot is))
          (flags slot.page)
      | inr d ↦ grind (arith, was)
    ];
    offers = λ key h. offers_same key h;
    pages = λ slot u. elim (cases_eq slot.pid k) [
      | inl is ↦ subst (λ x. option_map shown_of (map.get S x) ≡ option_map shown_of (map.get T x)) (sym (here slot is))
          (pages slot.page)
      | inr d ↦ grind (arith, old)
    ];
    same_page = λ slot other u x. elim (cases_eq slot.pid k) [
      | inl is ↦ subst (λ y. shares_in S y other ≡ shares_in T y other) (sym (here slot is)) (group_of slot.page other)
      | inr d ↦
          ap (λ (y : Option Cell). unwrap_or (option_map (λ (c : Cell). set.contains c.holders other) y) false)
          (others slot d)
          ∙ (elim (cases_eq other.pid k) [
            | inl new ↦ not_in s w free slot other new (shares s slot other) refl
                ∙ sym (not_in t v free_t slot other new (shares t slot other) refl)
            | inr n ↦ l.same_page slot other (old slot u d) (old other x n)
          ])
          ∙ sym (ap (λ (y : Option Cell). unwrap_or (option_map (λ (c : Cell). set.contains c.holders other) y) false)
          (others_too slot d))
    ];
  }
    where
      none : map.get s.book k ≡ None
      none = no_value (map.get s.book k) free

      none_t : map.get t.book k ≡ None
      none_t = no_value (map.get t.book k) free_t

      by_live : (p : ℕ) → grown Q k p ≡ true → ((p ≡ k) × (same nat_order p k ≡ true))
          ⊎ ((p ≢ k) × (same nat_order p k ≡ false))
          → is_some (cond (same nat_order p k) (Some child) (map.get s.book p)) ≡ is_some
          (cond (same nat_order p k) (Some child) (map.get t.book p))
      by_live p h k = grind (arith, live_in, was)

      by_family : (p r : ℕ) → grown Q k p ≡ true → grown Q k r ≡ true → p ≢ r
          → ((r ≡ k) × (same nat_order r k ≡ true)) ⊎ ((r ≢ k) × (same nat_order r k ≡ false)) → (p ≡ k) ⊎ (p ≢ k)
          → unwrap_or (option_map (λ (m : Member). is_child p (r, m))
          (cond (same nat_order r k) (Some child) (map.get s.book r))) false ≡ unwrap_or
          (option_map (λ (m : Member). is_child p (r, m))
          (cond (same nat_order r k) (Some child) (map.get t.book r))) false
      by_family p r hp hr d (inl is) c = grind arith
      by_family p r hp hr d (inr other) c =
          ap (λ b. unwrap_or (option_map (λ (m : Member). is_child p (r, m)) (cond b (Some child) (map.get s.book r)))
          false) other.1
          ∙ (elim c [
            | inl is ↦ grind (arith, no_parent)
            | inr n ↦ l.families p r (was p hp n) (was r hr other.0) d
          ])
          ∙ sym (ap (λ b. unwrap_or (option_map (λ (m : Member). is_child p (r, m))
          (cond b (Some child) (map.get t.book r))) false) other.1)

      by_quota : (r : ℕ) → grown Q k r ≡ true → ((r ≡ k) × (same nat_order r k ≡ true))
          ⊎ ((r ≢ k) × (same nat_order r k ≡ false))
          → unwrap_or (option_map (λ (m : Member). m.quota) (cond (same nat_order r k) (Some child) (map.get s.book r)))
          0 ≡ unwrap_or (option_map (λ (m : Member). m.quota)
          (cond (same nat_order r k) (Some child) (map.get t.book r))) 0
      by_quota r h k = grind (arith, quota_in, was)

      given_same : (r : ℕ) → grown Q k r ≡ true → (r ≡ k) ⊎ (r ≢ k) → given s.book r ≡ given t.book r
      given_same r h (inl is) = ap (given s.book) is ∙ given-none s.book k none (parents_in s w)
          ∙ sym (ap (given t.book) is ∙ given-none t.book k none_t (parents_in t v))
      given_same r h (inr d) = ap given_in (l.standing r (was r h d))

      children_same : (r : ℕ) → grown Q k r ≡ true → (r ≡ k) ⊎ (r ≢ k)
          → number_of_children s.book r ≡ number_of_children t.book r
      children_same r h (inl is) = ap (number_of_children s.book) is ∙ number-none s.book k none (parents_in s w)
          ∙ sym (ap (number_of_children t.book) is ∙ number-none t.book k none_t (parents_in t v))
      children_same r h (inr d) = ap children_in (l.standing r (was r h d))

      offers_same : (key : OfferKey) → (grown Q k key.offerer ≡ true) ⊎ (grown Q k key.target ≡ true)
          → map.get s.offers key ≡ map.get t.offers key
      offers_same key h = grind (arith, cases_eq, no_offers, was)

module _ (s t : State) (Q : ℕ → Bool) (q quota : ℕ) (w : IsWellFormed s) (v : IsWellFormed t) (mine : Q q ≡ true)
    (l : LooksSame s t Q) where
  spawn_together : next_number s.book ≡ next_number t.book → spawn_refusal s q quota ≡ None
      → spawn_refusal t q quota ≡ None → LooksSame (after_spawn s q quota) (after_spawn t q quota)
      (grown Q (child_of s))
  spawn_together finds allowed allowed_t =
      let k = child_of s in
      let free = child_free s q quota allowed in
      let free_t = ap (is_live t) (child_is_same s t finds) ∙ child_free t q quota allowed_t in
      let none = no_page s k w free in
      let none_t = no_page t k v free_t in
      subst (λ n. LooksSame (after_spawn s q quota) (with_child t q n quota t.spaces) (grown Q k))
      (child_is_same s t finds)
      (child_together s t Q q k quota w v l free free_t s.spaces t.spaces (λ slot d. refl) (λ slot d. refl)
      (λ page. ap (option_map flags_of) (none page ∙ sym (none_t page)))
      (λ page. ap (option_map shown_of) (none page ∙ sym (none_t page)))
      (none_lone s.spaces k none) (none_lone t.spaces k none_t))

  fork_together : next_number s.book ≡ next_number t.book → fork_refusal s q quota ≡ None
      → fork_refusal t q quota ≡ None → LooksSame (after_fork s q quota) (after_fork t q quota) (grown Q (child_of s))
  fork_together finds allowed allowed_t =
      let k = child_of s in
      let free_t = ap (is_live t) (child_is_same s t finds) ∙ fork_free t q quota allowed_t in
      subst (λ n. LooksSame (after_fork s q quota) (with_child t q n quota (copied t.spaces q n)) (grown Q k))
      (child_is_same s t finds)
      (child_together s t Q q k quota w v l (fork_free s q quota allowed) free_t (copied s.spaces q k)
      (copied t.spaces q k)
      (λ slot d. copied-other s.spaces q k slot d) (λ slot d. copied-other t.spaces q k slot d)
      (λ page. ap (option_map flags_of) (copied-own s.spaces q k page)
      ∙ copy_flags (at_page k page) (map.get s.spaces (at_page q page))
      ∙ ap (option_map (λ (f : Flags). record f { accessed = false; dirty = false }))
      (l.flags (at_page q page) mine)
      ∙ sym (copy_flags (at_page k page) (map.get t.spaces (at_page q page)))
      ∙ sym (ap (option_map flags_of) (copied-own t.spaces q k page)))
      (λ page. ap (option_map shown_of) (copied-own s.spaces q k page)
      ∙ copy_shown (at_page k page) (map.get s.spaces (at_page q page))
      ∙ ap (option_map (λ (f : Shown). record f { holders = set.len (lone (at_page k page)) }))
      (l.pages (at_page q page) (q, mine, sees_own s q page))
      ∙ sym (copy_shown (at_page k page) (map.get t.spaces (at_page q page)))
      ∙ sym (ap (option_map shown_of) (copied-own t.spaces q k page)))
      (copy_lone s.spaces q k) (copy_lone t.spaces q k))

-- ---- All calls

-- who is a member after a call: who was, or the child that is made
abbrev Small : State → (ℕ → Bool) → (ℕ → Bool) → Call → Type 0
Small s Q D c = (p : ℕ) → D p ≡ true → (Q p ≡ true) ⊎ ((p ≡ child_of s) × (makes_child c ≡ true))

module _ (s t : State) (Q D : ℕ → Bool) (q : ℕ) (w : IsWellFormed s) (v : IsWellFormed t) (mine : Q q ≡ true)
    (l : LooksSame s t Q) where
  with_grown : (a b : State) (c : Call) → Small s Q D c → LooksSame a b (grown Q (child_of s)) → LooksSame a b D
  with_grown a b c small = weaken a b (grown Q (child_of s)) D (λ p h. elim (small p h) [
    | inl member ↦ ap (λ x. x || (p == child_of s)) member
    | inr born ↦ ap (λ x. Q p || x) (eq-eqb p (child_of s) born.0) ∙ or-true (Q p)
  ])

  alone_together : (c : Call) → makes_child c ≡ false → Small s Q D c → is_live s q ≡ true
      → completes (answer_of s q c) ≡ true → LooksSame (after s q c) (after t q c) D
  alone_together c none small live h = weaken (after s q c) (after t q c) Q D less
      (record {
        standing = one.standing;
        families = one.families;
        flags = one.flags;
        offers = one.offers;
        pages = λ slot v. one.pages slot (seen slot v);
        same_page = λ slot other v o. one.same_page slot other (seen slot v) (seen other o);
      })
    where
      less : (p : ℕ) → D p ≡ true → Q p ≡ true
      less p member = elim (small p member) [
        | inl was ↦ was
        | inr born ↦ absurd (let x = born.1 in cc)
      ]

      seen : (slot : Slot) → Sees (after s q c) Q slot → Sees s Q slot
      seen = seen_before s Q q c mine none

      one : AreOne (after s q c) (after t q c) Q (λ key. (Q key.offerer ≡ true) ⊎ (Q key.target ≡ true)) (Sees s Q)
      one = after_one Q q mine (Sees s Q) (λ page. (q, mine, sees_own s q page)) s t _ l c none live h (λ giver giver_page page is. (
        (
          q,
          mine,
          ap (λ b. is_of q (at_page giver giver_page) || b) (may_accept s q giver giver_page page
              (not-refused (accept_refusal s q giver giver_page page) _
              (sym (ap (λ c. completes (answer_of s q c)) is) ∙ h))).there ∙ or-true (is_of q (at_page giver giver_page)),
        ),
        inr mine,
      ))

  child_joins : (c : Call) → makes_child c ≡ true → Small s Q D c → found s c ≡ found t c
      → completes (answer_of s q c) ≡ true → completes (answer_of t q c) ≡ true → LooksSame (after s q c) (after t q c) D
  child_joins (call.Spawn quota) makes small finds h k =
      with_grown _ _ (call.Spawn quota) small (spawn_together s t Q q quota w v mine l finds
      (not-refused (spawn_refusal s q quota) _ h) (not-refused (spawn_refusal t q quota) _ k))
  child_joins (call.Fork quota) makes small finds h k =
      with_grown _ _ (call.Fork quota) small (fork_together s t Q q quota w v mine l finds
      (not-refused (fork_refusal s q quota) _ h) (not-refused (fork_refusal t q quota) _ k))
  child_joins _ makes small finds h k = cc

  after_together : (c : Call) → Small s Q D c → found s c ≡ found t c → is_live s q ≡ true
      → completes (answer_of s q c) ≡ true → completes (answer_of t q c) ≡ true → LooksSame (after s q c) (after t q c) D
  after_together c small finds live h k = by (makes_child c) refl
    where
      by : (b : Bool) → makes_child c ≡ b → LooksSame (after s q c) (after t q c) D
      by true makes = child_joins c makes small finds h k
      by false none = alone_together c none small live h

-- who lives on is a member where it was, and who is new is a child
module _ (s : State) (Q : ℕ → Bool) (e : Event) where
  pub members_small : completes (answer s e) ≡ true → Small s Q (members_after s Q e) e.call
  members_small done p h = grind (arith, and_parts, makes_child, next_live, caller_live)

  pub members_stay : completes (answer s e) ≡ false → (p : ℕ) → members_after s Q e p ≡ true → Q p ≡ true
  members_stay none p h = grind (arith, next-stays, and_parts)

pub members_see_the_same : MembersSeeTheSame
members_see_the_same s t e Q w v l mine finds = by (completes (answer s e)) refl
  where
    told : completes (answer s e) ≡ completes (answer t e)
    told = ap completes (told_same s t e Q l mine finds)

    by : (b : Bool) → completes (answer s e) ≡ b → LooksSame (next s e) (next t e) (members_after s Q e)
    by true h =
        let c = caller_live s e h in
        let d = caller_live t e (sym told ∙ h) in
        subst (λ u. LooksSame u (next t e) (members_after s Q e)) (sym (next-goes s e h))
        (subst (λ u. LooksSame (after s e.pid e.call) u (members_after s Q e)) (sym (next-goes t e (sym told ∙ h)))
        (after_together s t Q (members_after s Q e) e.pid w v mine l e.call (members_small s Q e h) finds c.0 c.1 d.1))
    by false h = grind (arith, next-stays, told, weaken, members_stay)
