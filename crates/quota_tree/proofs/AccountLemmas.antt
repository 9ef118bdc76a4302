-- The containers that are made of accounts.
use Rattle.quota_tree.proofs.Prelude
use Prelude.{◌≡◌, ℕ, ◌+◌, ◌<◌, ◌≤◌, cond, List, [], ◌∷◌, length, length-set, drop, get_or, refl, sym, ap, subst, ◌∙◌, arith, inl, inr, Option, Some, None, unwrap_or, option_map, same_map, Container, container_in, Book, is_child, number_of_children, collected_from, collected, member_in, book_in, containers_in, account_at, counts_child, Agree, slice_get, slice_set, slice_index_or, cases_eq, cases_lt, drop_all, get_or_past, get_or-set_same, get_or-set_other, slice_get-get_or, get_or_from_slice_get, member_of, seen_as, IsBooked, HasRoot, IsQuotas}
use Rattle.quota_tree.specs.Accounts.{as_container}
use Rattle.quota_tree.specs.declared.accounts.Account.{Account}
use Rattle.quota_tree.proofs.CollectedLemmas.{get-before, get-collected}
use Rattle.quota_tree.proofs.Sums.{number-insert}

-- ---- Children

-- how many accounts of a list are of children of p, where the first is that of process k
abbrev pub children_from : ℕ → ℕ → List (Option Account) → ℕ
children_from p k [] = 0
children_from p k (a ∷ accounts) = counts_child p k a + children_from p (k + 1) accounts

number-from : (p k : ℕ) (accounts : List (Option Account)) → number_of_children (collected_from member_in k accounts) p ≡ children_from p k accounts
number-from p k [] = refl
number-from p k (None ∷ accounts) = let rest = number-from p (k + 1) accounts in omega (arith, rest)
number-from p k (Some a ∷ accounts) =
    number-insert (collected_from member_in (k + 1) accounts) k (member_in a) (get-before member_in (k + 1) accounts k (omega arith)) p
    ∙ ap (λ n. cond (is_child p (k, member_in a)) 1 0 + n) (number-from p (k + 1) accounts)

-- as many as the book has
pub number-all : (p : ℕ) (accounts : List (Option Account)) → number_of_children (book_in accounts) p ≡ children_from p 0 accounts
unfolding collected
number-all p accounts = number-from p 0 accounts

pub children-end : (p k : ℕ) (accounts : List (Option Account)) → length accounts ≤ k → children_from p k (drop k accounts) ≡ 0
children-end p k accounts past = ap (children_from p k) (drop_all k accounts past)

-- ---- Containers

pub fill_goes_on : {X : Type 0} (g : ℕ → X) (xs : List X) (k : ℕ) → k < length xs → ((p : ℕ) → p < k → slice_get xs p ≡ Some (g p))
    → (p : ℕ) → p < k + 1 → slice_get (slice_set xs k (g k)) p ≡ Some (g p)
fill_goes_on g xs k inside so_far p low = elim (cases_eq p k) [
  | inl e ↦
      slice_get-get_or (slice_set xs k (g k)) p (g k) (let s = length-set xs k (g k) in omega arith)
      ∙ ap Some (ap (λ j. get_or (slice_set xs k (g k)) j (g k)) e ∙ get_or-set_same xs k (g k) (g k) inside ∙ ap g (sym e))
  | inr n ↦
      slice_get-get_or (slice_set xs k (g k)) p (g k) (let s = length-set xs k (g k) in omega arith)
      ∙ ap Some (get_or-set_other xs k p (g k) (g k) n)
      ∙ sym (slice_get-get_or xs p (g k) (omega arith))
      ∙ so_far p (omega arith)
]

module _ (accounts : List (Option Account)) (containers : List (Option Container)) (long : length accounts ≡ 64) (places : length containers ≡ 64)
    (each : (p : ℕ) → p < 64 → slice_get containers p ≡ Some (container_in accounts p)) where
  container-is : (p : ℕ) → get_or containers p None ≡ container_in accounts p
  container-is p = grind (arith, cases_lt, get_or_from_slice_get, get_or_past)

  member-kept : (n : ℕ) (x : Option Account) → option_map member_of (option_map (as_container n) x) ≡ option_map member_in x
  member-kept n x = grind arith

  used-kept : (n : ℕ) (x : Option Account) → option_map (λ (c : Container). c.used) (option_map (as_container n) x) ≡ option_map (λ (a : Account). a.used) x
  used-kept n x = grind arith

  same-book : collected member_of containers ≡ book_in accounts
  same-book = search (arith, same_map, get-collected, container-is, member-kept)

  same-used : collected (λ (c : Container). c.used) containers ≡ collected (λ (a : Account). a.used) accounts
  same-used = search (arith, same_map, get-collected, container-is, used-kept)

  pub seen : seen_as containers ≡ containers_in accounts
  seen = λ i. record { book = same-book i; used = same-used i }

  booked : Agree accounts → (p : ℕ) (c : Container) → slice_index_or containers p None ≡ Some c → IsBooked (collected member_of containers) p c
  booked agree p c is = subst (λ (b : Book). IsBooked b p c) (sym same-book) (by (account_at accounts p) refl (sym (container-is p) ∙ is))
    where
      by : (x : Option Account) → account_at accounts p ≡ x → option_map (as_container (number_of_children (book_in accounts) p)) x ≡ Some c → IsBooked (book_in accounts) p c
      by None at h = cc
      by (Some a) at h =
          let k = agree.each p a at in
          let same : as_container (number_of_children (book_in accounts) p) a ≡ c = ap (λ o. unwrap_or o c) h in
          subst (IsBooked (book_in accounts) p) same (record { parent = k.parent; given = k.given; children = refl; used = k.used; within = k.within })

  pub are_quotas : Agree accounts → IsQuotas containers
  are_quotas agree = record { places = places; root = subst HasRoot (sym same-book) agree.root; each = booked agree }
