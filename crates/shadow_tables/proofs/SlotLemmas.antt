-- The map of all translations, by the translation of each slot.
use Rattle.std.proofs.Common.{◌≡◌, ◌≢◌, ℕ, zero, suc, ◌+◌, ◌<◌, ◌≤◌, ◌⊎◌, true, false, not, cond, ◌||◌, Some, None, is_some, refl, sym, ap, ◌∙◌, arith, inl, inr}
use Rattle.std.specs.Prelude.{◌==◌}
use Rattle.std.specs.List.{list_any}
use Rattle.std.proofs.lemmas.Bool.{cases_eq, cases_lt}
use Rattle.std.proofs.lemmas.Bool.Decides.{nat_tests}
use Rattle.std.proofs.lemmas.List.Folds.{list_any-append}
use Rattle.page_words.specs.Addresses.{IsUserPage}
use Rattle.page_words.specs.FiniteMap as map
use Rattle.page_words.specs.FiniteMap.{same}
use Rattle.page_words.proofs.MapLemmas.{get-insert, get-retain_keys, get-collect, same_map}
use Rattle.page_words.proofs.SetLemmas.{same_cases, get-remove}
use Rattle.shadow_tables.specs.declared.tables.Tables.{Tables}
use Rattle.shadow_tables.specs.declared.tables.Translation.{Translation}
use Rattle.shadow_tables.specs.Shadow.{Slot, at_page, slot_order}
use Rattle.shadow_tables.specs.Tables.{slots_of, user_slots, translation_at, translation_of, translations_in}

-- a slot is none of a process's user pages
abbrev pub IsOut : Slot → Type 0
IsOut q = (64 ≤ q.pid) ⊎ ((q.page < 0x40000) ⊎ (0xf0000 ≤ q.page))

pub slot_cases : (q : Slot) → ((q.pid < 64) × IsUserPage q.page) ⊎ IsOut q
slot_cases q = grind (arith, cases_lt)

any-slots_in : (q : Slot) (p first count : ℕ) → q.pid ≡ p → first ≤ q.page → q.page < first + count → list_any (same slot_order q) (slots_of p first count) ≡ true
unfolding slots_of
any-slots_in q p first zero e low high = absurd (omega arith)
any-slots_in q p first (suc count) e low high = elim (same_cases slot_order q (at_page p first)) [
  | inl h ↦ ap (λ b. b || list_any (same slot_order q) (slots_of p (first + 1) count)) h.1
  | inr h ↦
      let n : q.page ≢ first = λ s. h.0 (λ i. record { pid = e i; page = s i }) in
      ap (λ b. b || list_any (same slot_order q) (slots_of p (first + 1) count)) h.1 ∙ any-slots_in q p (first + 1) count e (omega arith) (omega arith)
]

any-slots_out : (q : Slot) (p first count : ℕ) → (q.pid ≢ p) ⊎ ((q.page < first) ⊎ (first + count ≤ q.page)) → list_any (same slot_order q) (slots_of p first count) ≡ false
unfolding slots_of
any-slots_out q p first zero h = refl
any-slots_out q p first (suc count) out = elim (same_cases slot_order q (at_page p first)) [
  | inl h ↦ absurd (let pid = ap (λ s. s.pid) h.0 in let page = ap (λ s. s.page) h.0 in elim out [ inl n ↦ n pid | inr far ↦ elim far [ inl less ↦ omega arith | inr more ↦ omega arith ] ])
  | inr h ↦
      ap (λ b. b || list_any (same slot_order q) (slots_of p (first + 1) count)) h.1
      ∙ any-slots_out q p (first + 1) count (elim out [ inl n ↦ inl n | inr far ↦ inr (elim far [ inl less ↦ inl (omega arith) | inr more ↦ inr (omega arith) ]) ])
]

any-user_in : (q : Slot) (n : ℕ) → q.pid < n → IsUserPage q.page → list_any (same slot_order q) (user_slots n) ≡ true
unfolding user_slots
any-user_in q zero h user = absurd (omega arith)
any-user_in q (suc n) h user =
    list_any-append (same slot_order q) (slots_of n 0x40000 0xb0000) (user_slots n)
    ∙ elim (cases_eq q.pid n) [
      | inl e ↦ ap (λ b. b || list_any (same slot_order q) (user_slots n)) (any-slots_in q n 0x40000 0xb0000 e user.0 user.1)
      | inr m ↦
          ap (λ b. b || list_any (same slot_order q) (user_slots n)) (any-slots_out q n 0x40000 0xb0000 (inl m))
          ∙ any-user_in q n (omega arith) user
    ]

any-user_out : (q : Slot) (n : ℕ) → (n ≤ q.pid) ⊎ ((q.page < 0x40000) ⊎ (0xf0000 ≤ q.page)) → list_any (same slot_order q) (user_slots n) ≡ false
unfolding user_slots
any-user_out q zero h = refl
any-user_out q (suc n) out =
    list_any-append (same slot_order q) (slots_of n 0x40000 0xb0000) (user_slots n)
    ∙ ap (λ b. b || list_any (same slot_order q) (user_slots n)) (any-slots_out q n 0x40000 0xb0000 (elim out [ inl far ↦ inl (λ e. absurd (omega arith)) | inr page ↦ inr page ]))
    ∙ any-user_out q n (elim out [ inl far ↦ inl (omega arith) | inr page ↦ inr page ])

pub get-user : (t : Tables) (q : Slot) → q.pid < 64 → IsUserPage q.page → map.get (translations_in t) q ≡ translation_of t q
unfolding translations_in
get-user t q process user = get-collect slot_order (translation_of t) (user_slots 64) q ∙ ap (λ b. cond b (translation_of t q) None) (any-user_in q 64 process user)

pub get-out : (t : Tables) (q : Slot) → IsOut q → map.get (translations_in t) q ≡ None
unfolding translations_in
get-out t q out = get-collect slot_order (translation_of t) (user_slots 64) q ∙ ap (λ b. cond b (translation_of t q) None) (any-user_out q 64 out)

-- all but one
others_same : (t v : Tables) (p page : ℕ) (q : Slot) → ((r at : ℕ) → r < 64 → IsUserPage at → (r ≡ p → at ≢ page) → translation_at v r at ≡ translation_at t r at)
    → q ≢ at_page p page → map.get (translations_in v) q ≡ map.get (translations_in t) q
others_same t v p page q others n = elim (slot_cases q) [
  | inl user ↦ get-user v q user.0 user.1 ∙ others q.pid q.page user.0 user.1 (λ e s. n (λ i. record { pid = e i; page = s i })) ∙ sym (get-user t q user.0 user.1)
  | inr out ↦ get-out v q out ∙ sym (get-out t q out)
]

pub translations-insert : (t v : Tables) (p page : ℕ) (entry : Translation) → p < 64 → IsUserPage page → translation_at v p page ≡ Some entry
    → ((r at : ℕ) → r < 64 → IsUserPage at → (r ≡ p → at ≢ page) → translation_at v r at ≡ translation_at t r at)
    → translations_in v ≡ map.insert (translations_in t) (at_page p page) entry
translations-insert t v p page entry process user is others = same_map _ _ (λ q. elim (same_cases slot_order q (at_page p page)) [
  | inl h ↦
      ap (map.get (translations_in v)) h.0 ∙ get-user v (at_page p page) process user ∙ is
      ∙ sym (get-insert (translations_in t) (at_page p page) entry q ∙ ap (λ b. cond b (Some entry) (map.get (translations_in t) q)) h.1)
  | inr h ↦
      others_same t v p page q others h.0
      ∙ sym (get-insert (translations_in t) (at_page p page) entry q ∙ ap (λ b. cond b (Some entry) (map.get (translations_in t) q)) h.1)
])

pub translations-remove : (t v : Tables) (p page : ℕ) → p < 64 → IsUserPage page → translation_at v p page ≡ None
    → ((r at : ℕ) → r < 64 → IsUserPage at → (r ≡ p → at ≢ page) → translation_at v r at ≡ translation_at t r at)
    → translations_in v ≡ map.remove (translations_in t) (at_page p page)
translations-remove t v p page process user is others = same_map _ _ (λ q. elim (same_cases slot_order q (at_page p page)) [
  | inl h ↦
      ap (map.get (translations_in v)) h.0 ∙ get-user v (at_page p page) process user ∙ is
      ∙ sym (get-remove (translations_in t) (at_page p page) q ∙ ap (λ b. cond b None (map.get (translations_in t) q)) h.1)
  | inr h ↦
      others_same t v p page q others h.0
      ∙ sym (get-remove (translations_in t) (at_page p page) q ∙ ap (λ b. cond b None (map.get (translations_in t) q)) h.1)
])

is_test : (a b : ℕ) → a ≡ b → not (a == b) ≡ false
is_test a b e = grind (arith, nat_tests)

not_test : (a b : ℕ) → a ≢ b → not (a == b) ≡ true
not_test a b n = grind (arith, nat_tests)

pub translations-forget : (t v : Tables) (p : ℕ) → ((page : ℕ) → translation_at v p page ≡ None) → ((q page : ℕ) → q ≢ p → translation_at v q page ≡ translation_at t q page)
    → translations_in v ≡ map.retain_keys (translations_in t) (λ slot. not (slot.pid == p))
translations-forget t v p gone others = same_map _ _ (λ q.
    elim (cases_eq q.pid p) [
      | inl e ↦ none_at q e ∙ sym (ap (λ b. cond b (map.get (translations_in t) q) None) (is_test q.pid p e))
      | inr n ↦ stay_at q n ∙ sym (ap (λ b. cond b (map.get (translations_in t) q) None) (not_test q.pid p n))
    ]
    ∙ sym (get-retain_keys (translations_in t) (λ slot. not (slot.pid == p)) q))
  where
    none_at : (q : Slot) → q.pid ≡ p → map.get (translations_in v) q ≡ None
    none_at q e = elim (slot_cases q) [
      | inl user ↦ get-user v q user.0 user.1 ∙ ap (λ p. translation_at v p q.page) e ∙ gone q.page
      | inr out ↦ get-out v q out
    ]

    stay_at : (q : Slot) → q.pid ≢ p → map.get (translations_in v) q ≡ map.get (translations_in t) q
    stay_at q n = elim (slot_cases q) [
      | inl user ↦ get-user v q user.0 user.1 ∙ others q.pid q.page n ∙ sym (get-user t q user.0 user.1)
      | inr out ↦ get-out v q out ∙ sym (get-out t q out)
    ]

pub translations-none : (t : Tables) → ((p page : ℕ) → p < 64 → translation_at t p page ≡ None) → translations_in t ≡ map.empty
translations-none t none = same_map _ _ (λ q. elim (slot_cases q) [
  | inl user ↦ get-user t q user.0 user.1 ∙ none q.pid q.page user.0
  | inr out ↦ get-out t q out
])

pub false_true : false ≡ true → ⊥
false_true e = cc

-- a page that isn't of the user range
pub out_of : (p page : ℕ) → (IsUserPage page → ⊥) → IsOut (at_page p page)
out_of p page not = elim (slot_cases (at_page p page)) [ inl user ↦ absurd (not user.1) | inr out ↦ out ]

-- nothing is removed where nothing is
pub remove-out : (t : Tables) (q : Slot) → IsOut q → translations_in t ≡ map.remove (translations_in t) q
remove-out t q out = same_map _ _ (λ r. elim (same_cases slot_order r q) [
  | inl h ↦ ap (map.get (translations_in t)) h.0 ∙ get-out t q out ∙ sym (get-remove (translations_in t) q r ∙ ap (λ b. cond b None (map.get (translations_in t) r)) h.1)
  | inr h ↦ sym (get-remove (translations_in t) q r ∙ ap (λ b. cond b None (map.get (translations_in t) r)) h.1)
])

pub users_only : (t : Tables) (p page : ℕ) → is_some (map.get (translations_in t) (at_page p page)) ≡ true → (p < 64) × IsUserPage page
users_only t p page some = elim (slot_cases (at_page p page)) [
  | inl user ↦ user
  | inr out ↦ absurd (let e : false ≡ true = sym (ap is_some (get-out t (at_page p page) out)) ∙ some in cc)
]
