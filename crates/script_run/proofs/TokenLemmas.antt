-- The first token of a line, and those after it.
use Rattle.std.proofs.Common.{◌≡◌, ℕ, suc, ◌<◌, ◌≤◌, Bool, true, false, not, cond, List, [], ◌∷◌, ◌++◌, length, take, drop, refl, sym, ap, subst, ◌∙◌, arith, Some, None, unwrap_or, position, get_or, inl, inr, eq-eqb}
use Rattle.std.specs.Prelude.{filter, nat_lt, ◌==◌}
use Rattle.std.specs.List.{list_all, slice_split, onto_first, position_or_len}
use Rattle.std.specs.Str.{bytes_eq}
use Rattle.std.specs.Cmp.Lexicographic.{same_text}
use Rattle.std.proofs.lemmas.Grind.{same_number_lists}
use Rattle.std.proofs.lemmas.List.Folds.{length-prefix_len, list_all_at}
use Rattle.std.proofs.lemmas.Bool.{and_parts, ltb-true, ltb-false, eqb-true, cases_Bool, cases_lt, cases_eq, false≢true}
use Rattle.std.proofs.lemmas.List.{drop_all, get_or-take, length-take-le}
use Rattle.std.proofs.lemmas.Slice.Eq.{HasBytesAt}
use Rattle.std.proofs.lemmas.List.Sums.{prefix_len-le-length, position_or_len_is, passes_at_first}
use Rattle.std.proofs.lemmas.List.Splits.{slice_split-cons_yes, slice_split-cons_no}
use Rattle.std.proofs.Math.Numerals.{one-add}
use Rattle.script_run.specs.Tokens.{is_space, is_visible, is_run, tokens_of}
use Rattle.script_run.specs.Lines.{is_blank}
use Rattle.script_run.specs.Operands.{is_trimmed, is_word, is_first}

-- ---- Places: the first that passes, or the length

at_passing : (p : ℕ → Bool) (x : ℕ) (xs : List ℕ) → p x ≡ true → position_or_len p (x ∷ xs) ≡ 0
at_passing p x xs e = rw e refl

at_failing : (p : ℕ → Bool) (x : ℕ) (xs : List ℕ) → p x ≡ false → position_or_len p (x ∷ xs) ≡ suc (position_or_len p xs)
at_failing p x xs e = rw e (one-add _)

found_place : (p : ℕ → Bool) (xs : List ℕ) (k : ℕ) → position p xs ≡ Some k → (k ≡ position_or_len p xs) × (k < length xs)
found_place p xs k e = within (nat_lt (position_or_len p xs) (length xs)) refl where
  within : (b : Bool) → nat_lt (position_or_len p xs) (length xs) ≡ b → (k ≡ position_or_len p xs) × (k < length xs)
  within true t =
      let value : Some (position_or_len p xs) ≡ Some k = sym (ap (λ b. cond b (Some (position_or_len p xs)) None) t) ∙ e in
      let same : k ≡ position_or_len p xs = cc in
      (same, rw same (ltb-true _ _ t))
  within false t =
      let value : None ≡ Some k = sym (ap (λ b. cond b (Some (position_or_len p xs)) None) t) ∙ e in
      cc

no_place : (p : ℕ → Bool) (xs : List ℕ) → position p xs ≡ None → length xs ≤ position_or_len p xs
no_place p xs e = within (nat_lt (position_or_len p xs) (length xs)) refl where
  within : (b : Bool) → nat_lt (position_or_len p xs) (length xs) ≡ b → length xs ≤ position_or_len p xs
  within true t =
      let value : Some (position_or_len p xs) ≡ None = sym (ap (λ b. cond b (Some (position_or_len p xs)) None) t) ∙ e in
      cc
  within false t = ltb-false _ _ t

pub place_or_length : (p : ℕ → Bool) (xs : List ℕ) → unwrap_or (position p xs) (length xs) ≡ position_or_len p xs
place_or_length p xs = within (nat_lt (position_or_len p xs) (length xs)) refl where
  within : (b : Bool) → nat_lt (position_or_len p xs) (length xs) ≡ b → unwrap_or (position p xs) (length xs) ≡ position_or_len p xs
  within true t = ap (λ b. unwrap_or (cond b (Some (position_or_len p xs)) None) (length xs)) t
  within false t =
      let over : length xs ≤ position_or_len p xs = ltb-false _ _ t in
      let under : position_or_len p xs ≤ length xs = prefix_len-le-length (λ x. not (p x)) xs in
      ap (λ b. unwrap_or (cond b (Some (position_or_len p xs)) None) (length xs)) t ∙ omega arith

-- ---- Tokens

-- spaces at the front are passed over
tokens_past_spaces : (xs : List ℕ) → tokens_of xs ≡ tokens_of (drop (position_or_len is_visible xs) xs)
unfolding tokens_of
tokens_past_spaces [] = refl
tokens_past_spaces (x ∷ xs) = at_head (tokens_past_spaces xs) (is_space x) refl where
  at_head : tokens_of xs ≡ tokens_of (drop (position_or_len is_visible xs) xs) → (b : Bool) → is_space x ≡ b → tokens_of (x ∷ xs) ≡ tokens_of (drop (position_or_len is_visible (x ∷ xs)) (x ∷ xs))
  at_head past true e =
      let later : position_or_len is_visible (x ∷ xs) ≡ suc (position_or_len is_visible xs) = at_failing is_visible x xs (ap not e) in
      ap (filter is_run) (slice_split-cons_yes is_space x xs e) ∙ past ∙ sym (ap (λ n. tokens_of (drop n (x ∷ xs))) later)
  at_head past false e = sym (ap (λ n. tokens_of (drop n (x ∷ xs))) (at_passing is_visible x xs (ap not e)))

-- the first piece, and the tokens of the others
abbrev Cut : List ℕ → Type 0
Cut xs = (rest : List (List ℕ)) × (slice_split is_space xs ≡ take (position_or_len is_space xs) xs ∷ rest) × (filter is_run rest ≡ tokens_of (drop (position_or_len is_space xs) xs))

cut_at_space : (xs : List ℕ) → Cut xs
unfolding tokens_of
cut_at_space [] = ([], refl, refl)
cut_at_space (x ∷ xs) = at_head (cut_at_space xs) (is_space x) refl where
  at_head : Cut xs → (b : Bool) → is_space x ≡ b → Cut (x ∷ xs)
  at_head cut true e =
      let here = at_passing is_space x xs e in
      let split = slice_split-cons_yes is_space x xs e in
      (slice_split is_space xs, split ∙ sym (ap (λ n. take n (x ∷ xs) ∷ slice_split is_space xs) here), sym (ap (λ n. tokens_of (drop n (x ∷ xs))) here ∙ ap (filter is_run) split))
  at_head cut false e =
      let later = at_failing is_space x xs e in
      (cut.0, slice_split-cons_no is_space x xs e ∙ ap (onto_first x) cut.1 ∙ sym (ap (λ n. take n (x ∷ xs) ∷ cut.0) later), cut.2 ∙ sym (ap (λ n. tokens_of (drop n (x ∷ xs))) later))

pub no_tokens : (xs : List ℕ) → position is_visible xs ≡ None → tokens_of xs ≡ []
unfolding tokens_of
no_tokens xs e = tokens_past_spaces xs ∙ ap tokens_of (drop_all (position_or_len is_visible xs) xs (no_place is_visible xs e))

-- ---- Bytes that begin with a token

trims : (xs : List ℕ) → is_trimmed (drop (position_or_len is_visible xs) xs) ≡ true
trims [] = refl
trims (x ∷ xs) = at_head (trims xs) (is_space x) refl where
  at_head : is_trimmed (drop (position_or_len is_visible xs) xs) ≡ true → (b : Bool) → is_space x ≡ b → is_trimmed (drop (position_or_len is_visible (x ∷ xs)) (x ∷ xs)) ≡ true
  at_head more true e = subst (λ n. is_trimmed (drop n (x ∷ xs)) ≡ true) (sym (at_failing is_visible x xs (ap not e))) more
  at_head more false e = subst (λ n. is_trimmed (drop n (x ∷ xs)) ≡ true) (sym (at_passing is_visible x xs (ap not e))) (ap not e)

pub same_tokens : (xs : List ℕ) (start : ℕ) → position is_visible xs ≡ Some start → tokens_of (drop start xs) ≡ tokens_of xs
same_tokens xs start e = sym (tokens_past_spaces xs ∙ ap (λ n. tokens_of (drop n xs)) (sym (found_place is_visible xs start e).0))

pub trimmed_from : (xs : List ℕ) (start : ℕ) → position is_visible xs ≡ Some start → is_trimmed (drop start xs) ≡ true
trimmed_from xs start e = subst (λ n. is_trimmed (drop n xs) ≡ true) (sym (found_place is_visible xs start e).0) (trims xs)

-- where no space stands in front, the first token is not empty
pub some_front : (xs : List ℕ) → is_trimmed xs ≡ true → 0 < length xs → 0 < position_or_len is_space xs
some_front [] front some = some
some_front (x ∷ xs) front some = at (is_space x) refl where
  at : (b : Bool) → is_space x ≡ b → 0 < position_or_len is_space (x ∷ xs)
  at true e = absurd (false≢true (sym (ap not e) ∙ front))
  at false e = rw (at_failing is_space x xs e) (omega arith)

pub no_front : (xs : List ℕ) → is_trimmed xs ≡ true → position_or_len is_space xs ≡ 0 → tokens_of xs ≡ []
unfolding tokens_of
no_front [] front none = refl
no_front (x ∷ xs) front none = absurd (omega (arith, none, some_front (x ∷ xs) front (omega arith)))

runs_front : (xs : List ℕ) → 0 < position_or_len is_space xs → is_run (take (position_or_len is_space xs) xs) ≡ true
runs_front [] some = absurd (omega (arith, some))
runs_front (x ∷ xs) some = at (is_space x) refl where
  at : (b : Bool) → is_space x ≡ b → is_run (take (position_or_len is_space (x ∷ xs)) (x ∷ xs)) ≡ true
  at true e = absurd (omega (arith, some, at_passing is_space x xs e))
  at false e = ap (λ n. is_run (take n (x ∷ xs))) (at_failing is_space x xs e)

pub front_token : (xs : List ℕ) (n : ℕ) → n ≡ position_or_len is_space xs → 0 < n → tokens_of xs ≡ take n xs ∷ tokens_of (drop n xs)
unfolding tokens_of
front_token xs n is some =
    let cut = cut_at_space xs in
    let run : is_run (take (position_or_len is_space xs) xs) ≡ true = runs_front xs (subst (λ (k : ℕ). 0 < k) is some) in
    ap (filter is_run) cut.1
    ∙ ap (λ b. cond b (take (position_or_len is_space xs) xs ∷ filter is_run cut.0) (filter is_run cut.0)) run
    ∙ ap (λ ts. take (position_or_len is_space xs) xs ∷ ts) cut.2
    ∙ sym (ap (λ k. take k xs ∷ tokens_of (drop k xs)) is)

pub past_space : (xs : List ℕ) → tokens_of (32 ∷ xs) ≡ tokens_of xs
unfolding tokens_of
past_space xs = ap (filter is_run) (slice_split-cons_yes is_space 32 xs refl)

-- ---- Bytes that are known in front

-- what is known of a list at each place, but for its first
later : (x : ℕ) (xs front : List ℕ) (i : ℕ) → HasBytesAt (x ∷ xs) (suc i) front → HasBytesAt xs i front
later x xs [] i known = tt
later x xs (c ∷ front) i known = (known.0, later x xs front (suc i) known.1)

pub known_front : (front xs : List ℕ) → length front ≤ length xs → HasBytesAt xs 0 front → xs ≡ front ++ drop (length front) xs
known_front [] xs fits known = refl
known_front (c ∷ front) [] fits known = absurd (omega (arith, fits))
known_front (c ∷ front) (x ∷ xs) fits known = ap (λ byte. byte ∷ xs) known.0 ∙ ap (λ ys. c ∷ ys) (known_front front xs (omega (arith, fits)) (later x xs front 0 known.1))

-- ---- Where the first token ends

visible_before : (xs : List ℕ) (n : ℕ) → ((k : ℕ) → k < n → get_or xs k 0 ≡ 32 → ⊥) → (k : ℕ) → k < n → is_space (get_or xs k 0) ≡ false
visible_before xs n visible k before = elim (cases_Bool (is_space (get_or xs k 0))) [
  | inl here ↦ absurd (visible k before (eqb-true _ _ here))
  | inr other ↦ other
]

pub token_ends : (xs : List ℕ) (n : ℕ) → n ≤ length xs → ((k : ℕ) → k < n → get_or xs k 0 ≡ 32 → ⊥) → (n < length xs → get_or xs n 0 ≡ 32) → n ≡ position_or_len is_space xs
token_ends xs n within visible ends = sym (position_or_len_is is_space xs n 0 within (visible_before xs n visible) (λ inside. eq-eqb _ _ (ends inside)))

pub token_goes_on : (xs : List ℕ) (n : ℕ) → ((k : ℕ) → k < n → get_or xs k 0 ≡ 32 → ⊥) → n < length xs → (get_or xs n 0 ≡ 32 → ⊥) → n < position_or_len is_space xs
token_goes_on xs n visible inside here = elim (cases_lt n (position_or_len is_space xs)) [
  | inl more ↦ more
  | inr least ↦
      let within : position_or_len is_space xs < length xs = omega (arith, least, inside) in
      let stops : is_space (get_or xs (position_or_len is_space xs) 0) ≡ true = passes_at_first is_space xs 0 within in
      let at : get_or xs (position_or_len is_space xs) 0 ≡ 32 = eqb-true _ _ stops in
      elim (cases_eq (position_or_len is_space xs) n) [
        | inl same ↦ absurd (here (subst (λ (k : ℕ). get_or xs k 0 ≡ 32) same at))
        | inr apart ↦ absurd (visible (position_or_len is_space xs) (omega (arith, least, apart)) at)
      ]
]

-- ---- Whether a token is left

pub empty_front : (xs : List ℕ) → length xs ≡ 0 → tokens_of xs ≡ []
unfolding tokens_of
empty_front [] none = refl
empty_front (x ∷ xs) none = absurd (omega (arith, none))

pub blank_front : (xs : List ℕ) → is_trimmed xs ≡ true → (length xs == 0) ≡ is_blank (tokens_of xs)
unfolding tokens_of
blank_front [] front = refl
blank_front (x ∷ xs) front =
    let some : (suc (length xs) == 0) ≡ false = elim (cases_Bool (suc (length xs) == 0)) [
      | inl none ↦ absurd (omega (arith, eqb-true (suc (length xs)) 0 none))
      | inr other ↦ other
    ] in
    some ∙ sym (ap is_blank (front_token (x ∷ xs) _ refl (some_front (x ∷ xs) front (omega arith))))

-- ---- Whether a word is the first token

pub length_of_first : (xs : List ℕ) → length (take (position_or_len is_space xs) xs) ≡ position_or_len is_space xs
length_of_first xs = length-prefix_len (λ x. not (is_space x)) xs

pub not_first : (line word : List ℕ) → is_trimmed line ≡ true → (take (position_or_len is_space line) line ≡ word → ⊥) → is_first word (tokens_of line) ≡ false
unfolding tokens_of
not_first [] word front other = refl
not_first (x ∷ xs) word front other = ap (is_first word) tokens ∙ unlike where
  op : List ℕ
  op = take (position_or_len is_space (x ∷ xs)) (x ∷ xs)

  tokens : tokens_of (x ∷ xs) ≡ op ∷ tokens_of (drop (position_or_len is_space (x ∷ xs)) (x ∷ xs))
  tokens = front_token (x ∷ xs) _ refl (some_front (x ∷ xs) front (omega arith))

  unlike : bytes_eq op word ≡ false
  unlike = elim (cases_Bool (bytes_eq op word)) [
    | inl same ↦ absurd (other (same_text op word (sym same)))
    | inr apart ↦ apart
  ]

-- what is at the places of a first token, and behind it
pub first_fits : (line word : List ℕ) → take (position_or_len is_space line) line ≡ word → length word ≤ length line
first_fits line word is =
    let same : length word ≡ position_or_len is_space line = sym (ap length is) ∙ length_of_first line in
    omega (arith, same, prefix_len-le-length (λ x. not (is_space x)) line)

pub first_ends : (line word : List ℕ) → take (position_or_len is_space line) line ≡ word → length word < length line → get_or line (length word) 0 ≡ 32
first_ends line word is inside =
    let same : length word ≡ position_or_len is_space line = sym (ap length is) ∙ length_of_first line in
    let stops : is_space (get_or line (position_or_len is_space line) 0) ≡ true = passes_at_first is_space line 0 (omega (arith, same, inside)) in
    ap (λ n. get_or line n 0) same ∙ eqb-true _ _ stops

pub first_bytes : (line word : List ℕ) (k : ℕ) → take (position_or_len is_space line) line ≡ word → k < length word → get_or line k 0 ≡ get_or word k 0
first_bytes line word k is inside =
    let same : length word ≡ position_or_len is_space line = sym (ap length is) ∙ length_of_first line in
    sym (get_or-take (position_or_len is_space line) line k 0 (omega (arith, same, inside))) ∙ ap (λ xs. get_or xs k 0) is

no_space : (word : List ℕ) (k : ℕ) → list_all is_visible word ≡ true → k < length word → get_or word k 0 ≡ 32 → ⊥
no_space word k visible inside space = false≢true (sym (list_all_at is_visible word k 0 inside (ap is_visible space)) ∙ visible)

some_byte : (word : List ℕ) → is_run word ≡ true → 0 < length word
some_byte [] run = absurd (false≢true run)
some_byte (x ∷ xs) run = omega arith

pub word_first : (line word : List ℕ) → is_word word ≡ true → length word ≤ length line → ((k : ℕ) → k < length word → get_or line k 0 ≡ get_or word k 0) → (length word < length line → get_or line (length word) 0 ≡ 32) → tokens_of line ≡ word ∷ tokens_of (drop (length word) line)
word_first line word is fits same ends =
    let parts = and_parts (is_run word) (list_all is_visible word) is in
    let place = token_ends line (length word) fits (λ k before here. no_space word k parts.1 before (sym (same k before) ∙ here)) ends in
    let long : length (take (length word) line) ≡ length word = length-take-le (length word) line fits in
    let front : take (length word) line ≡ word = same_number_lists (take (length word) line) word long (λ k before. get_or-take (length word) line k 0 (omega (arith, long, before)) ∙ same k (omega (arith, long, before))) in
    front_token line (length word) place (some_byte word parts.0) ∙ ap (λ op. op ∷ tokens_of (drop (length word) line)) front
