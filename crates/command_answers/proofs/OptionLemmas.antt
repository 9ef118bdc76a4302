-- The number of an option.
use Rattle.std.proofs.Common.{◌≡◌, ◌∙◌, ℕ, Bool, ◌&&◌, true, false, List, [], ◌∷◌, Option, Some, None, refl, sym, ap}
use Rattle.std.specs.Char.{digit_value}
use Rattle.std.specs.List.{list_all}
use Rattle.std.specs.Prelude.{◌^◌, length, nat_lt, Result, Ok, Err}
use Rattle.std.specs.Option.{option_map_or}
use Rattle.std.specs.Result.{result_ok}
use Rattle.std.specs.Str.Parse.{AllDigits, ParsesUnsigned, digits_value, without_leading_plus}
use Rattle.std.proofs.lemmas.Bool.{lt-ltb, ltb-true}
use Rattle.clap.specs.Walk.{Row, Text}
use Rattle.clap.specs.Matches.{TriesOne}
use Rattle.clap.specs.ValueTests.{is_numeral}
use Rattle.clap.specs.Words.{one_of}
use Rattle.clap.proofs.WalkLemmas.{both}
use Rattle.command_answers.specs.Options.{number_named, number_in}

pub digits_pass : (ds : List ℕ) → AllDigits 10 ds → list_all (λ d. nat_lt (digit_value d) 10) ds ≡ true
digits_pass [] are = refl
digits_pass (d ∷ ds) are = rw (lt-ltb (digit_value d) 10 are.0) (digits_pass ds are.1)

pub digits_are : (ds : List ℕ) → list_all (λ d. nat_lt (digit_value d) 10) ds ≡ true → AllDigits 10 ds
digits_are [] pass = tt
digits_are (d ∷ ds) pass =
    let parts = both _ _ pass in
    (ltb-true _ _ parts.0, digits_are ds parts.1)

-- what `u32` reads of a text
number_read : {E : Type 0} (text : Text) (r : Result ℕ E) → ParsesUnsigned 32 10 text r → number_named text ≡ result_ok r
number_read text (Ok n) h =
    let ds = without_leading_plus text in
    rw (lt-ltb 0 (length ds) h.0.0.0, digits_pass ds h.0.0.1, lt-ltb (digits_value 10 ds) (2 ^ 32) h.0.1) (ap Some (sym h.1))
number_read {E} text (Err e) h = go (is_numeral (without_leading_plus text) && nat_lt (digits_value 10 (without_leading_plus text)) (2 ^ 32)) refl
  where
    go : (b : Bool) → (is_numeral (without_leading_plus text) && nat_lt (digits_value 10 (without_leading_plus text)) (2 ^ 32)) ≡ b → number_named text ≡ None
    go false t = rw t refl
    go true t =
        let outer = both _ _ t in
        let inner = both _ _ outer.0 in
        absurd (h ((ltb-true _ _ inner.0, digits_are (without_leading_plus text) inner.1), ltb-true _ _ outer.1))

-- the number that was read, or another where there is none
abbrev pub or_absent : {E : Type 0} → ℕ → Result (Option ℕ) E → Option ℕ
or_absent absent (Ok (Some n)) = Some n
or_absent absent (Ok None) = Some absent
or_absent absent (Err e) = None

-- what the getter of a number answers, by the text that it reads
pub option_read : {E : Type 0} (G : List ℕ → Result ℕ E → Type 0) (id : Text) (absent : ℕ) (rows : List Row) (text : Option Text) (r : Result (Option ℕ) E) → text ≡ one_of id rows
    → ((u : List ℕ) (x : Result ℕ E) → G u x → ParsesUnsigned 32 10 u x) → (text ≡ None → r ≡ Ok None) → ((t : Text) → text ≡ Some t → TriesOne G t r) → or_absent absent r ≡ number_in id absent rows
option_read {E} G id absent rows text r is parses none reads = go text refl ∙ ap (λ o. option_map_or number_named o (Some absent)) is
  where
    tried : (t : Text) (o : Result (Option ℕ) E) → TriesOne G t o → or_absent absent o ≡ number_named t
    tried t (Ok (Some n)) found =
        let read : Result ℕ E = Ok n in
        sym (number_read t read (parses t read found))
    tried t (Ok None) found = absurd found
    tried t (Err e) found = sym (number_read t (Err e) (parses t (Err e) found))

    go : (o : Option Text) → text ≡ o → or_absent absent r ≡ option_map_or number_named o (Some absent)
    go None e = ap (or_absent absent) (none e)
    go (Some t) e = tried t r (reads t e)

pub found_some : {E : Type 0} (absent : ℕ) (r : Result (Option ℕ) E) (o : Option ℕ) (n : ℕ) → r ≡ Ok o → o ≡ Some n → or_absent absent r ≡ Some n
found_some absent r o n is some = rw (is, some) refl

pub found_none : {E : Type 0} (absent : ℕ) (r : Result (Option ℕ) E) (o : Option ℕ) → r ≡ Ok o → o ≡ None → or_absent absent r ≡ Some absent
found_none absent r o is none = rw (is, none) refl

pub found_other : {E : Type 0} (absent : ℕ) (r : Result (Option ℕ) E) (e : E) → r ≡ Err e → or_absent absent r ≡ None
found_other absent r e is = rw is refl
