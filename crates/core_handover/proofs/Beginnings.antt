-- Histories that begin one history.
use Rattle.std.proofs.Common.{◌≡◌, ℕ, ◌+◌, ◌<◌, ◌≤◌, List, [], ◌∷◌, ◌++◌, length, Bool, true, false, refl, sym, ap, ◌∙◌, arith, append-nil, length-append}
use Rattle.std.specs.Prelude.{MatchBool}
use lib.Dec.{leb}
use Rattle.std.proofs.lemmas.Bool.Decides.{nat_tests}
use Rattle.process_table.specs.View.{View}
use Rattle.core_handover.specs.Histories.{Begins, given, last_core, last_from, no_core}
use Rattle.core_handover.specs.declared.given.Given.{Given}

none_left : (xs : List Given) → length xs ≡ 0 → xs ≡ []
none_left [] e = refl
none_left (x ∷ xs) e = absurd (omega arith)

-- a beginning of the same length is the whole
pub begins_whole : (log seen : List Given) → Begins log seen → length log ≤ length seen → log ≡ seen
begins_whole log seen h le =
    let a : length log ≡ length seen + length h.0 = ap length h.1 ∙ length-append seen h.0 in
    let none : h.0 ≡ [] = none_left h.0 (omega arith) in
    h.1 ∙ (ap (λ l. seen ++ l) none ∙ append-nil seen)

pub begins_itself : (xs : List Given) → Begins xs xs
begins_itself xs = ([], sym (append-nil xs))

tail_of : List Given → List Given
tail_of [] = []
tail_of (x ∷ xs) = xs

head_or : Given → List Given → Given
head_or d [] = d
head_or d (x ∷ xs) = x

-- of two beginnings of one history the shorter begins the longer
pub begins_both : (log a b : List Given) → Begins log a → Begins log b → length a ≤ length b → Begins b a
unfolding tail_of head_or
begins_both log [] b h k le = (b, refl)
begins_both log (x ∷ a) [] h k le = absurd (omega arith)
begins_both log (x ∷ a) (y ∷ b) h k le =
    let same : x ∷ (a ++ h.0) ≡ y ∷ (b ++ k.0) = sym h.1 ∙ k.1 in
    let rest = begins_both (a ++ h.0) a b (h.0, refl) (k.0, ap tail_of same) (omega arith) in
    let head : y ≡ x = sym (ap (head_or x) same) in
    (rest.0, λ i. head i ∷ rest.1 i)

-- of two beginnings of one history, told apart by how often the core was given back, the shorter begins the longer
pub begins_either : (log a b : List Given) (m n : ℕ) → length a ≡ m + 1 → length b ≡ n + 1 → Begins log a → Begins log b → MatchBool (leb m n) (Begins b a) (Begins a b)
begins_either log a b m n am bn h k = by_case (leb m n) refl
  where
    by_case : (t : Bool) → leb m n ≡ t → MatchBool t (Begins b a) (Begins a b)
    by_case true is = let le : m ≤ n = grind (arith, nat_tests) in begins_both log a b h k (omega arith)
    by_case false is = let lt : n < m = grind (arith, nat_tests) in begins_both log b a k h (omega arith)

-- the core that was added is the last one
pub last_added : (core : View) (log : List Given) (x : Given) → last_from core (log ++ x ∷ []) ≡ x.core
last_added core [] x = refl
last_added core (g ∷ log) x = last_added g.core log x

pub added_is_last : (log more : List Given) (core : View) → more ≡ log ++ given core ∷ [] → last_core more ≡ core
added_is_last log more core is = ap last_core is ∙ last_added no_core log (given core)
