-- Lists that begin one list.
use Rattle.std.proofs.Common.{◌≡◌, ℕ, ◌+◌, ◌<◌, ◌≤◌, ◌==◌, List, [], ◌∷◌, ◌++◌, length, Bool, true, false, refl, sym, ap, ◌∙◌, arith, append-nil, length-append}
use Rattle.std.specs.Prelude.{MatchBool}
use lib.Dec.{leb}
use Rattle.std.proofs.lemmas.Bool.Decides.{nat_tests}
use Rattle.std.proofs.lemmas.List.Elements.{filter-append}
use Rattle.memory_report.specs.declared.entries.LogEntry.{LogEntry}
use Rattle.memory_report.specs.Histories.{StartsWith, entries_of, calls_of}

pub starts_itself : (xs : List LogEntry) → StartsWith xs xs
starts_itself xs = ([], sym (append-nil xs))

none_left : (xs : List LogEntry) → length xs ≡ 0 → xs ≡ []
none_left [] e = refl
none_left (x ∷ xs) e = absurd (omega arith)

tail_of : List LogEntry → List LogEntry
tail_of [] = []
tail_of (x ∷ xs) = xs

head_or : LogEntry → List LogEntry → LogEntry
head_or d [] = d
head_or d (x ∷ xs) = x

-- of two beginnings of one list the shorter begins the longer
pub starts_both : (log a b : List LogEntry) → StartsWith log a → StartsWith log b → length a ≤ length b → StartsWith b a
unfolding tail_of head_or
starts_both log [] b h k le = (b, refl)
starts_both log (x ∷ a) [] h k le = absurd (omega arith)
starts_both log (x ∷ a) (y ∷ b) h k le =
    let same : x ∷ (a ++ h.0) ≡ y ∷ (b ++ k.0) = sym h.1 ∙ k.1 in
    let rest = starts_both (a ++ h.0) a b (h.0, refl) (k.0, ap tail_of same) (omega arith) in
    let head : y ≡ x = sym (ap (head_or x) same) in
    (rest.0, λ i. head i ∷ rest.1 i)

-- where one CPU has no more entries in the longer list, it has the same entries
pub same_entries : (cpu : ℕ) (log seen : List LogEntry) → StartsWith log seen → calls_of cpu log ≡ calls_of cpu seen → entries_of cpu log ≡ entries_of cpu seen
same_entries cpu log seen h same =
    let P : LogEntry → Bool = λ e. e.cpu == cpu in
    let a : entries_of cpu log ≡ entries_of cpu seen ++ entries_of cpu h.0 = ap (entries_of cpu) h.1 ∙ filter-append P seen h.0 in
    let b : length (entries_of cpu log) ≡ length (entries_of cpu seen) + length (entries_of cpu h.0) = ap length a ∙ length-append (entries_of cpu seen) (entries_of cpu h.0) in
    let none : entries_of cpu h.0 ≡ [] = none_left (entries_of cpu h.0) (omega arith) in
    a ∙ (ap (λ l. entries_of cpu seen ++ l) none ∙ append-nil (entries_of cpu seen))

-- of two beginnings of one list, told apart by their lengths, the shorter begins the longer
pub starts_either : (log a b : List LogEntry) (m n : ℕ) → m ≡ length a → n ≡ length b → StartsWith log a → StartsWith log b
    → MatchBool (leb m n) (StartsWith b a) (StartsWith a b × (length b < length a))
starts_either log a b m n am bn h k = by_case (leb m n) refl
  where
    by_case : (t : Bool) → leb m n ≡ t → MatchBool t (StartsWith b a) (StartsWith a b × (length b < length a))
    by_case true is = let le : m ≤ n = grind (arith, nat_tests) in starts_both log a b h k (omega arith)
    by_case false is = let lt : n < m = grind (arith, nat_tests) in (starts_both log b a k h (omega arith), omega arith)
