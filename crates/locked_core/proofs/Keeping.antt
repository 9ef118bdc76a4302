-- The entries that a log keeps, and the CPUs that have entries in it.
use Rattle.std.proofs.Common.{◌≡◌, ℕ, zero, suc, ◌+◌, ◌-◌, ◌<◌, ◌≤◌, ◌==◌, List, [], ◌∷◌, ◌++◌, All, Bool, true, false, drop, length, length-append, refl, sym, ap, ◌∙◌, subst, arith, eq-eqb}
use Rattle.std.specs.Prelude.{cond, slice_index_or}
use Rattle.std.proofs.lemmas.Bool.Decides.{nat_tests}
use Rattle.std.proofs.lemmas.List.{drop-append-le, drop-drop, length-drop}
use Rattle.locked_core.specs.Counts.{last_of}
use Rattle.memory_report.specs.Histories.{calls_of, entries_of}
use Rattle.memory_report.specs.declared.entries.LogEntry.{LogEntry}

-- with one entry more, the last ones are those that had room beside it, and it
pub keeps_push : (keeps : ℕ) (log kept : List LogEntry) (e : LogEntry) → 0 < keeps → kept ≡ last_of keeps log → last_of (keeps - 1) kept ++ e ∷ [] ≡ last_of keeps (log ++ e ∷ [])
keeps_push keeps log kept e some is =
    let long : length kept ≡ length log - (length log - keeps) = ap length is ∙ length-drop (length log - keeps) log in
    let grown : length (log ++ e ∷ []) ≡ length log + 1 = length-append log (e ∷ []) in
    let place : (length log - keeps) + (length kept - (keeps - 1)) ≡ length (log ++ e ∷ []) - keeps = omega arith in
    ap (λ l. drop (length kept - (keeps - 1)) l ++ e ∷ []) is
    ∙ ap (λ l. l ++ e ∷ []) (drop-drop (length kept - (keeps - 1)) (length log - keeps) log ∙ ap (λ n. drop n log) place)
    ∙ sym (drop-append-le (length (log ++ e ∷ []) - keeps) log (e ∷ []) (omega arith))

-- where as many are kept as there are, all are
pub keeps_all : (keeps : ℕ) (log kept : List LogEntry) → kept ≡ last_of keeps log → length log ≤ keeps → kept ≡ log
keeps_all keeps log kept is few =
    let none : length log - keeps ≡ 0 = omega arith in
    is ∙ ap (λ n. drop n log) none

-- a CPU has as many entries as in the rest, or one more
calls_more : (cpu : ℕ) (e : LogEntry) (es : List LogEntry) → calls_of cpu es ≤ calls_of cpu (e ∷ es)
calls_more cpu e es = by_case (e.cpu == cpu)
  where
    by_case : (b : Bool) → calls_of cpu es ≤ length (cond b (e ∷ entries_of cpu es) (entries_of cpu es))
    by_case true = omega arith
    by_case false = omega arith

-- the CPU of each entry has an entry
has_entry : (log : List LogEntry) (k : ℕ) (d : LogEntry) → k < length log → 0 < calls_of (slice_index_or log k d).cpu log
has_entry [] k d inside = absurd (omega arith)
has_entry (e ∷ es) zero d inside = rw (eq-eqb e.cpu e.cpu refl) (omega arith)
has_entry (e ∷ es) (suc k) d inside =
    let some = has_entry es k d (omega arith) in
    let more = calls_more (slice_index_or es k d).cpu e es in omega arith

-- what holds of each CPU that has entries holds of the CPU of each entry
pub each_entry : (P : ℕ → Type 0) (log : List LogEntry) → All (λ (e : LogEntry). e.cpu < 8) log → ((n : ℕ) → n < 8 → 0 < calls_of n log → P n) → All (λ (e : LogEntry). P e.cpu) log
each_entry P log small each k d inside = each (slice_index_or log k d).cpu (small k d inside) (has_entry log k d inside)

-- what holds of the CPU of each entry holds of each CPU that has entries
pub each_cpu : (P : ℕ → Type 0) (log : List LogEntry) (n : ℕ) → All (λ (e : LogEntry). P e.cpu) log → 0 < calls_of n log → P n
each_cpu P [] n all some = absurd (omega arith)
each_cpu P (e ∷ es) n all some = by_case (e.cpu == n) refl some (each_cpu P es n (λ k d inside. all (suc k) d (omega arith)))
  where
    by_case : (b : Bool) → (e.cpu == n) ≡ b → 0 < length (cond b (e ∷ entries_of n es) (entries_of n es)) → (0 < calls_of n es → P n) → P n
    by_case true is some rest = let same : e.cpu ≡ n = grind (arith, nat_tests, is) in subst P same (all 0 e (omega arith))
    by_case false is some rest = rest some
