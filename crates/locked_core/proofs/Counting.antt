-- The numbers of entries that the log keeps for each CPU.
use Rattle.std.proofs.Common.{◌≡◌, ◌≢◌, ℕ, ◌+◌, ◌<◌, ◌≤◌, ◌==◌, List, [], ◌∷◌, ◌++◌, length, Bool, false, refl, sym, ap, ◌∙◌, arith, replicate}
use Rattle.std.specs.Prelude.{cond, filter}
use Rattle.std.proofs.lemmas.List.{get_or-set_same, get_or-set_other}
use Rattle.std.proofs.lemmas.List.FromFn.{fill_by_all, get_or-map-range_with_len, length-map-range_with_len}
use Rattle.std.proofs.lemmas.Bool.Decides.{nat_tests}
use Rattle.std.proofs.lemmas.List.Elements.{filter-append}
use Rattle.std.proofs.lemmas.List.{append-nil}
use Rattle.std.proofs.Math.ListN.{get_or, set, length-set}
use mathlib.Core.Logic.{dite}
use native.Mathlib.Decide.{ℕ_discrete}
use Rattle.locked_core.proofs.Entries.{calls_few, calls_push}
use Rattle.locked_core.specs.Counts.{counts_of}
use Rattle.memory_report.specs.Histories.{entries_of, calls_of}
use Rattle.memory_report.specs.declared.entries.LogEntry.{LogEntry}

pub at_counts : (log : List LogEntry) (cpu : ℕ) → cpu < 8 → get_or (counts_of log) cpu 0 ≡ calls_of cpu log
unfolding counts_of
at_counts log cpu small = get_or-map-range_with_len (λ c. calls_of c log) 0 8 cpu cpu 0 small (omega arith)

pub length_counts : (log : List LogEntry) → length (counts_of log) ≡ 8
unfolding counts_of
length_counts log = length-map-range_with_len (λ c. calls_of c log) 0 8

-- numbers that are each CPU's own
pub counted : (log : List LogEntry) (counts : List ℕ) → length counts ≡ 8 → ((cpu : ℕ) → cpu < 8 → get_or counts cpu 0 ≡ calls_of cpu log) → counts ≡ counts_of log
unfolding counts_of
counted log counts long each = fill_by_all (λ c. calls_of c log) counts 8 0 long each

pub counted_none : counts_of [] ≡ replicate 8 0
unfolding counts_of
counted_none = refl

-- another CPU's entry
pub calls_push_other : (cpu : ℕ) (log : List LogEntry) (e : LogEntry) → e.cpu ≢ cpu → calls_of cpu (log ++ e ∷ []) ≡ calls_of cpu log
calls_push_other cpu log e other =
    let P : LogEntry → Bool = λ x. x.cpu == cpu in
    let no : (e.cpu == cpu) ≡ false = grind (arith, nat_tests) in
    let one : filter P (e ∷ []) ≡ [] = ap (λ b. cond b (e ∷ []) []) no in
    ap length (filter-append P log (e ∷ []) ∙ (ap (λ l. entries_of cpu log ++ l) one ∙ append-nil (entries_of cpu log)))

-- with one entry more its CPU has one more, and the others have as many as before
pub counted_push : (log new : List LogEntry) (e : LogEntry) (counts : List ℕ) → counts ≡ counts_of log → e.cpu < 8 → new ≡ log ++ e ∷ []
    → set counts e.cpu (get_or counts e.cpu 0 + 1) ≡ counts_of new
counted_push log new e counts at small grown = counted new _ (length-set counts e.cpu (get_or counts e.cpu 0 + 1) ∙ long) each
  where
    long : length counts ≡ 8
    long = ap length at ∙ length_counts log

    had : (cpu : ℕ) → cpu < 8 → get_or counts cpu 0 ≡ calls_of cpu log
    had cpu lt = ap (λ xs. get_or xs cpu 0) at ∙ at_counts log cpu lt

    each : (cpu : ℕ) → cpu < 8 → get_or (set counts e.cpu (get_or counts e.cpu 0 + 1)) cpu 0 ≡ calls_of cpu new
    each cpu lt = dite (ℕ_discrete cpu e.cpu)
        (λ (same : cpu ≡ e.cpu). rw same (get_or-set_same counts e.cpu (get_or counts e.cpu 0 + 1) 0 (omega (arith, long)) ∙ (ap (λ n. n + 1) (had e.cpu small) ∙ (sym (calls_push e.cpu log e refl) ∙ ap (calls_of e.cpu) (sym grown)))))
        (λ (apart : cpu ≢ e.cpu). get_or-set_other counts e.cpu cpu (get_or counts e.cpu 0 + 1) 0 apart ∙ (had cpu lt ∙ (sym (calls_push_other cpu log e (λ s. apart (sym s))) ∙ ap (calls_of cpu) (sym grown))))

-- one more of them is a number of 64 bits
pub count_small : (log : List LogEntry) (counts : List ℕ) (cpu : ℕ) → counts ≡ counts_of log → cpu < 8 → get_or counts cpu 0 ≤ length log
count_small log counts cpu at small = let is : get_or counts cpu 0 ≡ calls_of cpu log = ap (λ xs. get_or xs cpu 0) at ∙ at_counts log cpu small in let few = calls_few cpu log in omega arith
