-- The history of a kernel that is closed, and the CPUs that came back.
use Rattle.std.proofs.Common.{◌≡◌, ℕ, ◌+◌, All, List, [], ◌∷◌, ◌++◌, length, length-append, sym, ap, ◌∙◌, subst, arith}
use Rattle.std.proofs.Math.ListN.{get_or}
use Rattle.std.proofs.lemmas.List.Elements.{All-push, All-weaker}
use Rattle.std.proofs.lemmas.List.Sums.{sum_by_push}
use Rattle.locked_core.proofs.Counting.{at_counts}
use Rattle.locked_core.proofs.Moments.{entries_long}
use Rattle.locked_core.specs.Counts.{counts_of}
use Rattle.locked_core.specs.Makers.{IsHistory, IsOfOne, IsTallied, Maker, calls_of_all}
use Rattle.locked_core.specs.Moments.{Follows, entries_in}
use Rattle.locked_core.specs.declared.moment.Moment.{Moment}
use Rattle.memory_report.specs.Histories.{Legal, calls_of}
use Rattle.memory_report.specs.declared.entries.LogEntry.{LogEntry}
use Rattle.process_table.specs.View.{View}

-- one CPU's calls more
pub calls_push : (cpus : List Maker) (c : Maker) → calls_of_all (cpus ++ c ∷ []) ≡ calls_of_all cpus + calls_of c.number c.seen
calls_push cpus c = sum_by_push (λ (m : Maker). calls_of m.number m.seen) cpus c

pub length_push : (cpus : List Maker) (c : Maker) → length (cpus ++ c ∷ []) ≡ length cpus + 1
length_push cpus c = length-append cpus (c ∷ [])

module _ (frames : ℕ) (opening : View) (count : ℕ) (log : List LogEntry) (moments : List Moment) (tally : List ℕ)
    (legal : Legal frames log) (follows : Follows opening moments) (told : entries_in moments ≡ log) (at : tally ≡ counts_of log) where
  -- the log has as many calls of a CPU as are counted for it
  own : (c : Maker) → IsTallied tally c → calls_of c.number (entries_in moments) ≡ calls_of c.number c.seen
  own c t = ap (calls_of c.number) told ∙ (sym (at_counts log c.number t.0) ∙ (ap (λ counts. get_or counts c.number 0) (sym at) ∙ t.1))

  -- some came back, whose shares were merged
  pub history_of : (cpus others : List Maker) (first : Maker) (parts amount : ℕ) → cpus ≡ others ++ first ∷ []
      → IsOfOne moments first × All (λ c. IsOfOne moments c) others → IsTallied tally first × All (λ c. IsTallied tally c) others
      → parts ≡ length others + 1 → amount ≡ calls_of_all others + calls_of first.number first.seen → (parts ≡ count → amount ≡ length log)
      → IsHistory frames opening count cpus moments
  history_of cpus others first parts amount whole one tallied long sum all = record {
    legal = subst (Legal frames) (sym told) legal;
    follows = follows;
    one = subst (All (IsOfOne moments)) (sym whole) (All-push (IsOfOne moments) others first one.1 one.0);
    own =
        All-weaker (IsTallied tally) (λ (c : Maker). calls_of c.number (entries_in moments) ≡ calls_of c.number c.seen) own cpus
        (subst (All (IsTallied tally)) (sym whole) (All-push (IsTallied tally) others first tallied.1 tallied.0));
    all =
        λ same.
        (let l = ap length whole in
        let m : length (others ++ first ∷ []) ≡ length others + 1 = length_push others first in
        let calls = all (omega (arith, l, m, long, same)) in
        let made = ap calls_of_all whole ∙ calls_push others first in
        let entries = ap length told in
        let moments_long = entries_long moments in
        omega (arith, calls, made, sum, entries, moments_long));
  }
