use Rattle.std.proofs.Common.{◌≡◌, ◌-◌, [], length, sym, ap, ◌∙◌, arith}
use Rattle.std.proofs.lemmas.List.{drop_all}
use Rattle.locked_core.proofs.Counting.{counted_none}
use Rattle.locked_core.specs.Counts.{counts_of, last_of}
use Rattle.locked_core.specs.Moments.{entries_in}
use Rattle.locked_core.proofs.call_log.CallLog.new.Goals as goal

pub invariant_of-result : goal.invariant_of-result
invariant_of-result c =
    let none : entries_in c.again.result.log ≡ [] = ap (λ s. entries_in s.log) c.again.ensures ∙ ap entries_in c.requires.none in
    let long = ap length none in record {
      long = sym long;
      most = omega arith;
      least = c.requires.least;
      last = c.in_ok-queue_for.ensures.none ∙ sym (ap (last_of c.args.keeps) none ∙ drop_all (0 - c.args.keeps) [] (omega arith));
      reserved = c.in_ok-queue_for.ensures.room;
      counted = sym (ap counts_of none ∙ counted_none);
      small = λ k d inside. absurd (omega arith);
    }
