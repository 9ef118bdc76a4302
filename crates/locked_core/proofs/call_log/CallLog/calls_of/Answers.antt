use Rattle.std.proofs.Common.{rules, ◌≡◌, ℕ, List, ap, ◌∙◌}
use Rattle.std.specs.Prelude.{slice_index_or}
use Rattle.locked_core.proofs.Counting.{at_counts}
use Rattle.locked_core.proofs.call_log.CallLog.calls_of.Goals as goal
use Rattle.locked_core.specs.Moments.{entries_in}
use Rattle.memory_report.specs.Histories.{calls_of}

pub returns : goal.returns
returns c =
    let same : c.from.result ≡ c.args.cpu = search rules in
    let here : slice_index_or c.self.inside.counts c.args.cpu 0 ≡ calls_of c.args.cpu (entries_in c.self.inside.all.log) =
    ap (λ (xs : List ℕ). slice_index_or xs c.args.cpu 0) c.self.invariant.counted ∙ at_counts (entries_in c.self.inside.all.log) c.args.cpu c.requires in
    rw same (here ∙ ap (λ l. calls_of c.args.cpu l.entries) c.self.view_is)
