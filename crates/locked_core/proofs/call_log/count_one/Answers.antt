use Rattle.std.proofs.Common.{rules, ◌≡◌, ◌≤◌, length, arith}
use Rattle.std.specs.Prelude.{slice_index_or}
use Rattle.locked_core.proofs.Counting.{count_small}
use Rattle.locked_core.specs.Moments.{entries_in}
use Rattle.locked_core.proofs.call_log.count_one.Goals as goal

pub overflow_add-counts : goal.overflow_add-counts
overflow_add-counts c =
    let same : c.from.result ≡ c.args.cpu = search rules in
    let few : slice_index_or c.args.counts.now c.args.cpu 0 ≤ length (entries_in c.args.all.now.log) = count_small (entries_in c.args.all.now.log) c.args.counts.now c.args.cpu c.requires.counted c.requires.cpu in
    let room = c.requires.small in
    rw same (omega arith)
