use Rattle.std.proofs.Common.{rules, ◌≡◌, arith}
use Rattle.locked_core.proofs.Entries.{calls_few}
use Rattle.locked_core.proofs.cpu.Cpu.made.Goals as goal
use Rattle.locked_core.specs.Moments.{entries_in}
use Rattle.memory_report.specs.Histories.{calls_of}

pub overflow_add-calls : goal.overflow_add-calls
overflow_add-calls g c =
    let few = calls_few c.args.self.now.number (entries_in c.args.grown) in
    let more = c.requires.calls in
    let small = c.requires.small in
    let same : c.self.inside.calls ≡ calls_of c.args.self.now.number c.args.self.now.seen = search rules in
    omega arith
