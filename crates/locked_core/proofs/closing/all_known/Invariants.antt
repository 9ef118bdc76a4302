use Rattle.std.proofs.Common.{◌<◌, ℕ}
use Rattle.locked_core.specs.Makers.{IsOneOf}
use Rattle.memory_report.specs.Histories.{calls_of}
use Rattle.locked_core.proofs.closing.all_known.Given as goal

-- each number before this one is of one of the CPUs, or of none that has an entry
abbrev pub invariant-loop-number : goal.invariant-loop-number
invariant-loop-number g l = (n : ℕ) → n < l.number → 0 < calls_of n l.log.entries → IsOneOf l.cpus n
