use Rattle.std.proofs.Common.{ℕ, ◌*◌, ◌<◌}
use Rattle.shadow_tables.specs.LongWords.{long_at}
use Rattle.shadow_tables.specs.Kernel.{IsKernelWord}
use Rattle.shadow_tables.proofs.halves.is_kernel_half.Given as goal

-- the words so far are as they are to be
abbrev pub invariant-loop-k : goal.invariant-loop-k
invariant-loop-k l = (j : ℕ) → j < l.k → IsKernelWord (long_at l.half (8 * j))
