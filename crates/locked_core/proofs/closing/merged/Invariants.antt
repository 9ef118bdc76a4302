use Rattle.std.proofs.Common.{◌≡◌, ◌+◌, All, length, vec_len}
use Rattle.locked_core.specs.Makers.{IsOfOne, IsTallied, calls_of_all}
use Rattle.locked_core.proofs.closing.merged.Given as goal

-- what holds of each CPU that is left holds of each, since it holds of those that were merged
abbrev pub invariant-loop-cpu : goal.invariant-loop-cpu
invariant-loop-cpu g l =
    (l.all.parts + length l.others.items ≡ l.initial.all.parts + length l.initial.others.items)
    × (l.all.amount + calls_of_all l.others.items ≡ l.initial.all.amount + calls_of_all l.initial.others.items)
    × (l.tally ≡ l.fn.tally)
    × (All (λ c. IsOfOne l.front c) l.others.items → All (λ c. IsOfOne l.front c) l.initial.others.items)
    × (All (λ c. IsTallied l.fn.tally c) l.others.items → All (λ c. IsTallied l.fn.tally c) l.initial.others.items)

abbrev pub decreases-loop-cpu : goal.decreases-loop-cpu
decreases-loop-cpu g l = vec_len l.others
