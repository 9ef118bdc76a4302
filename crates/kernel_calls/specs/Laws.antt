-- Laws on runs: every state of one is well formed, and its processes cost no more than there are frames.
use Rattle.std.specs.Prelude.{ℕ, ◌+◌, ◌≤◌, List}
use Rattle.kernel_calls.specs.Below.{open_with, IsWellFormed, total}
use Rattle.kernel_calls.specs.Machine.{end_of}
use Rattle.kernel_calls.specs.declared.calls.Event.{Event}

-- from the opening of a machine of two frames or more, after any events: all live processes together cost at most all frames but frame 0
abbrev pub RunsStayWellFormed : Type 0
RunsStayWellFormed = (n : ℕ) (events : List Event) → 2 ≤ n → IsWellFormed (end_of (open_with n) events) × (1 + total (end_of (open_with n) events) ≤ n)
