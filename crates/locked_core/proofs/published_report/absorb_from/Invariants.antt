use Rattle.std.proofs.Common.{◌≡◌, ◌≤◌, ℕ, take, length}
use Rattle.memory_report.specs.Histories.{Legal, state_after}
use Rattle.memory_report.specs.Reports.{report_of}
use Rattle.locked_core.proofs.published_report.absorb_from.Given as goal

-- it is the report on all entries before the place
abbrev pub invariant-loop-place : goal.invariant-loop-place
invariant-loop-place l =
    (l.place ≤ length l.log.entries)
    × ((frames : ℕ) → Legal frames l.log.entries → l.fn.report ≡ report_of (state_after frames (take l.first l.log.entries)) → l.report ≡ report_of (state_after frames (take l.place l.log.entries)))
