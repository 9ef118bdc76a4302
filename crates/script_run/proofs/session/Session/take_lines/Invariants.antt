-- The bytes before the rest were taken.
use Rattle.std.proofs.Common.{◌≡◌, ℕ, ◌+◌, ◌≤◌, ◌++◌, List, Option, length}
use Rattle.script_run.specs.Progress.{Reached}
use Rattle.process_table.specs.State.{State}
use Rattle.script_run.proofs.session.Session.take_lines.Given as goal

abbrev pub invariant-loop-line : goal.invariant-loop-line
invariant-loop-line g l = record {
  lines : l.self.lines + length l.rest ≤ l.fn.self.lines + length l.fn.bytes;
  reached : (begun : State) (read : List ℕ) (start : Option (List ℕ)) → Reached begun read l.fn.self start (g.W.Takes.contents l.fn.writer)
      → (taken : List ℕ) × (l.fn.bytes ≡ taken ++ l.rest) × Reached begun (read ++ taken) l.self start (g.W.Takes.contents l.writer);
}

abbrev pub decreases-loop-line : goal.decreases-loop-line
decreases-loop-line g l = length l.rest
