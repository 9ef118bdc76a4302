-- So many bytes were read, and their lines carried out.
use Rattle.std.proofs.Common.{◌≡◌, ℕ, ◌-◌, ◌≤◌, [], List, length}
use Rattle.std.specs.Io.KnownBytes.{Consumes}
use Rattle.script_run.specs.Progress.{Reached}
use Rattle.process_table.specs.State.{State}
use Rattle.script_run.proofs.session.Session.take_script.Given as goal

abbrev pub invariant-loop-total : goal.invariant-loop-total
invariant-loop-total g l = record {
  within : l.total ≤ 16777216;
  lines : l.self.lines ≤ l.total;
  reached : (begun : State) → Reached begun [] l.fn.self (g.W.Takes.contents l.fn.writer) (g.W.Takes.contents l.fn.writer)
      → (read : List ℕ) × (length read ≡ l.total) × Consumes (g.R.Read.remaining l.fn.reader) (g.R.Read.remaining l.reader) read × Reached begun read l.self (g.W.Takes.contents l.fn.writer) (g.W.Takes.contents l.writer);
}

abbrev pub decreases-loop-total : goal.decreases-loop-total
decreases-loop-total g l = 16777216 - l.total
