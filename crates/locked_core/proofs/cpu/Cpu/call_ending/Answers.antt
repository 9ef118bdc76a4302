use Rattle.std.proofs.Common.{ℕ, List, Result, Ok, Err, IfErr}
use Rattle.locked_core.specs.Makers.{Maker, IsRefused}
use Rattle.locked_core.specs.declared.faults.Fault.{Fault}
use Rattle.memory_report.specs.declared.entries.LogEntry.{LogEntry}
use Rattle.locked_core.proofs.cpu.Cpu.call_ending.Goals as goal

on_some_log : {X : Type 0} (frames : ℕ) (log : List LogEntry) (cpu : Maker) (made : Result X Fault)
    → IfErr made (λ f. IsRefused frames log cpu f) → IfErr made (λ f. (l : List LogEntry) × IsRefused frames l cpu f)
on_some_log frames log cpu (Ok r) h = h
on_some_log frames log cpu (Err f) h = (log, h)

-- the log is the one that was under the lock
pub returns-clause-refused : goal.returns-clause-refused
returns-clause-refused g c = on_some_log g.N.Name.frames c.deref_mut.result.now.log c.args.self.now c.make-made.result c.make-made.ensures.refused
