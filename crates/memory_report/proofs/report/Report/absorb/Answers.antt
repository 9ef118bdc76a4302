use Rattle.std.proofs.Common.{subst, List, Option}
use Rattle.memory_report.proofs.ReportLemmas.{absorbs}
use Rattle.memory_report.specs.Reports.{Absorbs}
use Rattle.memory_report.specs.declared.rows.Row.{Row}
use Rattle.memory_report.proofs.report.Report.absorb.Goals as goal

pub returns : goal.returns
returns c = subst (λ (before : List (Option Row)). Absorbs before c.args.entry.now c.absorb_entry.new.rows) c.self.view_is (absorbs c.self.inside.rows c.args.entry.now c.absorb_entry.new.rows c.absorb_entry.ensures)
