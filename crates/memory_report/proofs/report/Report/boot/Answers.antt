use Rattle.std.proofs.Common.{◌-◌, ◌∙◌, Some}
use Rattle.std.specs.Prelude.{slice_set}
use Rattle.memory_report.proofs.RowLemmas.{blank, opening-is}
use Rattle.memory_report.proofs.report.Report.boot.Goals as goal

pub returns : goal.returns
returns c =
    c.put.ensures
    ∙ (λ i. slice_set blank (c.root_pid-2.ensures i) (Some (record { parent = c.root_pid.ensures i; quota = c.args.frames - 1; used = 1; given = 0 })))
    ∙ opening-is c.args.frames
