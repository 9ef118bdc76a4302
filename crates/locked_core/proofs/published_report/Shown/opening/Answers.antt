use Rattle.std.proofs.Common.{◌≡◌, [], length, refl, sym, ap, ◌∙◌}
use Rattle.process_table.specs.State.{open_with}
use Rattle.memory_report.specs.Reports.{report_of}
use Rattle.locked_core.proofs.Entries.{legal_opening}
use Rattle.locked_core.specs.Moments.{entries_in}
use Rattle.locked_core.proofs.published_report.Shown.opening.Goals as goal

pub invariant_of-result : goal.invariant_of-result
invariant_of-result c =
    let empty : c.again.result.log ≡ [] = ap (λ s. s.log) c.again.ensures ∙ c.requires.empty in
    let none : entries_in c.again.result.log ≡ [] = ap entries_in empty in
    let begun = legal_opening c.args.frames (entries_in c.again.result.log) (open_with c.args.frames) c.requires.size.0 c.requires.size.1 none refl in
    (ap length (sym none), begun.0, c.boot.ensures ∙ ap report_of begun.1)
