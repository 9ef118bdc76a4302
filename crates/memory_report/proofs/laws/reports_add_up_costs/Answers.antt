use Rattle.memory_report.proofs.ReportLemmas.{total_is_cost}
use Rattle.memory_report.proofs.laws.reports_add_up_costs.Goals as goal

pub returns : goal.returns
returns c = total_is_cost
