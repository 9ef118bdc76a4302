use Rattle.std.proofs.Common.{◌≡◌, ◌≤◌, sym, subst}
use Rattle.std.specs.Prelude.{◌↔◌}
use Rattle.script_run.specs.declared.faults.ScriptFault.TheVariants as script
use Rattle.command_answers.specs.declared.answers.Answer.{Answer}
use Rattle.command_answers.specs.declared.answers.Answer.TheVariants.{Failed}
use Rattle.command_answers.specs.declared.faults.ToolFault.TheVariants as tool
use Rattle.tower_jobs.specs.Answers.{RefusesSize}
use Rattle.tower_jobs.proofs.SizeLemmas.{done_is_sized, script_is_sized}
use Rattle.tower_jobs.proofs.commands.run_replies.Goals.{in-Ok, in-Err}
use Rattle.tower_jobs.proofs.commands.run_replies.Goals as goal

pub returns-clause-size : goal.returns-clause-size
returns-clause-size g c = elim c.match-run_script.branch [
  | in-Ok w ↦ subst (λ (a : Answer). RefusesSize tool.BadSize 4096 c.args.frames a) (sym w.result-is) (done_is_sized c.run_script.result w.in-Ok.field-0 script.BadSize tool.BadSize w.in-Ok.is c.run_script.ensures.size)
  | in-Err w ↦ subst (λ (a : Answer). RefusesSize tool.BadSize 4096 c.args.frames a) (sym w.result-is) (script_is_sized c.run_script.result w.in-Err.fault w.from.result w.in-Err.is w.from.ensures c.run_script.ensures.size)
]
