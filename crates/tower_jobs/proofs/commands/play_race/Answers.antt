use Rattle.command_answers.specs.declared.faults.ToolFault.TheVariants as tool
use Rattle.tower_jobs.proofs.SizeLemmas.{done_is_sized, failed_is_sized}
use Rattle.tower_jobs.proofs.commands.play_race.Goals as goal

pub returns-in-Ok-clause-size : goal.returns-in-Ok-clause-size
returns-in-Ok-clause-size g c = done_is_sized c.race.result c.in-Ok.field-0 tool.BadSize tool.BadSize c.in-Ok.is c.race.ensures.size

pub returns-in-Err-clause-size : goal.returns-in-Err-clause-size
returns-in-Err-clause-size g c = failed_is_sized c.race.result c.in-Err.fault tool.BadSize c.in-Err.is c.race.ensures.size
