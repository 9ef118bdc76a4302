use Rattle.script_run.specs.declared.faults.ScriptFault.TheVariants as script
use Rattle.command_answers.specs.declared.faults.ToolFault.TheVariants as tool
use Rattle.tower_jobs.proofs.SizeLemmas.{done_is_sized, script_is_sized}
use Rattle.tower_jobs.proofs.commands.write_image_of.Goals as goal

pub returns-in-Ok-clause-size : goal.returns-in-Ok-clause-size
returns-in-Ok-clause-size g c = done_is_sized c.write_script_image.result c.in-Ok.field-0 script.BadSize tool.BadSize c.in-Ok.is c.write_script_image.ensures.size

pub returns-in-Err-clause-size : goal.returns-in-Err-clause-size
returns-in-Err-clause-size g c = script_is_sized c.write_script_image.result c.in-Err.fault c.from.result c.in-Err.is c.from.ensures c.write_script_image.ensures.size
