use Rattle.command_answers.proofs.Writers.{keeps_itself}
use Rattle.tower_jobs.proofs.commands.answer_job.Goals as goal

-- nothing was read of the script
pub returns-in-Check : goal.returns-in-Check
returns-in-Check g c = rw c.in-Check.is (keeps_itself (g.I.Read.remaining c.args.input.now), c.check_named.ensures)
