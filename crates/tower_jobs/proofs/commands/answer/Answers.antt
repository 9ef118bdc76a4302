use Rattle.std.proofs.Common.{inl, inr}
use Rattle.command_answers.proofs.Writers.{keeps_itself}
use Rattle.tower_cli.specs.Jobs.{as_asked}
use Rattle.tower_jobs.proofs.commands.answer.Goals as goal

pub returns-in-Ok : goal.returns-in-Ok
returns-in-Ok g c = inl (c.in-Ok.ensures.fails, as_asked c.in-Ok.job, c.in-Ok.ensures.job, c.answer_job.ensures)

-- nothing was read or written
pub returns-in-Err : goal.returns-in-Err
returns-in-Err g c = inr (
  c.in-Err.error,
  c.in-Err.ensures.fails,
  c.refuse.ensures,
  keeps_itself (g.I.Read.remaining c.args.input.now),
  keeps_itself (g.O.Write.contents c.args.output.now),
)
