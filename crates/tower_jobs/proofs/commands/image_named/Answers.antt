use Rattle.std.proofs.Common.{inl, inr}
use Rattle.command_answers.proofs.Writers.{keeps_itself}
use Rattle.tower_jobs.proofs.commands.image_named.Goals as goal

pub returns-in-Ok : goal.returns-in-Ok
returns-in-Ok g c = inr (c.in-Ok.resumed.core, c.in-Ok.resumed.whole, c.in-Ok.ensures.core, c.resume_image.ensures)

-- nothing was read of the script, and nothing written
pub returns-in-Err : goal.returns-in-Err
returns-in-Err g c = inl (c.in-Err.ensures.none, keeps_itself (g.I.Read.remaining c.args.input.now), keeps_itself (g.O.Write.contents c.args.output.now))
