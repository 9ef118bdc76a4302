use Rattle.std.proofs.Common.{inl, inr, refl}
use Rattle.command_answers.proofs.Writers.{keeps_itself}
use Rattle.map_jobs.proofs.commands.draw_named.Goals as goal

pub returns-in-Ok : goal.returns-in-Ok
returns-in-Ok g c = inr (g.R.Opened.Read.remaining c.in-Ok.file, (c.in-Ok.file, c.in-Ok.ensures, refl), c.draw_file.ensures)

pub returns-in-Err : goal.returns-in-Err
returns-in-Err g c = inl (refl, keeps_itself (g.O.Write.contents c.args.output.now))
