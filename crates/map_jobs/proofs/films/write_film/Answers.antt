use Rattle.std.proofs.Common.{inl, refl}
use Rattle.script_run.specs.declared.faults.ScriptFault.TheVariants.{NoMemory}
use Rattle.command_answers.proofs.Writers.{keeps_itself}
use Rattle.map_jobs.proofs.films.write_film.Goals as goal

-- there is no memory for the page of a film that was made
pub returns-in_default-clause-fault : goal.returns-in_default-clause-fault
returns-in_default-clause-fault g c = inl (NoMemory, refl, tt, keeps_itself (g.O.Write.contents c.args.output.now))
