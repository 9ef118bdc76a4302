use Rattle.std.proofs.Common.{ℕ, List, Option, Some, None, Err, ap, inl, inr, refl, subst, sym}
use Rattle.std.specs.Io.KnownBytes.{Keeps}
use Rattle.process_table.specs.State.{State}
use Rattle.process_table.specs.View.{View}
use Rattle.command_answers.proofs.Writers.{keeps_itself}
use Rattle.tower_cli.specs.Images.{IsWhole}
use Rattle.tower_cli.specs.Whole.{EndsIn}
use Rattle.tower_cli.proofs.whole.write_resumed_whole.Goals as goal

-- a script that ended is whole
ended_whole : (begun : State) (remained : Option (List ℕ)) (after : View) → EndsIn begun remained after → IsWhole remained
ended_whole begun None after ends = tt
ended_whole begun (Some input) after ends = ends.0

pub returns-in-Ok-clause-image : goal.returns-in-Ok-clause-image
returns-in-Ok-clause-image g c = (c.in_ok-after.after, c.in_ok-after.ensures.ends, c.in-Ok.ensures.ok)

-- there is no memory for the list of offers, and nothing was written
pub returns-in-Err-NoMemory-clause-fault : goal.returns-in-Err-NoMemory-clause-fault
returns-in-Err-NoMemory-clause-fault g c =
    let held = g.W.Write.contents c.args.writer.now in
    let same = c.in-Err-NoMemory.ensures.unwritten (ap Err c.in-Err-NoMemory.field-0-is) in
    inl (inr (ended_whole c.args.core.state (g.R.Read.remaining c.args.reader.now) c.in_ok-after.after c.in_ok-after.ensures.ends), subst (Keeps held) (sym same) (keeps_itself held))

pub returns-clause-fault : goal.returns-clause-fault
returns-clause-fault g c = inr (refl, c.in_ok-after.after, c.in_ok-after.ensures.ends, c.in-Err-WriteFailed.ensures.err)
