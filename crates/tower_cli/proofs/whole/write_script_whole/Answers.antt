use Rattle.std.proofs.Common.{inr, subst}
use Rattle.process_table.specs.State.{State}
use Rattle.tower_cli.specs.Whole.{EndsWhole, WritesWhole}
use Rattle.tower_cli.proofs.whole.write_script_whole.Goals as goal

pub returns-in-Ok-write_resumed_whole-clause-image : goal.returns-in-Ok-write_resumed_whole-clause-image
returns-in-Ok-write_resumed_whole-clause-image g c =
    subst (λ (s : State). WritesWhole s (g.R.Read.remaining c.args.reader.now) (g.W.Write.contents c.args.writer.now) (g.W.Write.contents c.write_resumed_whole.new.writer)) c.in-Ok.ensures.opening c.in-Ok-write_resumed_whole.ensures.image

pub returns-in-Err-write_resumed_whole-clause-fault : goal.returns-in-Err-write_resumed_whole-clause-fault
returns-in-Err-write_resumed_whole-clause-fault g c = inr (
  c.in-Err-write_resumed_whole.fault,
  c.in-Err-write_resumed_whole.ensures.size,
  c.from.ensures,
  subst (λ (s : State). EndsWhole s c.in-Err-write_resumed_whole.fault (g.R.Read.remaining c.args.reader.now) (g.R.Read.remaining c.write_resumed_whole.new.reader) (g.W.Write.contents c.args.writer.now) (g.W.Write.contents c.write_resumed_whole.new.writer)) c.in-Ok.ensures.opening c.in-Err-write_resumed_whole.ensures.fault,
)
