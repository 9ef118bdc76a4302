use Rattle.script_run.proofs.ProgressLemmas.{no_feed_at_all, feed_at}
use Rattle.script_run.proofs.session.split_line.Goals as goal

pub returns-in-None : goal.returns-in-None
returns-in-None c = no_feed_at_all c.args.bytes.now c.in-None.ensures

pub returns-in-Some : goal.returns-in-Some
returns-in-Some c = feed_at c.args.bytes.now c.in-Some.end c.in-Some.ensures
