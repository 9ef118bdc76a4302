use Rattle.std.proofs.Common.{◌++◌}
use Rattle.script_run.proofs.session.Session.feed.Goals as goal

pub returns-clause-ok : goal.returns-clause-ok
returns-clause-ok g c = λ frames read start reached.
    c.in_ok-write_out.ensures.ok frames (read ++ c.args.bytes.now) start (c.in_ok-take_lines.ensures.ok frames read start reached)
