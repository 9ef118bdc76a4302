use Rattle.std.proofs.Common.{sym}
use Rattle.script_film.proofs.FilmLemmas.{tells_line}
use Rattle.script_film.proofs.recording.Recording.take_line.Goals as goal

pub returns-in_ok-push_line-in-Skipped-clause-follows : goal.returns-in_ok-push_line-in-Skipped-clause-follows
returns-in_ok-push_line-in-Skipped-clause-follows c = λ frames lines records.
    tells_line frames lines c.args.bytes.now c.args.self.now.events c.args.self.now.rows.items c.push_line.new.text.items c.args.self.now.core.state c.args.self.now.image records (sym c.in-Skipped.ensures) c.in_ok-push_line-in-Skipped.ensures
