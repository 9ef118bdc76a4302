use Rattle.script_film.proofs.FilmLemmas.{tells_event}
use Rattle.script_film.proofs.recording.Recording.take_event.Goals as goal

pub returns-clause-follows : goal.returns-clause-follows
returns-clause-follows c = λ frames lines records is.
    tells_event frames lines c.args.bytes.now c.args.event.now c.args.self.now.events c.args.self.now.rows.items c.tell_event.new.rows.items c.args.self.now.core.state c.tell_event.new.core.state c.args.self.now.image c.tell_event.new.image records is
    c.in_ok-tell_event.ensures.rows c.in_ok-tell_event.ensures.state c.in_ok-tell_event.ensures.stands
