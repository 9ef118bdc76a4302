-- So many rounds were played, and the referee asked in each.
use Rattle.guest_race.specs.Asked.{IsAsked}
use Rattle.tower_jobs.specs.Races.{Raced}
use Rattle.tower_jobs.proofs.races.play.Given as goal

abbrev pub invariant-loop-played : goal.invariant-loop-played
invariant-loop-played g l = Raced (IsAsked g.F.Referee.reported g.F.Referee.judged) l.fn.referee l.referee l.frames l.played l.report
