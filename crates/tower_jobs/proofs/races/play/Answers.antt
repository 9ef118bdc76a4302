use Rattle.std.proofs.Common.{ℕ, ◌≤◌, ◌≡◌, subst, arith}
use Rattle.guest_race.specs.Asked.{IsAsked, once, more}
use Rattle.tower_jobs.specs.Races.{Raced}
use Rattle.tower_jobs.proofs.races.play.Goals as goal

-- of plain numbers: where the goal's own facts are at hand, `omega` reads them all
same_count : (played rounds : ℕ) → (1 ≤ rounds → played ≤ rounds) → rounds ≤ played → 1 ≤ rounds → played ≡ rounds
same_count played rounds most least some = let less = most some in omega (arith, less, least)

pub loop-played-init : goal.loop-played-init
loop-played-init g c = once (c.in_ok-report.ensures.asked, c.in_ok-report.ensures.round)

pub loop-played-preserved : goal.loop-played-preserved
loop-played-preserved g c = more c.loop-played.invariant (c.in_ok-report-2.ensures.asked, c.in_ok-report-2.ensures.round)

pub returns : goal.returns
returns g c =
    subst (λ n. Raced (IsAsked g.F.Referee.reported g.F.Referee.judged) c.args.referee.now c.loop-played.referee c.args.frames n c.loop-played.report)
    (same_count c.loop-played.played c.args.rounds c.loop-played.auto.played-end c.loop-played-test.false c.requires) c.loop-played.invariant
