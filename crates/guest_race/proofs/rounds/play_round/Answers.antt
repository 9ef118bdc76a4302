use Rattle.std.proofs.Common.{sym}
use Rattle.guest_race.proofs.RoundLemmas.{asked_both, round_reports}
use Rattle.guest_race.proofs.rounds.play_round.Goals as goal

pub returns-clause-round : goal.returns-clause-round
returns-clause-round g c =
    let played = c.play_opened-first.result in
    rw c.requires.name.0 (round_reports g.N.Name.frames played.0 played.1 played.2 _ _ _ _ _ (rw (sym c.requires.name.0) c.requires.few) c.play_opened-first.ensures.numbers c.play_opened-first.ensures.both c.report_told-reported.ensures.report
    c.audit_memory-audited.ensures.sound c.told_cause.ensures
    (rw (c.put_both.ensures, c.audit_memory-audited.ensures.kept) at c.close_all-report.ensures) c.judged.ensures)

pub returns-clause-asked : goal.returns-clause-asked
returns-clause-asked g c = asked_both _ _ _ _ _ _ _ _ _ _ _ _ _ c.report_told-reported.ensures.asked c.audit_memory-audited.ensures.asked c.told_cause.ensures c.close_all-report.ensures c.judged.ensures
