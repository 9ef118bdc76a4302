use Rattle.std.proofs.Common.{ℕ, ◌<◌, sym, subst}
use Rattle.image_check.specs.Verdict.{process_clause}
use Rattle.image_restore.specs.Failing.{IsFirst}
use Rattle.image_restore.proofs.FailLemmas.{process_fails, frame_fails, sound_where_none}
use Rattle.image_restore.proofs.restoring.first_failed.Goals as goal

pub returns-in-Some-clause-failed : goal.returns-in-Some-clause-failed
returns-in-Some-clause-failed c =
    subst (λ (n : ℕ). (n < 64) × IsFirst (process_clause c.args.image.now) n c.in-Some.clause) (sym c.pid_of-pid.ensures)
    (process_fails c.args.image.now c.args.verdict.now c.requires c.in-Some.number c.in-Some.clause c.in-Some.ensures.found)

pub returns-in-Some-first_frame-clause-failed : goal.returns-in-Some-first_frame-clause-failed
returns-in-Some-first_frame-clause-failed c =
    frame_fails c.args.image.now c.args.verdict.now c.requires c.in_default.ensures.none c.frames.result c.in-Some-first_frame.number c.in-Some-first_frame.clause c.frames.ensures.count c.in-Some-first_frame.ensures.found

pub returns-clause-sound : goal.returns-clause-sound
returns-clause-sound c = sound_where_none c.args.image.now c.args.verdict.now c.requires c.within.ensures c.in_default.ensures.none c.frames.result c.frames.ensures.count c.in_default-first_frame.ensures.none
