use Rattle.kernel_acts.proofs.Prelude.{refl, subst, EndsMarks, ended_by, Ended, event_of, events_end_marks}
use Rattle.kernel_acts.proofs.StoresEnd.{marks_same, marks_of_page}
use Rattle.kernel_calls.specs.declared.translations.Ended.TheVariants as end
use Rattle.kernel_acts.proofs.installing.open.Goals as goal

pub returns-in_default-clause-marks : goal.returns-in_default-clause-marks
returns-in_default-clause-marks c = marks_same (end.Page c.args.pid c.args.page) c.args.core.now c.stands.ensures.image

pub returns-clause-marks : goal.returns-clause-marks
returns-clause-marks c =
    let v = c.args.core.now in
    let w = c.step-reply.new.core in
    let e = event_of c.args.pid c.in-Some.call in
    let told = events_end_marks (ended_by v e) v w c.step-reply.ensures.ends in
    marks_of_page end.Nothing c.args.pid c.args.page v w (λ slot h. refl) (λ q. refl)
    (subst (λ (x : Ended). EndsMarks x v w) (c.in-Some.ensures.call.ends v) told)
