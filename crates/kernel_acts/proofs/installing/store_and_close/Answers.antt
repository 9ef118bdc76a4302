use Rattle.kernel_acts.proofs.Prelude.{◌≡◌, ◌∙◌, true, false, ap, subst, arith, page_number, answer, next, completes, Ends, ended_by, Event, protect_of, events_end_marks, next-goes}
use Rattle.kernel_acts.proofs.Installs.{close_done, stored_there, store_run_closed, closing_spares, closing_ends_no_space}
use Rattle.kernel_acts.proofs.StoresEnd.{marks_then, marks_of_page}
use Rattle.kernel_calls.specs.declared.translations.Ended.TheVariants as end
use Rattle.kernel_acts.proofs.installing.store_and_close.Goals as goal

-- the Protect that takes the right
abbrev closes : (c : goal.After-stands-2) → Event
closes c = protect_of c.args.pid (page_number c.args.address) false

asked : (c : goal.After-stands-2) → protect_of c.args.pid c.page_of-page.result false ≡ closes c
asked c = ap (λ n. protect_of c.args.pid n false) c.page_of-page.ensures.value

done : (c : goal.After-stands-2) → completes (answer c.store_all.new.core.state (closes c)) ≡ true
done c = grind (arith, close_done, stored_there, c.stands.ensures.well_formed, c.store_all.ensures.state)

moved : (c : goal.After-stands-2) → c.step.new.core.state ≡ next c.store_all.new.core.state (closes c)
moved c = c.step.ensures.state ∙ ap (next c.store_all.new.core.state) (asked c)

pub returns-clause-run : goal.returns-clause-run
returns-clause-run c =
    store_run_closed c.args.core.now.state c.store_all.new.core.state c.step.new.core.state c.args.pid c.args.address c.args.part.now c.args.write
    c.if-write.false c.store_all.ensures.stored (done c) (moved c)

pub returns-clause-state : goal.returns-clause-state
returns-clause-state c = grind (arith, moved, next-goes, done, c.store_all.ensures.state, c.if-write.false)

pub returns-clause-marks : goal.returns-clause-marks
returns-clause-marks c =
    let p = c.args.pid in
    let page = page_number c.args.address in
    let u = c.store_all.new.core in
    let w = c.step.new.core in
    let ends = subst (λ (e : Event). Ends (ended_by u e) u w) (asked c) c.step.ensures.ends in
    marks_then (end.Page p page) c.args.core.now u w c.store_all.ensures.marks
    (marks_of_page (ended_by u (closes c)) p page u w (closing_spares u p page) (closing_ends_no_space u p page) (events_end_marks (ended_by u (closes c)) u w ends))
