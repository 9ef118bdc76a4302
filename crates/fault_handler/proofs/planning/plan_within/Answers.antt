use Rattle.fault_handler.proofs.Prelude.{◌∙◌, ap, sym, option_map, planned_by_looks, look_of, start_number}
use Rattle.fault_handler.proofs.Looked.{looked}
use Rattle.fault_handler.proofs.planning.plan_within.Goals as goal

pub returns : goal.returns
returns c = λ size is within.
    let v = c.args.processes.now in
    let behind = c.look_behind-second.ensures.look ∙ ap (option_map (λ page. look_of v c.args.pid c.args.access (start_number page))) (sym is) in
    c.by_looks.ensures
    ∙ (λ i. planned_by_looks c.args.access (c.look_at-first.ensures.look i) (behind i) c.args.container.now)
    ∙ looked v c.args.pid c.args.address size c.args.access c.args.container.now c.requires.container within
