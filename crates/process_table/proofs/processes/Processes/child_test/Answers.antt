use Rattle.process_table.proofs.Prelude.{arith, ◌≡◌, true, ap, sym, ◌∙◌, subst, is_live, spawn_answer, View, translated}
use Rattle.process_table.proofs.Spawns.{spawn-split, container-same}
use Rattle.process_table.proofs.processes.Processes.child_test.Goals as goal

pub split_test-requires : goal.split_test-requires
split_test-requires c = grind (arith, container-same, c.self.invariant.kept, c.requires.container)

pub returns : goal.returns
returns c =
    let p = c.args.pid in
    let live = subst (λ (v : View). is_live v.state p ≡ true) (sym c.self.view_is) c.requires.live in
    c.child_number.ensures ∙ ap translated c.split_test.ensures
    ∙ sym (spawn-split c.self.inside.spaces c.self.inside.quotas c.self.inside.offers p c.args.quota c.self.invariant.kept live)
    ∙ ap (λ (v : View). spawn_answer v.state p c.args.quota) c.self.view_is
