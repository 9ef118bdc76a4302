use Rattle.process_table.proofs.Prelude.{rules, refl, State, after_withdraw, state_of}
use Rattle.process_table.proofs.Lemmas.{whole, well_formed-withdraw}
use Rattle.process_table.proofs.processes.Processes.try_withdraw.Goals as goal

pub invariant_of-self-2 : goal.invariant_of-self-2
invariant_of-self-2 c =
    let s : State = state_of c.self.inside.spaces c.self.inside.quotas c.self.inside.offers in
    whole c.self.inside.spaces c.self.inside.quotas c.take.new.self (after_withdraw s c.args.pid c.args.page c.args.target) c.self.invariant.kept refl refl (search rules)
    (well_formed-withdraw s c.args.pid c.args.page c.args.target c.self.invariant.well_formed)
