use Rattle.process_table.proofs.Prelude.{arith, refl, ap, State, state_of, cost}
use Rattle.process_table.proofs.Lemmas.{charged-same, whole, mapped_user}
use Rattle.process_table.proofs.processes.Processes.fill_at.Goals as goal

pub fill_at-requires-clause-user : goal.fill_at-requires-clause-user
fill_at-requires-clause-user c = grind (arith, mapped_user, c.self.invariant.well_formed, c.requires.mapped)

pub returns-clause-stay : goal.returns-clause-stay
returns-clause-stay c = grind (arith, c.fill_at.ensures.stay)

pub invariant_of-self : goal.invariant_of-self
invariant_of-self c =
    let s : State = state_of c.self.inside.spaces c.self.inside.quotas c.self.inside.offers in
    let kept = charged-same c.self.inside.spaces c.fill_at.new.self c.self.inside.quotas c.self.invariant.kept c.fill_at.ensures.directories c.fill_at.ensures.frames (λ q. ap (λ S. cost S q) c.fill_at.ensures.spaces) in
    whole c.fill_at.new.self c.self.inside.quotas c.self.inside.offers s kept c.fill_at.ensures.spaces refl refl c.self.invariant.well_formed
