use Rattle.process_table.proofs.Prelude.{arith, ◌≡◌, ◌∙◌, ap, sym, subst, length, true, cost, slot_at, cost-accessed_of, State, is_mapped, View, state_of, load_in_page}
use Rattle.process_table.proofs.Lemmas.{charged-same, well_formed-read_at}
use Rattle.process_table.proofs.processes.Processes.load_at.Goals as goal

pub invariant_of-self : goal.invariant_of-self
invariant_of-self c =
    let s : State = state_of c.self.inside.spaces c.self.inside.quotas c.self.inside.offers in
    let mapped = subst (λ (v : View). is_mapped v.state (slot_at c.args.pid c.args.address) ≡ true) (sym c.self.view_is) c.requires.mapped in
    let after = c.load_at.ensures.spaces in
    record {
      kept = charged-same c.self.inside.spaces c.load_at.new.self c.self.inside.quotas c.self.invariant.kept c.load_at.ensures.directories (ap length c.load_at.ensures.roles)
          (λ q. ap (λ S. cost S q) after ∙ cost-accessed_of c.self.inside.spaces.spaces (slot_at c.args.pid c.args.address) q mapped);
      well_formed = grind (arith, well_formed-read_at, c.self.invariant.well_formed);
    }

pub returns-clause-state : goal.returns-clause-state
returns-clause-state c = grind (arith, load_in_page, c.requires.mapped, c.load_at.ensures.spaces, c.requires.within)
