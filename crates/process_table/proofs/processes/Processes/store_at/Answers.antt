use Rattle.process_table.proofs.Prelude.{arith, ◌≡◌, ◌∙◌, ap, sym, subst, length, true, offset_number, byte_count, image_of, takes_stores, cost, slot_at, bytes_of, cost-stored_of, memory_of, State, View, state_of, IsWellFormed, store_in_page}
use Rattle.process_table.proofs.Lemmas.{charged-same, keeps-store_in_page, takes_mapped, takes_real}
use Rattle.process_table.proofs.processes.Processes.store_at.Goals as goal

pub store_at-requires-clause-mapped : goal.store_at-requires-clause-mapped
store_at-requires-clause-mapped c = grind (arith, takes_mapped, c.requires.takes)

pub store_at-requires-clause-real : goal.store_at-requires-clause-real
store_at-requires-clause-real c = grind (arith, takes_real, c.requires.takes)

pub invariant_of-self : goal.invariant_of-self
invariant_of-self c =
    let s : State = state_of c.self.inside.spaces c.self.inside.quotas c.self.inside.offers in
    let mapped = takes_mapped c.self.inside.spaces.spaces (image_of c.self.inside.spaces) (slot_at c.args.pid c.args.address)
    (subst (λ (v : View). takes_stores v.state.spaces (memory_of v) (slot_at c.args.pid c.args.address) ≡ true) (sym c.self.view_is) c.requires.takes) in
    let after = c.store_at.ensures.spaces in
    record {
      kept = charged-same c.self.inside.spaces c.store_at.new.self c.self.inside.quotas c.self.invariant.kept c.store_at.ensures.directories (ap length c.store_at.ensures.roles)
          (λ q. ap (λ S. cost S q) after ∙ cost-stored_of c.self.inside.spaces.spaces (slot_at c.args.pid c.args.address) (offset_number c.args.address) (bytes_of (byte_count c.args.size) c.args.value) q mapped);
      well_formed = subst IsWellFormed (λ i. record s { spaces = sym after i })
          (keeps-store_in_page s c.args.pid c.args.address c.args.size c.args.value c.self.invariant.well_formed c.requires.within mapped);
    }

pub returns-clause-state : goal.returns-clause-state
returns-clause-state c =
    grind (arith, takes_mapped, store_in_page, c.requires.takes, c.store_at.ensures.spaces, c.requires.within)

pub returns-clause-stay : goal.returns-clause-stay
returns-clause-stay c = grind (arith, c.store_at.ensures.stay)
