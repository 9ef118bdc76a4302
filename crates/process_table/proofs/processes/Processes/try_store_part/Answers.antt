use Rattle.process_table.proofs.Prelude.{◌≡◌, ◌∙◌, ap, sym, subst, refl, Bool, true, false, length, arith, and_parts, offset_number, cost, slot_at, cost-stored_of, State, is_mapped, IsWhole, state_of, IsWellFormed, get_or_default}
use Rattle.process_table.proofs.Lemmas.{charged-same, well_formed-part}
use Rattle.address_space.specs.View as frames
use Rattle.process_table.proofs.processes.Processes.try_store_part.Goals as goal

pub invariant_of-self : goal.invariant_of-self
invariant_of-self c = by c.try_write_part.result refl
  where
    s : State
    s = state_of c.self.inside.spaces c.self.inside.quotas c.self.inside.offers

    by : (x : Bool) → c.try_write_part.result ≡ x → IsWhole c.try_write_part.new.self c.self.inside.quotas c.self.inside.offers
    by false is = subst (λ (v : frames.View). IsWhole v c.self.inside.quotas c.self.inside.offers) (sym (c.try_write_part.ensures.none is)) c.self.invariant
    by true is =
        let mapped : is_mapped s (slot_at c.args.pid c.args.address) ≡ true = (and_parts (is_mapped s (slot_at c.args.pid c.args.address)) _ (sym c.try_write_part.ensures.done ∙ is)).0 in
        let after = c.try_write_part.ensures.spaces is in
        record {
          kept = charged-same c.self.inside.spaces c.try_write_part.new.self c.self.inside.quotas c.self.invariant.kept c.try_write_part.ensures.directories (ap length c.try_write_part.ensures.roles)
              (λ q. ap (λ S. cost S q) after ∙ cost-stored_of c.self.inside.spaces.spaces (slot_at c.args.pid c.args.address) (offset_number c.args.address) c.args.part.now q mapped);
          well_formed = subst IsWellFormed (λ i. record s { spaces = sym after i })
              (well_formed-part s c.args.pid c.args.address c.args.part.now c.self.invariant.well_formed mapped c.requires.within (λ k d l. let small = (c.type_inv.part k).fits in let same = get_or_default c.args.part.now k d 0 l in omega (arith, small, same)));
        }

pub returns-clause-state : goal.returns-clause-state
returns-clause-state c = grind (arith, c.try_write_part.ensures.spaces)

pub returns-clause-stay : goal.returns-clause-stay
returns-clause-stay c = grind (arith, c.try_write_part.ensures.stay)
