use Rattle.process_table.proofs.Prelude.{arith, cost-accessed_of}
use Rattle.process_table.proofs.Lemmas.{charged-same, well_formed-read_at}
use Rattle.process_table.proofs.processes.Processes.try_load_part.Goals as goal

pub invariant_of-self : goal.invariant_of-self
invariant_of-self c =
    grind (
      arith,
      charged-same,
      cost-accessed_of,
      well_formed-read_at,
      c.try_read_part.ensures.none,
      c.self.invariant,
      c.try_read_part.ensures.mapped,
      c.try_read_part.ensures.spaces,
      c.self.invariant.kept,
      c.try_read_part.ensures.directories,
      c.try_read_part.ensures.roles,
      c.self.invariant.well_formed,
    )

pub returns-clause-state : goal.returns-clause-state
returns-clause-state c = grind (arith, c.try_read_part.ensures.spaces)
