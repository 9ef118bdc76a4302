use Rattle.process_table.proofs.Prelude.{arith, subst, IsWellFormed, memory_of, View}
use Rattle.address_space.specs.Walks.{WalksAgree}
use Rattle.process_table.proofs.Lemmas.{image_stands, total-book}
use Rattle.process_table.proofs.processes.Processes.stands.Goals as goal

pub returns-clause-image : goal.returns-clause-image
returns-clause-image c = grind (arith, image_stands)

pub returns-clause-walks : goal.returns-clause-walks
returns-clause-walks c = subst (λ (v : View). WalksAgree (memory_of v) v.state.spaces) c.self.view_is c.stands.ensures.walks

pub returns-clause-total : goal.returns-clause-total
returns-clause-total c = grind (arith, total-book)

pub returns-clause-well_formed : goal.returns-clause-well_formed
returns-clause-well_formed c = subst (λ (v : View). IsWellFormed v.state) c.self.view_is c.self.invariant.well_formed

pub returns-clause-used : goal.returns-clause-used
returns-clause-used c = grind (arith, total-book)

pub returns-clause-ways : goal.returns-clause-ways
returns-clause-ways c = grind (arith, c.stands.ensures.ways)

pub returns-clause-places : goal.returns-clause-places
returns-clause-places c = grind (arith, c.stands.ensures.places)
