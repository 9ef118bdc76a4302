use Rattle.long_mode_machine.proofs.WideAccesses.{moves_follow, wide_loads_are_moves, wide_stores_are_moves}
use Rattle.long_mode_machine.proofs.laws.wide_accesses_are_moves.Goals as goal

pub returns-clause-loads : goal.returns-clause-loads
returns-clause-loads c = wide_loads_are_moves

pub returns-clause-stores : goal.returns-clause-stores
returns-clause-stores c = wide_stores_are_moves

pub returns-clause-follow : goal.returns-clause-follow
returns-clause-follow c = moves_follow
