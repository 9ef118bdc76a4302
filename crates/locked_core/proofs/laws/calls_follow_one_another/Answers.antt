use Rattle.locked_core.proofs.Moments as proved
use Rattle.locked_core.proofs.laws.calls_follow_one_another.Goals as goal

pub returns-clause-from : goal.returns-clause-from
returns-clause-from c = proved.follows_from

pub returns-clause-along : goal.returns-clause-along
returns-clause-along c = proved.ends_along

pub returns-clause-told : goal.returns-clause-told
returns-clause-told c = proved.told_once

pub returns-clause-others : goal.returns-clause-others
returns-clause-others c = proved.told_to_all

pub returns-clause-states : goal.returns-clause-states
returns-clause-states c = proved.states_follow
