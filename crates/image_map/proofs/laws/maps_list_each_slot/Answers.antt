use Rattle.image_map.proofs.SlotListing.{lists_each_run, lists_each_slot, holders_are_slots}
use Rattle.image_map.proofs.laws.maps_list_each_slot.Goals as goal

pub returns-clause-runs : goal.returns-clause-runs
returns-clause-runs c = lists_each_run

pub returns-clause-slots : goal.returns-clause-slots
returns-clause-slots c = lists_each_slot

pub returns-clause-holders : goal.returns-clause-holders
returns-clause-holders c = holders_are_slots
