use Rattle.page_map.proofs.LawProofs.{blank_frames_are_maps, blank_frames_map_nothing}
use Rattle.page_map.proofs.blank_frames_map_nothing.Goals as goal

pub returns-clause-map : goal.returns-clause-map
returns-clause-map c = blank_frames_are_maps

pub returns-clause-entries : goal.returns-clause-entries
returns-clause-entries c = blank_frames_map_nothing
