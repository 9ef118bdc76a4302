use Rattle.phys_memory.specs.Bytes.{frame_bytes}
use Rattle.page_map.proofs.MapChanges.{clear-entries, clear-map, clear-foreign}
use Rattle.page_map.proofs.Counting.{table_mapped, last_entry, other_entry}
use Rattle.page_map.proofs.clear_found_entry.Goals as goal

pub remove_found_entry-requires-clause-last : goal.remove_found_entry-requires-clause-last
remove_found_entry-requires-clause-last c = last_entry c.args.memory.now c.args.directory c.args.page c.args.mapped c.requires.map c.requires.user c.requires.entry c.requires.mapped

pub remove_found_entry-requires-clause-others : goal.remove_found_entry-requires-clause-others
remove_found_entry-requires-clause-others c = other_entry c.args.memory.now c.args.directory c.args.page c.args.mapped c.requires.map c.requires.user c.requires.entry c.requires.mapped

pub returns-clause-entries : goal.returns-clause-entries
returns-clause-entries c =
    let present = table_mapped (frame_bytes c.args.memory.now) c.args.directory c.args.page c.requires.entry in
    clear-entries c.args.memory.now c.remove_found_entry.new.memory c.args.directory c.args.page c.remove_found_entry.result c.requires.map c.requires.user present c.remove_found_entry.ensures.cleared

pub returns-clause-map : goal.returns-clause-map
returns-clause-map c =
    let present = table_mapped (frame_bytes c.args.memory.now) c.args.directory c.args.page c.requires.entry in
    clear-map c.args.memory.now c.remove_found_entry.new.memory c.args.directory c.args.page c.remove_found_entry.result c.requires.map c.requires.user present c.remove_found_entry.ensures.cleared c.remove_found_entry.ensures.length

pub returns-clause-foreign : goal.returns-clause-foreign
returns-clause-foreign c =
    let present = table_mapped (frame_bytes c.args.memory.now) c.args.directory c.args.page c.requires.entry in
    clear-foreign c.args.memory.now c.remove_found_entry.new.memory c.args.directory c.args.page c.remove_found_entry.result c.requires.map c.requires.user present c.remove_found_entry.ensures.cleared
