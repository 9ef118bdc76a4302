use Rattle.page_map.proofs.MapChanges.{clear-entries, clear-map, clear-foreign}
use Rattle.page_map.proofs.clear_entry.Goals as goal

pub returns-clause-entries : goal.returns-clause-entries
returns-clause-entries c = clear-entries c.args.memory.now c.remove_entry.new.memory c.args.directory c.args.page c.remove_entry.result c.requires.map c.requires.user c.requires.table c.remove_entry.ensures.cleared

pub returns-clause-map : goal.returns-clause-map
returns-clause-map c = clear-map c.args.memory.now c.remove_entry.new.memory c.args.directory c.args.page c.remove_entry.result c.requires.map c.requires.user c.requires.table c.remove_entry.ensures.cleared c.remove_entry.ensures.length

pub returns-clause-foreign : goal.returns-clause-foreign
returns-clause-foreign c = clear-foreign c.args.memory.now c.remove_entry.new.memory c.args.directory c.args.page c.remove_entry.result c.requires.map c.requires.user c.requires.table c.remove_entry.ensures.cleared
