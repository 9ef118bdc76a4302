use Rattle.page_map.proofs.Prelude
use Prelude.{◌≡◌, ap, ◌∙◌, arith, frame_bytes, slot_number, frame_number, dir_word, with_entry}
use Rattle.page_map.proofs.MapChanges.{table_there, set-entries, set-map, set-foreign}
use Rattle.page_map.proofs.set_entry.Goals as goal

frames : (c : goal.After-put_entry) → frame_bytes c.put_entry.new.memory ≡ with_entry (frame_bytes c.args.memory.now) (frame_number (dir_word (frame_bytes c.args.memory.now) c.args.directory (slot_number c.args.page))) c.args.page c.args.entry
frames c =
    let m = frame_bytes c.args.memory.now in
    let there = table_there m c.args.directory (slot_number c.args.page) c.requires.table in
    let named : c.unwrap-table.result ≡ frame_number (dir_word m c.args.directory (slot_number c.args.page)) = grind (arith, there, c.table.ensures, c.unwrap-table.ensures, c.slot_of.ensures) in
    c.put_entry.ensures.frames ∙ ap (λ t. with_entry m t c.args.page c.args.entry) named

pub returns-clause-frames : goal.returns-clause-frames
returns-clause-frames c = frames c

pub returns-clause-entries : goal.returns-clause-entries
returns-clause-entries c = set-entries c.args.memory.now c.put_entry.new.memory c.args.directory c.args.page c.args.entry c.requires.map c.requires.user c.requires.table c.requires.frame (frames c)

pub returns-clause-map : goal.returns-clause-map
returns-clause-map c = set-map c.args.memory.now c.put_entry.new.memory c.args.directory c.args.page c.args.entry c.requires.map c.requires.user c.requires.table c.requires.frame (frames c) c.put_entry.ensures.length

pub returns-clause-foreign : goal.returns-clause-foreign
returns-clause-foreign c = set-foreign c.args.memory.now c.put_entry.new.memory c.args.directory c.args.page c.args.entry c.requires.map c.requires.user c.requires.table c.requires.frame (frames c)
