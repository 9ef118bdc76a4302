use Rattle.address_space.proofs.Prelude.{◌≤◌, arith, free_frames, slice_get_within, subst, table_need}
use Rattle.address_space.proofs.Lemmas.{room_for_table, page_map_of}
use Rattle.address_space.proofs.mapping.link_new.Goals as goal

pub take-table-requires-clause-free : goal.take-table-requires-clause-free
take-table-requires-clause-free c =
    subst (λ x. table_need x ≤ free_frames c.args.frames.now) c.requires.none
    (room_for_table c.args.directories.now c.args.memory.now c.args.frames.now c.args.pid c.args.page c.requires.takes.spaces c.requires.takes.room)

pub link_table-requires-clause-map : goal.link_table-requires-clause-map
link_table-requires-clause-map c =
    page_map_of c.args.directories.now c.args.memory.now c.args.frames.now c.args.pid c.home-directory.result c.requires.takes.spaces.sound c.home-directory.ensures

pub link_table-requires-clause-inside : goal.link_table-requires-clause-inside
link_table-requires-clause-inside c =
    let size = c.requires.takes.spaces.sound.size in
    grind (arith, size, slice_get_within)
