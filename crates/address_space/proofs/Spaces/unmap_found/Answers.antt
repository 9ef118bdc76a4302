use Rattle.address_space.proofs.Prelude.{arith, frame_bytes, SlotRemoved, ap, ◌∙◌, ◌+◌, cost, without, is_slot}
use Rattle.address_space.proofs.Lemmas.{spaces_at, page_map_of, frames_stay, loose_gone}
use Rattle.address_space.proofs.steps.GonePages.{home_table, home_entry, home_count, home_positive, home_counts, home_relief, home_in_use, gone_table, gone_page, gone_kept}
use Rattle.address_space.proofs.steps.RegionDrops.{entry_gone}
use Rattle.address_space.proofs.Spaces.unmap_found.Goals as goal

pub uncount_page-mapped-requires-clause-inside : goal.uncount_page-mapped-requires-clause-inside
uncount_page-mapped-requires-clause-inside c =
    home_count c.self.inside c.args.pid c.args.directory c.args.page c.args.found.now c.self.invariant c.requires.user (rw (← c.self.view_is) at c.requires.found) (rw (← c.self.view_is) at c.requires.home)

pub uncount_page-mapped-requires-clause-some : goal.uncount_page-mapped-requires-clause-some
uncount_page-mapped-requires-clause-some c =
    home_positive c.self.inside c.args.pid c.args.directory c.args.page c.args.found.now c.self.invariant c.requires.user (rw (← c.self.view_is) at c.requires.found) (rw (← c.self.view_is) at c.requires.home)

pub clear_found_entry-freed-requires-clause-map : goal.clear_found_entry-freed-requires-clause-map
clear_found_entry-freed-requires-clause-map c =
    page_map_of c.self.inside.directories c.self.inside.memory c.self.inside.frames c.args.pid c.args.directory c.self.invariant.spaces.sound (rw (← c.self.view_is) at c.requires.home)

pub clear_found_entry-freed-requires-clause-table : goal.clear_found_entry-freed-requires-clause-table
clear_found_entry-freed-requires-clause-table c = grind (arith, home_table)

pub clear_found_entry-freed-requires-clause-entry : goal.clear_found_entry-freed-requires-clause-entry
clear_found_entry-freed-requires-clause-entry c = grind (arith, home_entry)

pub clear_found_entry-freed-requires-clause-mapped : goal.clear_found_entry-freed-requires-clause-mapped
clear_found_entry-freed-requires-clause-mapped c =
    home_counts c.self.inside c.args.pid c.args.directory c.args.page c.args.found.now c.self.invariant c.requires.user (rw (← c.self.view_is) at c.requires.found) (rw (← c.self.view_is) at c.requires.home) c.uncount_page-mapped.result c.uncount_page-mapped.ensures.mapped

pub leave-requires : goal.leave-requires
leave-requires c =
    home_in_use c.self.inside c.args.pid c.args.directory c.args.page c.args.found.now c.self.invariant c.requires.user (rw (← c.self.view_is) at c.requires.found) (rw (← c.self.view_is) at c.requires.home)

pub free_table-requires : goal.free_table-requires
free_table-requires c = grind (arith, gone_table)

gone : (c : goal.After-relief) → SlotRemoved c.self.inside.directories c.args.pid c.args.page c.self.inside.memory c.self.inside.frames c.clear_found_entry-freed.new.memory c.free_table.new.frames
gone c =
    gone_page c.self.inside c.args.pid c.args.directory c.args.page c.args.found.now c.self.invariant c.requires.user (rw (← c.self.view_is) at c.requires.found) (rw (← c.self.view_is) at c.requires.home)
    c.clear_found_entry-freed.new.memory c.leave.new.frames c.clear_found_entry-freed.result c.clear_found_entry-freed.ensures.cleared c.leave.ensures c.free_table.new.frames c.clear_found_entry-freed.ensures.length c.free_table.ensures

pub returns-clause-spaces : goal.returns-clause-spaces
returns-clause-spaces c = rw (← c.self.view_is) ((gone c).spaces)

pub returns-clause-relief : goal.returns-clause-relief
returns-clause-relief c =
    rw (← c.self.view_is)
    (ap (λ S. cost S c.args.pid + c.relief.result) ((gone c).spaces)
    ∙ ap (λ n. cost (without (spaces_at c.self.inside) (is_slot c.args.pid c.args.page)) c.args.pid + n) c.relief.ensures
    ∙ home_relief c.self.inside c.args.pid c.args.directory c.args.page c.args.found.now c.self.invariant c.requires.user (rw (← c.self.view_is) at c.requires.found) (rw (← c.self.view_is) at c.requires.home) c.uncount_page-mapped.result c.uncount_page-mapped.ensures.mapped)

pub invariant_of-self : goal.invariant_of-self
invariant_of-self c =
    gone_kept c.self.inside c.args.pid c.args.directory c.args.page c.args.found.now c.self.invariant c.requires.user (rw (← c.self.view_is) at c.requires.found) (rw (← c.self.view_is) at c.requires.home)
    c.clear_found_entry-freed.new.memory c.leave.new.frames c.clear_found_entry-freed.result c.clear_found_entry-freed.ensures.cleared c.leave.ensures c.free_table.new.frames c.clear_found_entry-freed.ensures.length c.free_table.ensures
    c.uncount_page-mapped.result c.uncount_page-mapped.new.counts.items c.uncount_page-mapped.ensures.mapped c.uncount_page-mapped.ensures.left c.clear_found_entry-freed.ensures.last

pub returns-clause-frames : goal.returns-clause-frames
returns-clause-frames c = rw (← c.self.view_is) ((gone c).length)

pub returns-clause-stay : goal.returns-clause-stay
returns-clause-stay c = grind (arith, frames_stay, gone, c.self.invariant.spaces.sound)

pub returns-clause-words : goal.returns-clause-words
returns-clause-words c =
    rw (← c.self.view_is)
    (entry_gone c.self.inside.memory c.args.directory c.args.found.now.table c.args.page c.clear_found_entry-freed.result (frame_bytes c.clear_found_entry-freed.new.memory)
    (page_map_of c.self.inside.directories c.self.inside.memory c.self.inside.frames c.args.pid c.args.directory c.self.invariant.spaces.sound (rw (← c.self.view_is) at c.requires.home))
    (let user = c.requires.user in omega (arith, user.1))
    (home_table c.self.inside c.args.pid c.args.directory c.args.page c.args.found.now c.self.invariant c.requires.user (rw (← c.self.view_is) at c.requires.found) (rw (← c.self.view_is) at c.requires.home))
    c.clear_found_entry-freed.ensures.cleared)

pub returns-clause-long : goal.returns-clause-long
returns-clause-long c = rw (← c.self.view_is) c.clear_found_entry-freed.ensures.length

pub returns-clause-loose : goal.returns-clause-loose
returns-clause-loose c =
    rw (← c.self.view_is)
    (loose_gone c.self.inside.directories c.self.inside.memory c.clear_found_entry-freed.new.memory c.self.inside.frames c.leave.new.frames c.free_table.new.frames c.args.pid c.args.directory c.args.page
    c.args.found.now.table c.args.found.now.entry c.clear_found_entry-freed.result c.self.invariant.spaces.sound (rw (← c.self.view_is) at c.requires.home)
    (home_table c.self.inside c.args.pid c.args.directory c.args.page c.args.found.now c.self.invariant c.requires.user (rw (← c.self.view_is) at c.requires.found) (rw (← c.self.view_is) at c.requires.home))
    c.clear_found_entry-freed.ensures.cleared c.leave.ensures c.free_table.ensures)
