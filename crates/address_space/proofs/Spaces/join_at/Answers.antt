use Rattle.address_space.proofs.Prelude.{arith, ◌<◌, ◌^◌, ap, sym, ◌∙◌, subst, frame_bytes, PageEntry, with_entry, at_page, TableGiven, SlotJoined, slot_number, table_of_place, found_of, none_goes, directory_of}
use Rattle.address_space.proofs.Lemmas.{alike_held, found_real, found_named, found_least, found_mapped, place_table, place_found, frames_stay, places_ready}
use Rattle.address_space.proofs.steps.NewPages.{ready_given, ready_inside, ready_count, ready_fits, ready_below, ready_small, holder_added, holder_more, added_kept}
use Rattle.address_space.proofs.Spaces.join_at.Goals as goal

pub unwrap-found-requires : goal.unwrap-found-requires
unwrap-found-requires c = grind (arith, place_found, found_mapped)

pub give_table-table-requires-clause-takes : goal.give_table-table-requires-clause-takes
give_table-table-requires-clause-takes c = record {
  user = c.requires.user;
  live = rw (← c.self.view_is) at c.requires.live;
  spaces = c.self.invariant.spaces;
  room = rw (← c.self.view_is) at c.requires.room;
}

pub give_table-table-requires-clause-linked : goal.give_table-table-requires-clause-linked
give_table-table-requires-clause-linked c = c.table-linked.ensures ∙ ap table_of_place (rw (← c.self.view_is) at c.requires.own) ∙ place_table c.self.inside.directories c.self.inside.memory c.args.pid c.args.page

pub count_page-requires-clause-inside : goal.count_page-requires-clause-inside
count_page-requires-clause-inside c =
    ready_count c.self.inside.directories c.self.inside.memory c.self.inside.frames c.args.pid c.give_table-table.ensures.0 c.args.page c.give_table-table.result c.give_table-table.new.memory c.give_table-table.new.frames c.self.invariant.spaces c.requires.user c.give_table-table.ensures.1
    c.give_table-table.ensures.2 c.self.inside.counts.items c.self.invariant.counted

pub count_page-requires-clause-few : goal.count_page-requires-clause-few
count_page-requires-clause-few c =
    ready_fits c.self.inside.directories c.self.inside.memory c.self.inside.frames c.args.pid c.give_table-table.ensures.0 c.args.page c.give_table-table.result c.give_table-table.new.memory c.give_table-table.new.frames c.self.invariant.spaces c.requires.user c.give_table-table.ensures.1
    c.give_table-table.ensures.2 c.self.inside.counts.items c.self.invariant.counted

pub put_entry-requires-clause-inside : goal.put_entry-requires-clause-inside
put_entry-requires-clause-inside c =
    ready_inside c.self.inside.directories c.self.inside.memory c.self.inside.frames c.args.pid c.give_table-table.ensures.0 c.args.page c.give_table-table.result c.give_table-table.new.memory c.give_table-table.new.frames c.self.invariant.spaces c.requires.user c.give_table-table.ensures.1
    c.give_table-table.ensures.2

pub hold-requires : goal.hold-requires
hold-requires c =
    let named = found_named c.self.inside c.args.giver c.args.giver_page c.unwrap-found.result c.self.invariant c.requires.from (sym (place_found c.self.inside c.args.giver c.args.giver_page) ∙ ap found_of (sym (rw (← c.self.view_is) at c.requires.place)) ∙ sym c.found.ensures ∙ c.unwrap-found.ensures) in
    let up = found_least c.self.inside c.args.giver c.args.giver_page c.unwrap-found.result c.self.invariant c.requires.from (sym (place_found c.self.inside c.args.giver c.args.giver_page) ∙ ap found_of (sym (rw (← c.self.view_is) at c.requires.place)) ∙ sym c.found.ensures ∙ c.unwrap-found.ensures) (sym (found_real c.self.inside c.args.giver c.args.giver_page c.unwrap-found.result c.self.invariant c.requires.from (sym (place_found c.self.inside c.args.giver c.args.giver_page) ∙ ap found_of (sym (rw (← c.self.view_is) at c.requires.place)) ∙ sym c.found.ensures ∙ c.unwrap-found.ensures)) ∙ (rw (← c.self.view_is) at c.requires.real)) in
    let giver = at_page c.args.giver c.args.giver_page in
    ready_below c.self.inside.directories c.self.inside.memory c.self.inside.frames c.args.pid c.give_table-table.ensures.0 c.args.page c.give_table-table.result c.give_table-table.new.memory c.give_table-table.new.frames c.self.invariant.spaces c.requires.user c.give_table-table.ensures.1
    c.give_table-table.ensures.2 giver c.unwrap-found.result.entry.frame named up

pub put_entry-requires-clause-frame : goal.put_entry-requires-clause-frame
put_entry-requires-clause-frame c =
    let named = found_named c.self.inside c.args.giver c.args.giver_page c.unwrap-found.result c.self.invariant c.requires.from (sym (place_found c.self.inside c.args.giver c.args.giver_page) ∙ ap found_of (sym (rw (← c.self.view_is) at c.requires.place)) ∙ sym c.found.ensures ∙ c.unwrap-found.ensures) in
    let up = found_least c.self.inside c.args.giver c.args.giver_page c.unwrap-found.result c.self.invariant c.requires.from (sym (place_found c.self.inside c.args.giver c.args.giver_page) ∙ ap found_of (sym (rw (← c.self.view_is) at c.requires.place)) ∙ sym c.found.ensures ∙ c.unwrap-found.ensures) (sym (found_real c.self.inside c.args.giver c.args.giver_page c.unwrap-found.result c.self.invariant c.requires.from (sym (place_found c.self.inside c.args.giver c.args.giver_page) ∙ ap found_of (sym (rw (← c.self.view_is) at c.requires.place)) ∙ sym c.found.ensures ∙ c.unwrap-found.ensures)) ∙ (rw (← c.self.view_is) at c.requires.real)) in
    let giver = at_page c.args.giver c.args.giver_page in
    subst (λ (e : PageEntry). e.frame < 2 ^ 20) (sym c.untouched-entry.ensures)
    (ready_small c.self.inside.directories c.self.inside.memory c.self.inside.frames c.args.pid c.give_table-table.ensures.0 c.args.page c.give_table-table.result c.give_table-table.new.memory c.give_table-table.new.frames c.self.invariant.spaces c.requires.user c.give_table-table.ensures.1
    c.give_table-table.ensures.2 giver c.unwrap-found.result.entry.frame named up)

-- what is left once the page's table is there, and once its entry is
given : (c : goal.After-put_entry) → TableGiven c.self.inside.directories c.args.pid (slot_number c.args.page) c.self.inside.memory c.self.inside.frames c.give_table-table.new.memory c.give_table-table.new.frames
given c = ready_given c.self.inside.directories c.self.inside.memory c.self.inside.frames c.args.pid c.give_table-table.ensures.0 c.args.page c.give_table-table.result c.give_table-table.new.memory c.give_table-table.new.frames c.self.invariant.spaces c.requires.user c.give_table-table.ensures.1 c.give_table-table.ensures.2

added : (c : goal.After-put_entry) → SlotJoined c.self.inside.directories c.args.giver c.args.giver_page c.args.pid c.args.page c.args.right c.give_table-table.new.memory c.give_table-table.new.frames c.put_entry.new.memory c.hold.new.self
added c =
    holder_added c.self.inside.directories c.self.inside.memory c.self.inside.frames c.args.pid c.give_table-table.ensures.0 c.args.page c.give_table-table.result c.give_table-table.new.memory c.give_table-table.new.frames c.self.invariant.spaces c.requires.user c.give_table-table.ensures.1
    c.give_table-table.ensures.2 c.args.giver c.args.giver_page c.unwrap-found.result.entry.frame c.hold.ensures.count c.args.right c.put_entry.new.memory c.hold.new.self (rw (← c.self.view_is) at c.requires.unmapped)
    (found_named c.self.inside c.args.giver c.args.giver_page c.unwrap-found.result c.self.invariant c.requires.from (sym (place_found c.self.inside c.args.giver c.args.giver_page) ∙ ap found_of (sym (rw (← c.self.view_is) at c.requires.place)) ∙ sym c.found.ensures ∙ c.unwrap-found.ensures)) c.hold.ensures.page c.hold.ensures.now
    (c.put_entry.ensures.frames ∙ ap (with_entry (frame_bytes c.give_table-table.new.memory) c.give_table-table.result c.args.page) c.untouched-entry.ensures) c.put_entry.ensures.length

pub returns-clause-spaces : goal.returns-clause-spaces
returns-clause-spaces c = grind (arith, added, given)

pub invariant_of-self : goal.invariant_of-self
invariant_of-self c =
    added_kept c.self.inside.directories c.self.inside.memory c.self.inside.frames c.args.pid c.give_table-table.ensures.0 c.args.page c.give_table-table.result c.give_table-table.new.memory c.give_table-table.new.frames c.self.invariant.spaces c.requires.user c.give_table-table.ensures.1
    c.give_table-table.ensures.2 c.self.inside.counts.items c.self.invariant.counted c.put_entry.new.memory c.count_page.new.counts.items c.hold.new.self (rw (← c.self.view_is) at c.requires.room) (added c).slot
    (holder_more c.self.inside.directories c.self.inside.memory c.self.inside.frames c.args.pid c.give_table-table.ensures.0 c.args.page c.give_table-table.result c.give_table-table.new.memory c.give_table-table.new.frames c.self.invariant.spaces c.requires.user c.give_table-table.ensures.1 c.give_table-table.ensures.2 c.args.giver c.args.giver_page c.args.right c.put_entry.new.memory c.hold.new.self (rw (← c.self.view_is) at c.requires.unmapped) (added c))
    (alike_held c.give_table-table.new.frames c.hold.new.self c.unwrap-found.result.entry.frame c.hold.ensures) c.count_page.ensures

pub returns-clause-stay : goal.returns-clause-stay
returns-clause-stay c =
    rw (← c.self.view_is)
    (frames_stay none_goes c.self.inside.directories c.self.inside.memory c.put_entry.new.memory c.self.inside.frames c.hold.new.self c.self.invariant.spaces.sound (added c).slot.sound
    (places_ready none_goes (directory_of c.self.inside.directories) (frame_bytes c.self.inside.memory)
    (frame_bytes c.give_table-table.new.memory) (frame_bytes c.put_entry.new.memory) (given c).entries (given c).tables
    (added c).slot.stay))
