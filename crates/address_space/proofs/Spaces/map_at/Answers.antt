use Rattle.address_space.proofs.Prelude.{◌^◌, ◌<◌, ap, sym, subst, arith, ◌∙◌, refl, frame_bytes, PageEntry, with_entry, is_lazy_entry, TableGiven, PageAdded, slot_number, at_page, table_of_place, none_goes, directory_of, ◌≡◌, Some, table_of}
use Rattle.address_space.proofs.Lemmas.{same_lazy, found_written, added_beside, place_table, place_mapped, frames_stay, places_ready}
use Rattle.address_space.proofs.steps.NewPages.{ready_given, ready_table, ready_inside, ready_count, ready_fits, zero_added, zero_more, added_kept}
use Rattle.address_space.proofs.Spaces.map_at.Goals as goal

pub give_table-table-requires-clause-takes : goal.give_table-table-requires-clause-takes
give_table-table-requires-clause-takes c = record {
  user = c.requires.user;
  live = rw (← c.self.view_is) at c.requires.live;
  spaces = c.self.invariant.spaces;
  room = rw (← c.self.view_is) at c.requires.room;
}

pub give_table-table-requires-clause-linked : goal.give_table-table-requires-clause-linked
give_table-table-requires-clause-linked c = c.table-linked.ensures ∙ ap table_of_place (rw (← c.self.view_is) at c.requires.place) ∙ place_table c.self.inside.directories c.self.inside.memory c.args.pid c.args.page

pub count_page-requires-clause-inside : goal.count_page-requires-clause-inside
count_page-requires-clause-inside c =
    ready_count c.self.inside.directories c.self.inside.memory c.self.inside.frames c.args.pid c.give_table-table.ensures.0 c.args.page c.give_table-table.result c.give_table-table.new.memory c.give_table-table.new.frames c.self.invariant.spaces c.requires.user c.give_table-table.ensures.1
    c.give_table-table.ensures.2 c.self.inside.counts.items c.self.invariant.counted

pub count_page-requires-clause-few : goal.count_page-requires-clause-few
count_page-requires-clause-few c =
    ready_fits c.self.inside.directories c.self.inside.memory c.self.inside.frames c.args.pid c.give_table-table.ensures.0 c.args.page c.give_table-table.result c.give_table-table.new.memory c.give_table-table.new.frames c.self.invariant.spaces c.requires.user c.give_table-table.ensures.1
    c.give_table-table.ensures.2 c.self.inside.counts.items c.self.invariant.counted

pub put_entry-requires-clause-inside : goal.put_entry-requires-clause-inside
put_entry-requires-clause-inside c =
    ready_inside c.self.inside.directories c.self.inside.memory c.self.inside.frames c.args.pid c.give_table-table.ensures.0 c.args.page c.give_table-table.result c.give_table-table.new.memory c.give_table-table.new.frames c.self.invariant.spaces c.requires.user c.give_table-table.ensures.1
    c.give_table-table.ensures.2

-- what is left once the page's table is there, and once its entry is
given : (c : goal.After-put_entry) → TableGiven c.self.inside.directories c.args.pid (slot_number c.args.page) c.self.inside.memory c.self.inside.frames c.give_table-table.new.memory c.give_table-table.new.frames
given c = ready_given c.self.inside.directories c.self.inside.memory c.self.inside.frames c.args.pid c.give_table-table.ensures.0 c.args.page c.give_table-table.result c.give_table-table.new.memory c.give_table-table.new.frames c.self.invariant.spaces c.requires.user c.give_table-table.ensures.1 c.give_table-table.ensures.2

added : (c : goal.After-put_entry) → PageAdded c.self.inside.directories c.args.pid c.args.page c.args.write c.give_table-table.new.memory c.give_table-table.new.frames c.put_entry.new.memory c.give_table-table.new.frames
added c =
    zero_added c.self.inside.directories c.self.inside.memory c.self.inside.frames c.args.pid c.give_table-table.ensures.0 c.args.page c.give_table-table.result c.give_table-table.new.memory c.give_table-table.new.frames c.self.invariant.spaces c.requires.user c.give_table-table.ensures.1
    c.give_table-table.ensures.2 c.args.write c.put_entry.new.memory (rw (← c.self.view_is) at c.requires.unmapped)
    (c.put_entry.ensures.frames ∙ ap (with_entry (frame_bytes c.give_table-table.new.memory) c.give_table-table.result c.args.page) c.untouched-entry.ensures) c.put_entry.ensures.length

pub returns-clause-spaces : goal.returns-clause-spaces
returns-clause-spaces c = grind (arith, added, given)

pub returns-clause-lazy : goal.returns-clause-lazy
returns-clause-lazy c =
    (same_lazy c.self.inside.directories c.put_entry.new.memory c.give_table-table.new.frames (added c).slot.sound (at_page c.args.pid c.args.page) ∙ ap is_lazy_entry (added c).lazy.1 ∙ (added c).lazy.2)

pub invariant_of-self : goal.invariant_of-self
invariant_of-self c =
    added_kept c.self.inside.directories c.self.inside.memory c.self.inside.frames c.args.pid c.give_table-table.ensures.0 c.args.page c.give_table-table.result c.give_table-table.new.memory c.give_table-table.new.frames c.self.invariant.spaces c.requires.user c.give_table-table.ensures.1
    c.give_table-table.ensures.2 c.self.inside.counts.items c.self.invariant.counted c.put_entry.new.memory c.count_page.new.counts.items c.give_table-table.new.frames (rw (← c.self.view_is) at c.requires.room) (added c).slot
    (zero_more c.self.inside.directories c.self.inside.memory c.self.inside.frames c.args.pid c.give_table-table.ensures.0 c.args.page c.give_table-table.result c.give_table-table.new.memory c.give_table-table.new.frames c.self.invariant.spaces c.requires.user c.give_table-table.ensures.1 c.give_table-table.ensures.2 c.args.write c.put_entry.new.memory (rw (← c.self.view_is) at c.requires.unmapped) (added c))
    (λ _ _. refl) c.count_page.ensures

-- its table, and the frame that it names
there : (c : goal.After-put_entry) → table_of (frame_bytes c.give_table-table.new.memory) c.give_table-table.ensures.0 (slot_number c.args.page) ≡ Some c.give_table-table.result
there c = ready_table c.self.inside.directories c.self.inside.memory c.self.inside.frames c.args.pid c.give_table-table.ensures.0 c.args.page c.give_table-table.result c.give_table-table.new.memory c.give_table-table.new.frames c.self.invariant.spaces c.requires.user c.give_table-table.ensures.1 c.give_table-table.ensures.2

small : (c : goal.After-put_entry) → c.untouched-entry.result.frame < 2 ^ 20
small c = subst (λ (e : PageEntry). e.frame < 2 ^ 20) (sym c.untouched-entry.ensures) (omega arith)

pub returns-clause-place : goal.returns-clause-place
returns-clause-place c =
    let found =
    found_written c.self.inside.directories c.give_table-table.new.memory c.put_entry.new.memory c.give_table-table.new.frames c.args.pid c.give_table-table.ensures.0 c.args.page c.give_table-table.result c.untouched-entry.result (given c).sound c.give_table-table.ensures.1 (there c) (small c) c.put_entry.ensures.frames in
    sym (place_mapped c.self.inside.directories c.put_entry.new.memory c.args.pid c.args.page (record { page = c.args.page; table = c.give_table-table.result; entry = c.untouched-entry.result }) found)

pub returns-clause-beside : goal.returns-clause-beside
returns-clause-beside c = rw (← c.self.view_is) (added_beside c.put_entry.new.memory c.untouched-entry.result (given c) c.give_table-table.ensures.1 (there c) (small c) c.put_entry.ensures.frames)

pub returns-clause-stay : goal.returns-clause-stay
returns-clause-stay c =
    rw (← c.self.view_is)
    (frames_stay none_goes c.self.inside.directories c.self.inside.memory c.put_entry.new.memory c.self.inside.frames c.give_table-table.new.frames c.self.invariant.spaces.sound (added c).slot.sound
    (places_ready none_goes (directory_of c.self.inside.directories) (frame_bytes c.self.inside.memory)
    (frame_bytes c.give_table-table.new.memory) (frame_bytes c.put_entry.new.memory) (given c).entries (given c).tables
    (added c).slot.stay))
