use Rattle.address_space.proofs.Prelude.{ap, sym, ◌∙◌, is_some, found_of, arith}
use Rattle.address_space.proofs.Lemmas.{place_found, place_mapped, found_lies, room_found, found_filled, filled_kept, filled_real, filled_others, filled_stay, filled_found, filled_beside}
use Rattle.address_space.proofs.Spaces.fill_at.Goals as goal

pub give_frame-entry-requires-clause-lies : goal.give_frame-entry-requires-clause-lies
give_frame-entry-requires-clause-lies c =
    found_lies c.self.inside c.args.pid c.args.page c.unwrap-found.result c.self.invariant c.requires.user (sym (place_found c.self.inside c.args.pid c.args.page) ∙ ap found_of (sym (rw (← c.self.view_is) at c.requires.place)) ∙ sym c.found.ensures ∙ c.unwrap-found.ensures)

pub give_frame-entry-requires-clause-free : goal.give_frame-entry-requires-clause-free
give_frame-entry-requires-clause-free c =
    room_found c.self.inside c.args.pid c.args.page c.unwrap-found.result c.self.invariant c.requires.user (sym (place_found c.self.inside c.args.pid c.args.page) ∙ ap found_of (sym (rw (← c.self.view_is) at c.requires.place)) ∙ sym c.found.ensures ∙ c.unwrap-found.ensures) c.if-not-found.false

pub returns-clause-spaces : goal.returns-clause-spaces
returns-clause-spaces c =
    rw (← c.self.view_is)
    ((found_filled c.self.inside c.args.pid c.args.page c.unwrap-found.result c.self.invariant c.requires.user (sym (place_found c.self.inside c.args.pid c.args.page) ∙ ap found_of (sym (rw (← c.self.view_is) at c.requires.place)) ∙ sym c.found.ensures ∙ c.unwrap-found.ensures) c.give_frame-entry.result c.give_frame-entry.new.memory c.give_frame-entry.new.frames c.if-not-found.false c.give_frame-entry.ensures).spaces)

pub invariant_of-self : goal.invariant_of-self
invariant_of-self c =
    filled_kept c.self.inside c.args.pid c.args.page c.unwrap-found.result c.self.invariant c.requires.user (sym (place_found c.self.inside c.args.pid c.args.page) ∙ ap found_of (sym (rw (← c.self.view_is) at c.requires.place)) ∙ sym c.found.ensures ∙ c.unwrap-found.ensures) c.give_frame-entry.result c.give_frame-entry.new.memory c.give_frame-entry.new.frames c.give_frame-entry.ensures (found_filled c.self.inside c.args.pid c.args.page c.unwrap-found.result c.self.invariant c.requires.user (sym (place_found c.self.inside c.args.pid c.args.page) ∙ ap found_of (sym (rw (← c.self.view_is) at c.requires.place)) ∙ sym c.found.ensures ∙ c.unwrap-found.ensures) c.give_frame-entry.result c.give_frame-entry.new.memory c.give_frame-entry.new.frames c.if-not-found.false c.give_frame-entry.ensures)

pub returns-clause-real : goal.returns-clause-real
returns-clause-real c =
    (filled_real c.self.inside.directories c.self.inside.memory c.give_frame-entry.new.memory c.self.inside.frames c.give_frame-entry.new.frames c.args.pid c.args.page (found_filled c.self.inside c.args.pid c.args.page c.unwrap-found.result c.self.invariant c.requires.user (sym (place_found c.self.inside c.args.pid c.args.page) ∙ ap found_of (sym (rw (← c.self.view_is) at c.requires.place)) ∙ sym c.found.ensures ∙ c.unwrap-found.ensures) c.give_frame-entry.result c.give_frame-entry.new.memory c.give_frame-entry.new.frames c.if-not-found.false c.give_frame-entry.ensures))

pub returns-clause-others : goal.returns-clause-others
returns-clause-others c =
    rw (← c.self.view_is)
    (filled_others c.self.inside.directories c.self.inside.memory c.give_frame-entry.new.memory c.self.inside.frames c.give_frame-entry.new.frames c.args.pid c.args.page c.self.invariant.spaces.sound (found_filled c.self.inside c.args.pid c.args.page c.unwrap-found.result c.self.invariant c.requires.user (sym (place_found c.self.inside c.args.pid c.args.page) ∙ ap found_of (sym (rw (← c.self.view_is) at c.requires.place)) ∙ sym c.found.ensures ∙ c.unwrap-found.ensures) c.give_frame-entry.result c.give_frame-entry.new.memory c.give_frame-entry.new.frames c.if-not-found.false c.give_frame-entry.ensures))

pub returns-clause-stay : goal.returns-clause-stay
returns-clause-stay c =
    rw (← c.self.view_is)
    (filled_stay c.self.inside c.args.pid c.args.page c.unwrap-found.result c.self.invariant c.requires.user (sym (place_found c.self.inside c.args.pid c.args.page) ∙ ap found_of (sym (rw (← c.self.view_is) at c.requires.place)) ∙ sym c.found.ensures ∙ c.unwrap-found.ensures) c.give_frame-entry.new.memory c.give_frame-entry.new.frames (found_filled c.self.inside c.args.pid c.args.page c.unwrap-found.result c.self.invariant c.requires.user (sym (place_found c.self.inside c.args.pid c.args.page) ∙ ap found_of (sym (rw (← c.self.view_is) at c.requires.place)) ∙ sym c.found.ensures ∙ c.unwrap-found.ensures) c.give_frame-entry.result c.give_frame-entry.new.memory c.give_frame-entry.new.frames c.if-not-found.false c.give_frame-entry.ensures))

pub unwrap-found-requires : goal.unwrap-found-requires
unwrap-found-requires c = ap is_some (c.found.ensures ∙ ap found_of c.requires.place) ∙ c.stands.ensures.places.mapped c.args.pid c.args.page c.requires.user ∙ c.requires.mapped

pub returns-then-not-found-clause-real : goal.returns-then-not-found-clause-real
returns-then-not-found-clause-real c = grind arith

pub returns-clause-place : goal.returns-clause-place
returns-clause-place c =
    sym (place_mapped c.self.inside.directories c.give_frame-entry.new.memory c.args.pid c.args.page (record { page = c.args.page; table = c.unwrap-found.result.table; entry = c.give_frame-entry.result })
    (filled_found c.self.inside c.args.pid c.args.page c.unwrap-found.result c.self.invariant c.requires.user (sym (place_found c.self.inside c.args.pid c.args.page) ∙ ap found_of (sym (rw (← c.self.view_is) at c.requires.place)) ∙ sym c.found.ensures ∙ c.unwrap-found.ensures) c.give_frame-entry.result c.give_frame-entry.new.memory c.give_frame-entry.new.frames c.give_frame-entry.ensures))

pub returns-clause-beside : goal.returns-clause-beside
returns-clause-beside c =
    rw (← c.self.view_is)
    (filled_beside (found_filled c.self.inside c.args.pid c.args.page c.unwrap-found.result c.self.invariant c.requires.user (sym (place_found c.self.inside c.args.pid c.args.page) ∙ ap found_of (sym (rw (← c.self.view_is) at c.requires.place)) ∙ sym c.found.ensures ∙ c.unwrap-found.ensures) c.give_frame-entry.result c.give_frame-entry.new.memory c.give_frame-entry.new.frames c.if-not-found.false c.give_frame-entry.ensures))
