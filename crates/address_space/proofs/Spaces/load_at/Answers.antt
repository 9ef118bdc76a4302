use Rattle.address_space.proofs.Prelude.{ap, sym, ◌∙◌, is_some, page_number, offset_number, byte_count, Cell, value_of, bytes_at, found_of}
use Rattle.address_space.proofs.Lemmas.{spaces_at, number_in_page, found_mapped, found_lies, found_cell, found_loaded, loaded_beside, place_found}
use Rattle.address_space.proofs.Spaces.load_at.Goals as goal

pub unwrap-found-requires : goal.unwrap-found-requires
unwrap-found-requires c = ap is_some (c.found.ensures ∙ ap found_of (rw (← c.self.view_is) at c.requires.place) ∙ place_found c.self.inside c.args.pid (page_number c.args.address)) ∙ found_mapped c.self.inside c.args.pid (page_number c.args.address) c.self.invariant c.requires.user ∙ (rw (← c.self.view_is) at c.requires.mapped)

pub number_at-value-requires-clause-frame : goal.number_at-value-requires-clause-frame
number_at-value-requires-clause-frame c = (found_lies c.self.inside c.args.pid (page_number c.args.address) c.unwrap-found.result c.self.invariant c.requires.user (sym (place_found c.self.inside c.args.pid (page_number c.args.address)) ∙ ap found_of (sym (rw (← c.self.view_is) at c.requires.place)) ∙ sym c.found.ensures ∙ c.unwrap-found.ensures)).frame

pub set_flags-requires : goal.set_flags-requires
set_flags-requires c = record { lies = found_lies c.self.inside c.args.pid (page_number c.args.address) c.unwrap-found.result c.self.invariant c.requires.user (sym (place_found c.self.inside c.args.pid (page_number c.args.address)) ∙ ap found_of (sym (rw (← c.self.view_is) at c.requires.place)) ∙ sym c.found.ensures ∙ c.unwrap-found.ensures) }

pub returns-clause-value : goal.returns-clause-value
returns-clause-value c =
    rw (← c.self.view_is)
    ((rw c.offset_of.ensures.value at c.number_at-value.ensures)
    ∙ sym (ap (λ (x : Cell). value_of (bytes_at x.bytes (offset_number c.args.address) (byte_count c.args.size))) (found_cell c.self.inside c.args.pid (page_number c.args.address) c.unwrap-found.result c.self.invariant c.requires.user (sym (place_found c.self.inside c.args.pid (page_number c.args.address)) ∙ ap found_of (sym (rw (← c.self.view_is) at c.requires.place)) ∙ sym c.found.ensures ∙ c.unwrap-found.ensures)))
    ∙ sym (number_in_page (spaces_at c.self.inside) c.args.pid c.args.address c.args.size c.requires.within))

pub returns-clause-spaces : goal.returns-clause-spaces
returns-clause-spaces c = rw (← c.self.view_is) (found_loaded c.self.inside c.args.pid (page_number c.args.address) c.unwrap-found.result c.self.invariant c.requires.user (sym (place_found c.self.inside c.args.pid (page_number c.args.address)) ∙ ap found_of (sym (rw (← c.self.view_is) at c.requires.place)) ∙ sym c.found.ensures ∙ c.unwrap-found.ensures) c.set_flags.new.memory c.set_flags.ensures.entry c.set_flags.ensures.length).spaces

pub invariant_of-self : goal.invariant_of-self
invariant_of-self c = (found_loaded c.self.inside c.args.pid (page_number c.args.address) c.unwrap-found.result c.self.invariant c.requires.user (sym (place_found c.self.inside c.args.pid (page_number c.args.address)) ∙ ap found_of (sym (rw (← c.self.view_is) at c.requires.place)) ∙ sym c.found.ensures ∙ c.unwrap-found.ensures) c.set_flags.new.memory c.set_flags.ensures.entry c.set_flags.ensures.length).kept

pub returns-clause-stay : goal.returns-clause-stay
returns-clause-stay c = rw (← c.self.view_is) (found_loaded c.self.inside c.args.pid (page_number c.args.address) c.unwrap-found.result c.self.invariant c.requires.user (sym (place_found c.self.inside c.args.pid (page_number c.args.address)) ∙ ap found_of (sym (rw (← c.self.view_is) at c.requires.place)) ∙ sym c.found.ensures ∙ c.unwrap-found.ensures) c.set_flags.new.memory c.set_flags.ensures.entry c.set_flags.ensures.length).stay

pub returns-clause-beside : goal.returns-clause-beside
returns-clause-beside c = rw (← c.self.view_is) (loaded_beside c.self.inside c.args.pid (page_number c.args.address) c.unwrap-found.result c.self.invariant c.requires.user (sym (place_found c.self.inside c.args.pid (page_number c.args.address)) ∙ ap found_of (sym (rw (← c.self.view_is) at c.requires.place)) ∙ sym c.found.ensures ∙ c.unwrap-found.ensures) c.set_flags.new.memory c.set_flags.ensures.entry)
