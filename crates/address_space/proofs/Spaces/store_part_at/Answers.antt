use Rattle.address_space.proofs.Prelude.{ap, sym, ◌∙◌, is_some, page_number, offset_number, Spaces, slot_at, cell_or_fresh, found_of}
use Rattle.address_space.proofs.Lemmas.{spaces_at, kept, key-stored, found_mapped, found_lies, found_real, found_part, stored_beside, part_long, place_found}
use Rattle.page_words.specs.FiniteMap as map
use Rattle.address_space.proofs.Spaces.store_part_at.Goals as goal

pub unwrap-found-requires : goal.unwrap-found-requires
unwrap-found-requires c = ap is_some (c.found.ensures ∙ ap found_of (rw (← c.self.view_is) at c.requires.place) ∙ place_found c.self.inside c.args.pid (page_number c.args.address)) ∙ found_mapped c.self.inside c.args.pid (page_number c.args.address) c.self.invariant c.requires.user ∙ (rw (← c.self.view_is) at c.requires.mapped)

pub write_part-requires-clause-lies : goal.write_part-requires-clause-lies
write_part-requires-clause-lies c = found_lies c.self.inside c.args.pid (page_number c.args.address) c.unwrap-found.result c.self.invariant c.requires.user (sym (place_found c.self.inside c.args.pid (page_number c.args.address)) ∙ ap found_of (sym (rw (← c.self.view_is) at c.requires.place)) ∙ sym c.found.ensures ∙ c.unwrap-found.ensures)

pub returns-clause-spaces : goal.returns-clause-spaces
returns-clause-spaces c = rw (← c.self.view_is) (found_part c.self.inside c.args.pid (page_number c.args.address) c.unwrap-found.result c.self.invariant c.requires.user (sym (place_found c.self.inside c.args.pid (page_number c.args.address)) ∙ ap found_of (sym (rw (← c.self.view_is) at c.requires.place)) ∙ sym c.found.ensures ∙ c.unwrap-found.ensures) c.write_part.new.memory (offset_number c.args.address) c.args.part.now (sym (found_real c.self.inside c.args.pid (page_number c.args.address) c.unwrap-found.result c.self.invariant c.requires.user (sym (place_found c.self.inside c.args.pid (page_number c.args.address)) ∙ ap found_of (sym (rw (← c.self.view_is) at c.requires.place)) ∙ sym c.found.ensures ∙ c.unwrap-found.ensures)) ∙ (rw (← c.self.view_is) at c.requires.real)) c.requires.within (rw c.offset_of.ensures.value at c.write_part.ensures)).spaces

pub invariant_of-self : goal.invariant_of-self
invariant_of-self c = (found_part c.self.inside c.args.pid (page_number c.args.address) c.unwrap-found.result c.self.invariant c.requires.user (sym (place_found c.self.inside c.args.pid (page_number c.args.address)) ∙ ap found_of (sym (rw (← c.self.view_is) at c.requires.place)) ∙ sym c.found.ensures ∙ c.unwrap-found.ensures) c.write_part.new.memory (offset_number c.args.address) c.args.part.now (sym (found_real c.self.inside c.args.pid (page_number c.args.address) c.unwrap-found.result c.self.invariant c.requires.user (sym (place_found c.self.inside c.args.pid (page_number c.args.address)) ∙ ap found_of (sym (rw (← c.self.view_is) at c.requires.place)) ∙ sym c.found.ensures ∙ c.unwrap-found.ensures)) ∙ (rw (← c.self.view_is) at c.requires.real)) c.requires.within (rw c.offset_of.ensures.value at c.write_part.ensures)).kept

pub returns-clause-lazy : goal.returns-clause-lazy
returns-clause-lazy c = rw (← c.self.view_is) (found_part c.self.inside c.args.pid (page_number c.args.address) c.unwrap-found.result c.self.invariant c.requires.user (sym (place_found c.self.inside c.args.pid (page_number c.args.address)) ∙ ap found_of (sym (rw (← c.self.view_is) at c.requires.place)) ∙ sym c.found.ensures ∙ c.unwrap-found.ensures) c.write_part.new.memory (offset_number c.args.address) c.args.part.now (sym (found_real c.self.inside c.args.pid (page_number c.args.address) c.unwrap-found.result c.self.invariant c.requires.user (sym (place_found c.self.inside c.args.pid (page_number c.args.address)) ∙ ap found_of (sym (rw (← c.self.view_is) at c.requires.place)) ∙ sym c.found.ensures ∙ c.unwrap-found.ensures)) ∙ (rw (← c.self.view_is) at c.requires.real)) c.requires.within (rw c.offset_of.ensures.value at c.write_part.ensures)).lazy

pub returns-clause-stay : goal.returns-clause-stay
returns-clause-stay c = rw (← c.self.view_is) (found_part c.self.inside c.args.pid (page_number c.args.address) c.unwrap-found.result c.self.invariant c.requires.user (sym (place_found c.self.inside c.args.pid (page_number c.args.address)) ∙ ap found_of (sym (rw (← c.self.view_is) at c.requires.place)) ∙ sym c.found.ensures ∙ c.unwrap-found.ensures) c.write_part.new.memory (offset_number c.args.address) c.args.part.now (sym (found_real c.self.inside c.args.pid (page_number c.args.address) c.unwrap-found.result c.self.invariant c.requires.user (sym (place_found c.self.inside c.args.pid (page_number c.args.address)) ∙ ap found_of (sym (rw (← c.self.view_is) at c.requires.place)) ∙ sym c.found.ensures ∙ c.unwrap-found.ensures)) ∙ (rw (← c.self.view_is) at c.requires.real)) c.requires.within (rw c.offset_of.ensures.value at c.write_part.ensures)).stay

pub returns-clause-beside : goal.returns-clause-beside
returns-clause-beside c = rw (← c.self.view_is)
    (stored_beside c.self.inside c.args.pid (page_number c.args.address) c.unwrap-found.result c.self.invariant c.requires.user (sym (place_found c.self.inside c.args.pid (page_number c.args.address)) ∙ ap found_of (sym (rw (← c.self.view_is) at c.requires.place)) ∙ sym c.found.ensures ∙ c.unwrap-found.ensures) c.write_part.new.memory (offset_number c.args.address) c.args.part.now (sym (found_real c.self.inside c.args.pid (page_number c.args.address) c.unwrap-found.result c.self.invariant c.requires.user (sym (place_found c.self.inside c.args.pid (page_number c.args.address)) ∙ ap found_of (sym (rw (← c.self.view_is) at c.requires.place)) ∙ sym c.found.ensures ∙ c.unwrap-found.ensures)) ∙ (rw (← c.self.view_is) at c.requires.real)) (part_long c.self.inside c.args.pid (page_number c.args.address) c.unwrap-found.result c.self.invariant c.requires.user (sym (place_found c.self.inside c.args.pid (page_number c.args.address)) ∙ ap found_of (sym (rw (← c.self.view_is) at c.requires.place)) ∙ sym c.found.ensures ∙ c.unwrap-found.ensures) (offset_number c.args.address) c.args.part.now c.requires.within) (rw c.offset_of.ensures.value at c.write_part.ensures))

pub returns-clause-mapped : goal.returns-clause-mapped
returns-clause-mapped c = λ q.
    let slot = slot_at c.args.pid c.args.address in
    rw (← c.self.view_is) (ap (λ (T : Spaces). map.contains_key T q) (found_part c.self.inside c.args.pid (page_number c.args.address) c.unwrap-found.result c.self.invariant c.requires.user (sym (place_found c.self.inside c.args.pid (page_number c.args.address)) ∙ ap found_of (sym (rw (← c.self.view_is) at c.requires.place)) ∙ sym c.found.ensures ∙ c.unwrap-found.ensures) c.write_part.new.memory (offset_number c.args.address) c.args.part.now (sym (found_real c.self.inside c.args.pid (page_number c.args.address) c.unwrap-found.result c.self.invariant c.requires.user (sym (place_found c.self.inside c.args.pid (page_number c.args.address)) ∙ ap found_of (sym (rw (← c.self.view_is) at c.requires.place)) ∙ sym c.found.ensures ∙ c.unwrap-found.ensures)) ∙ (rw (← c.self.view_is) at c.requires.real)) c.requires.within (rw c.offset_of.ensures.value at c.write_part.ensures)).spaces
    ∙ key-stored (spaces_at c.self.inside) slot (offset_number c.args.address) c.args.part.now (cell_or_fresh (spaces_at c.self.inside) slot) q ∙ kept (spaces_at c.self.inside) slot (cell_or_fresh (spaces_at c.self.inside) slot) (rw (← c.self.view_is) at c.requires.mapped) q)
