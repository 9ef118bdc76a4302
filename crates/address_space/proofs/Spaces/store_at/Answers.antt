use Rattle.address_space.proofs.Prelude.{◌+◌, ◌≤◌, ap, sym, subst, ◌∙◌, is_some, page_number, offset_number, byte_count, bytes_of, stays, found_of}
use Rattle.address_space.proofs.Lemmas.{length-bytes, found_mapped, found_lies, found_real, found_stored, stored_beside, part_long, place_found}
use Rattle.address_space.proofs.Spaces.store_at.Goals as goal

pub unwrap-found-requires : goal.unwrap-found-requires
unwrap-found-requires c = ap is_some (c.found.ensures ∙ ap found_of (rw (← c.self.view_is) at c.requires.place) ∙ place_found c.self.inside c.args.pid (page_number c.args.address)) ∙ found_mapped c.self.inside c.args.pid (page_number c.args.address) c.self.invariant c.requires.user ∙ (rw (← c.self.view_is) at c.requires.mapped)

pub store-requires-clause-lies : goal.store-requires-clause-lies
store-requires-clause-lies c = found_lies c.self.inside c.args.pid (page_number c.args.address) c.unwrap-found.result c.self.invariant c.requires.user (sym (place_found c.self.inside c.args.pid (page_number c.args.address)) ∙ ap found_of (sym (rw (← c.self.view_is) at c.requires.place)) ∙ sym c.found.ensures ∙ c.unwrap-found.ensures)

pub returns-clause-spaces : goal.returns-clause-spaces
returns-clause-spaces c = rw (← c.self.view_is) (found_stored c.self.inside c.args.pid (page_number c.args.address) c.unwrap-found.result c.self.invariant c.requires.user (sym (place_found c.self.inside c.args.pid (page_number c.args.address)) ∙ ap found_of (sym (rw (← c.self.view_is) at c.requires.place)) ∙ sym c.found.ensures ∙ c.unwrap-found.ensures) c.store.new.memory (offset_number c.args.address) c.args.size c.args.value (sym (found_real c.self.inside c.args.pid (page_number c.args.address) c.unwrap-found.result c.self.invariant c.requires.user (sym (place_found c.self.inside c.args.pid (page_number c.args.address)) ∙ ap found_of (sym (rw (← c.self.view_is) at c.requires.place)) ∙ sym c.found.ensures ∙ c.unwrap-found.ensures)) ∙ (rw (← c.self.view_is) at c.requires.real)) (stays c.args.address c.args.size c.requires.within) (rw c.offset_of.ensures.value at c.store.ensures)).spaces

pub invariant_of-self : goal.invariant_of-self
invariant_of-self c = (found_stored c.self.inside c.args.pid (page_number c.args.address) c.unwrap-found.result c.self.invariant c.requires.user (sym (place_found c.self.inside c.args.pid (page_number c.args.address)) ∙ ap found_of (sym (rw (← c.self.view_is) at c.requires.place)) ∙ sym c.found.ensures ∙ c.unwrap-found.ensures) c.store.new.memory (offset_number c.args.address) c.args.size c.args.value (sym (found_real c.self.inside c.args.pid (page_number c.args.address) c.unwrap-found.result c.self.invariant c.requires.user (sym (place_found c.self.inside c.args.pid (page_number c.args.address)) ∙ ap found_of (sym (rw (← c.self.view_is) at c.requires.place)) ∙ sym c.found.ensures ∙ c.unwrap-found.ensures)) ∙ (rw (← c.self.view_is) at c.requires.real)) (stays c.args.address c.args.size c.requires.within) (rw c.offset_of.ensures.value at c.store.ensures)).kept

pub returns-clause-lazy : goal.returns-clause-lazy
returns-clause-lazy c = rw (← c.self.view_is) (found_stored c.self.inside c.args.pid (page_number c.args.address) c.unwrap-found.result c.self.invariant c.requires.user (sym (place_found c.self.inside c.args.pid (page_number c.args.address)) ∙ ap found_of (sym (rw (← c.self.view_is) at c.requires.place)) ∙ sym c.found.ensures ∙ c.unwrap-found.ensures) c.store.new.memory (offset_number c.args.address) c.args.size c.args.value (sym (found_real c.self.inside c.args.pid (page_number c.args.address) c.unwrap-found.result c.self.invariant c.requires.user (sym (place_found c.self.inside c.args.pid (page_number c.args.address)) ∙ ap found_of (sym (rw (← c.self.view_is) at c.requires.place)) ∙ sym c.found.ensures ∙ c.unwrap-found.ensures)) ∙ (rw (← c.self.view_is) at c.requires.real)) (stays c.args.address c.args.size c.requires.within) (rw c.offset_of.ensures.value at c.store.ensures)).lazy

pub returns-clause-stay : goal.returns-clause-stay
returns-clause-stay c = rw (← c.self.view_is) (found_stored c.self.inside c.args.pid (page_number c.args.address) c.unwrap-found.result c.self.invariant c.requires.user (sym (place_found c.self.inside c.args.pid (page_number c.args.address)) ∙ ap found_of (sym (rw (← c.self.view_is) at c.requires.place)) ∙ sym c.found.ensures ∙ c.unwrap-found.ensures) c.store.new.memory (offset_number c.args.address) c.args.size c.args.value (sym (found_real c.self.inside c.args.pid (page_number c.args.address) c.unwrap-found.result c.self.invariant c.requires.user (sym (place_found c.self.inside c.args.pid (page_number c.args.address)) ∙ ap found_of (sym (rw (← c.self.view_is) at c.requires.place)) ∙ sym c.found.ensures ∙ c.unwrap-found.ensures)) ∙ (rw (← c.self.view_is) at c.requires.real)) (stays c.args.address c.args.size c.requires.within) (rw c.offset_of.ensures.value at c.store.ensures)).stay

pub returns-clause-beside : goal.returns-clause-beside
returns-clause-beside c = rw (← c.self.view_is)
    (stored_beside c.self.inside c.args.pid (page_number c.args.address) c.unwrap-found.result c.self.invariant c.requires.user (sym (place_found c.self.inside c.args.pid (page_number c.args.address)) ∙ ap found_of (sym (rw (← c.self.view_is) at c.requires.place)) ∙ sym c.found.ensures ∙ c.unwrap-found.ensures) c.store.new.memory (offset_number c.args.address) (bytes_of (byte_count c.args.size) c.args.value) (sym (found_real c.self.inside c.args.pid (page_number c.args.address) c.unwrap-found.result c.self.invariant c.requires.user (sym (place_found c.self.inside c.args.pid (page_number c.args.address)) ∙ ap found_of (sym (rw (← c.self.view_is) at c.requires.place)) ∙ sym c.found.ensures ∙ c.unwrap-found.ensures)) ∙ (rw (← c.self.view_is) at c.requires.real)) (part_long c.self.inside c.args.pid (page_number c.args.address) c.unwrap-found.result c.self.invariant c.requires.user (sym (place_found c.self.inside c.args.pid (page_number c.args.address)) ∙ ap found_of (sym (rw (← c.self.view_is) at c.requires.place)) ∙ sym c.found.ensures ∙ c.unwrap-found.ensures) (offset_number c.args.address) (bytes_of (byte_count c.args.size) c.args.value) (subst (λ n. offset_number c.args.address + n ≤ 4096) (sym (length-bytes (byte_count c.args.size) c.args.value)) (stays c.args.address c.args.size c.requires.within))) (rw c.offset_of.ensures.value at c.store.ensures))
