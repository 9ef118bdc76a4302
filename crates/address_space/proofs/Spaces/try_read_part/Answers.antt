use Rattle.address_space.proofs.Prelude.{ℕ, List, ap, sym, ◌∙◌, length, take, drop, arith, is_some, page_number, offset_number, cell_or_fresh, slot_at, found_of}
use Rattle.address_space.proofs.Lemmas.{spaces_at, bytes_by_places, part_in_page, found_mapped, found_there, found_lies, found_bytes, found_long, found_loaded, place_found}
use Rattle.address_space.proofs.Spaces.try_read_part.Goals as goal

pub returns-in_default-clause-mapped : goal.returns-in_default-clause-mapped
returns-in_default-clause-mapped c =
    rw (← c.self.view_is)
    (ap is_some (sym (sym (place_found c.self.inside c.args.pid (page_number c.args.address)) ∙ ap found_of (sym (rw (← c.self.view_is, c.page_of.ensures.value) at c.place-place.ensures)) ∙ sym c.found.ensures ∙ c.in_default.is)) ∙ found_mapped c.self.inside c.args.pid (page_number c.args.address) c.self.invariant c.requires.user)

pub copy_part-requires-clause-frame : goal.copy_part-requires-clause-frame
copy_part-requires-clause-frame c = (found_lies c.self.inside c.args.pid (page_number c.args.address) c.in-Some.found c.self.invariant c.requires.user (sym (place_found c.self.inside c.args.pid (page_number c.args.address)) ∙ ap found_of (sym (rw (← c.self.view_is, c.page_of.ensures.value) at c.place-place.ensures)) ∙ sym c.found.ensures ∙ c.in-Some.is)).frame

pub set_flags-requires : goal.set_flags-requires
set_flags-requires c = record { lies = found_lies c.self.inside c.args.pid (page_number c.args.address) c.in-Some.found c.self.invariant c.requires.user (sym (place_found c.self.inside c.args.pid (page_number c.args.address)) ∙ ap found_of (sym (rw (← c.self.view_is, c.page_of.ensures.value) at c.place-place.ensures)) ∙ sym c.found.ensures ∙ c.in-Some.is) }

pub returns-clause-mapped : goal.returns-clause-mapped
returns-clause-mapped c = rw (← c.self.view_is) (sym (found_there c.self.inside c.args.pid (page_number c.args.address) c.in-Some.found c.self.invariant c.requires.user (sym (place_found c.self.inside c.args.pid (page_number c.args.address)) ∙ ap found_of (sym (rw (← c.self.view_is, c.page_of.ensures.value) at c.place-place.ensures)) ∙ sym c.found.ensures ∙ c.in-Some.is)))

pub returns-clause-bytes : goal.returns-clause-bytes
returns-clause-bytes c =
    rw (← c.self.view_is)
    (let at = offset_number c.args.address in
    let n = length c.args.out.now in
    let bytes = found_bytes c.self.inside c.args.pid (page_number c.args.address) c.in-Some.found c.self.invariant c.requires.user (sym (place_found c.self.inside c.args.pid (page_number c.args.address)) ∙ ap found_of (sym (rw (← c.self.view_is, c.page_of.ensures.value) at c.place-place.ensures)) ∙ sym c.found.ensures ∙ c.in-Some.is) in
    let long = found_long c.self.inside c.args.pid (page_number c.args.address) c.in-Some.found c.self.invariant c.requires.user (sym (place_found c.self.inside c.args.pid (page_number c.args.address)) ∙ ap found_of (sym (rw (← c.self.view_is, c.page_of.ensures.value) at c.place-place.ensures)) ∙ sym c.found.ensures ∙ c.in-Some.is) in
    let inside = c.requires.within in
    λ _. (rw c.offset_of.ensures.value at c.copy_part.ensures) ∙ sym (ap (λ (bs : List ℕ). take n (drop at bs)) bytes)
    ∙ sym (bytes_by_places (cell_or_fresh (spaces_at c.self.inside) (slot_at c.args.pid c.args.address)).bytes at n (omega (arith, long, inside)))
    ∙ sym (part_in_page (spaces_at c.self.inside) c.args.pid c.args.address n c.requires.within))

pub returns-clause-spaces : goal.returns-clause-spaces
returns-clause-spaces c = rw (← c.self.view_is) (λ _. (found_loaded c.self.inside c.args.pid (page_number c.args.address) c.in-Some.found c.self.invariant c.requires.user (sym (place_found c.self.inside c.args.pid (page_number c.args.address)) ∙ ap found_of (sym (rw (← c.self.view_is, c.page_of.ensures.value) at c.place-place.ensures)) ∙ sym c.found.ensures ∙ c.in-Some.is) c.set_flags.new.memory c.set_flags.ensures.entry c.set_flags.ensures.length).spaces)

pub invariant_of-self : goal.invariant_of-self
invariant_of-self c = (found_loaded c.self.inside c.args.pid (page_number c.args.address) c.in-Some.found c.self.invariant c.requires.user (sym (place_found c.self.inside c.args.pid (page_number c.args.address)) ∙ ap found_of (sym (rw (← c.self.view_is, c.page_of.ensures.value) at c.place-place.ensures)) ∙ sym c.found.ensures ∙ c.in-Some.is) c.set_flags.new.memory c.set_flags.ensures.entry c.set_flags.ensures.length).kept

pub returns-clause-stay : goal.returns-clause-stay
returns-clause-stay c = rw (← c.self.view_is) ((found_loaded c.self.inside c.args.pid (page_number c.args.address) c.in-Some.found c.self.invariant c.requires.user (sym (place_found c.self.inside c.args.pid (page_number c.args.address)) ∙ ap found_of (sym (rw (← c.self.view_is, c.page_of.ensures.value) at c.place-place.ensures)) ∙ sym c.found.ensures ∙ c.in-Some.is) c.set_flags.new.memory c.set_flags.ensures.entry c.set_flags.ensures.length).stay)
