use Rattle.address_space.proofs.Prelude.{not, ap, sym, ◌∙◌, ◌&&◌, page_number, image_of, is_lazy_at, slot_at, cell_or_fresh, and_parts, not-true, takes_place}
use Rattle.page_words.specs.FiniteMap as map
use Rattle.address_space.proofs.Spaces.try_write_part.Goals as goal

pub returns-then-not-takes_stores-clause-done : goal.returns-then-not-takes_stores-clause-done
returns-then-not-takes_stores-clause-done c = sym c.if-not-takes_stores.true ∙ c.takes_stores.ensures ∙ ap takes_place (rw c.page_of.ensures.value at c.place-place.ensures) ∙ c.stands.ensures.places.takes c.args.pid (page_number c.args.address) c.requires.user

pub returns-clause-done : goal.returns-clause-done
returns-clause-done c = sym c.if-not-takes_stores.false ∙ c.takes_stores.ensures ∙ ap takes_place (rw c.page_of.ensures.value at c.place-place.ensures) ∙ c.stands.ensures.places.takes c.args.pid (page_number c.args.address) c.requires.user

pub store_part_at-requires-clause-mapped : goal.store_part_at-requires-clause-mapped
store_part_at-requires-clause-mapped c =
    let S = c.args.self.now.spaces in
    let slot = slot_at c.args.pid c.args.address in
    (and_parts (map.contains_key S slot) ((cell_or_fresh S slot).write && not (is_lazy_at (image_of c.args.self.now) slot))
    (sym (c.takes_stores.ensures ∙ ap takes_place (rw c.page_of.ensures.value at c.place-place.ensures) ∙ c.stands.ensures.places.takes c.args.pid (page_number c.args.address) c.requires.user) ∙ c.if-not-takes_stores.false)).0

pub store_part_at-requires-clause-real : goal.store_part_at-requires-clause-real
store_part_at-requires-clause-real c =
    let S = c.args.self.now.spaces in
    let slot = slot_at c.args.pid c.args.address in
    let lazy = is_lazy_at (image_of c.args.self.now) slot in
    not-true lazy (and_parts (cell_or_fresh S slot).write (not lazy)
    (and_parts (map.contains_key S slot) ((cell_or_fresh S slot).write && not lazy)
    (sym (c.takes_stores.ensures ∙ ap takes_place (rw c.page_of.ensures.value at c.place-place.ensures) ∙ c.stands.ensures.places.takes c.args.pid (page_number c.args.address) c.requires.user) ∙ c.if-not-takes_stores.false)).1).1

pub store_part_at-requires-clause-place : goal.store_part_at-requires-clause-place
store_part_at-requires-clause-place c = rw c.page_of.ensures.value at c.place-place.ensures
