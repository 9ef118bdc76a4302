use Rattle.address_space.proofs.Prelude.{◌≡◌, ℕ, ◌+◌, ◌*◌, ◌≤◌, ap, sym, ◌∙◌, refl, arith, length, Option, Some, None, IfSome, option_and_then, slot_number, frame_bytes, table_of, place_by}
use Rattle.address_space.proofs.steps.Steps.{page_map_of}
use Rattle.address_space.proofs.Spaces.place.Goals as goal

pub table-table-requires-clause-map : goal.table-table-requires-clause-map
table-table-requires-clause-map c = page_map_of _ _ _ c.args.pid c.in-Some.directory c.self.invariant.spaces.sound (sym c.space_of.ensures ∙ c.in-Some.is)

pub place_behind-requires : goal.place_behind-requires
place_behind-requires c = by c.table-table.result refl
  where
    by : (x : Option ℕ) → c.table-table.result ≡ x → IfSome x (λ t. 4096 * t + 4096 ≤ length c.self.inside.memory)
    by None is = tt
    by (Some t) is =
        (page_map_of _ _ _ c.args.pid c.in-Some.directory c.self.invariant.spaces.sound (sym c.space_of.ensures ∙ c.in-Some.is)).tables_inside c.slot_of.result t
        (let s = c.slot_of.ensures in let h = c.requires.1 in omega (arith, s, h)) (sym c.table-table.ensures ∙ is)

pub returns : goal.returns
returns c =
    let m = frame_bytes c.self.inside.memory in
    let live = sym c.space_of.ensures ∙ c.in-Some.is in
    rw (← c.self.view_is)
    (c.place_behind.ensures ∙ ap (place_by m c.args.page) (c.table-table.ensures ∙ ap (table_of m c.in-Some.directory) c.slot_of.ensures
    ∙ sym (ap (option_and_then (λ d. table_of m d (slot_number c.args.page))) live)))
