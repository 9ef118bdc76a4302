use Rattle.fault_handler.proofs.Prelude.{Ok, arith, le-ltb, lt-ltb, ◌≡◌, ◌∙◌, ap, sym, subst, Read, Write, State, is_mapped, access_value, after_access, [], ◌∷◌, true, false, overdrawn, at_page, slot_at, cell_or_fresh, need, page_number, touched, stays_then, stays_most, touched-there, Cell, is_live}
use Rattle.fault_handler.proofs.OnePage.{room_by, new_refused, new_done, new_right}
use Rattle.fault_handler.proofs.Settled.{mapped_alone, mapped_value, mapped_after, same_cells}
use Rattle.fault_handler.proofs.accesses.access_new.Goals as goal

pub returns-then-left_of-need-clause-result : goal.returns-then-left_of-need-clause-result
returns-then-left_of-need-clause-result c =
    let live : is_live c.args.processes.now.state c.args.pid ≡ true = grind (arith, c.container.ensures, c.in-Some.is) in
    sym (new_refused c.args.processes.now c.args.pid c.args.address c.args.size c.requires.user c.requires.within c.args.access live c.requires.unmapped
    (room_by c.args.processes.now.state c.args.pid (page_number c.args.address) c.in-Some.container c.left_of.result c.need.result (sym c.container.ensures ∙ c.in-Some.is) c.requires.unmapped c.left_of.ensures
    (c.need.ensures.value ∙ c.tells.ensures.need ∙ ap (need c.args.processes.now.state.spaces c.args.pid) c.page_of.ensures.value) ∙ lt-ltb c.left_of.result c.need.result c.if-left_of-need.true))

pub map_new-mapped-requires-clause-room : goal.map_new-mapped-requires-clause-room
map_new-mapped-requires-clause-room c =
    subst (λ page. overdrawn c.args.processes.now.state c.args.pid (page ∷ []) ≡ false) (sym c.page_of-2.ensures.value)
    (room_by c.args.processes.now.state c.args.pid (page_number c.args.address) c.in-Some.container c.left_of.result c.need.result (sym c.container.ensures ∙ c.in-Some.is) c.requires.unmapped c.left_of.ensures
    (c.need.ensures.value ∙ c.tells.ensures.need ∙ ap (need c.args.processes.now.state.spaces c.args.pid) c.page_of.ensures.value) ∙ le-ltb c.left_of.result c.need.result c.if-left_of-need.false)

pub load_at-requires-clause-mapped : goal.load_at-requires-clause-mapped
load_at-requires-clause-mapped c =
    subst (λ (t : State). is_mapped t (at_page c.args.pid (page_number c.args.address)) ≡ true) (sym (mapped_alone c.args.processes.now.state c.args.pid c.args.address c.args.size c.page_of-2.ensures.value c.requires.within c.map_new-mapped.ensures.state))
    (touched-there c.args.processes.now.state.spaces c.args.pid c.args.address c.args.size).0

pub store_filled-requires-clause-mapped : goal.store_filled-requires-clause-mapped
store_filled-requires-clause-mapped c =
    subst (λ (t : State). is_mapped t (at_page c.args.pid (page_number c.args.address)) ≡ true) (sym (mapped_alone c.args.processes.now.state c.args.pid c.args.address c.args.size c.page_of-2.ensures.value c.requires.within c.map_new-mapped.ensures.state))
    (touched-there c.args.processes.now.state.spaces c.args.pid c.args.address c.args.size).0

pub store_filled-requires-clause-right : goal.store_filled-requires-clause-right
store_filled-requires-clause-right c =
    let slot = slot_at c.args.pid c.args.address in
    ap (λ (t : State). (cell_or_fresh t.spaces slot).write) (mapped_alone c.args.processes.now.state c.args.pid c.args.address c.args.size c.page_of-2.ensures.value c.requires.within c.map_new-mapped.ensures.state)
    ∙ ap (λ (x : Cell). x.write) (same_cells c.args.processes.now.state.spaces c.args.pid (touched c.args.address c.args.size) slot)
    ∙ new_right c.args.processes.now.state.spaces slot c.requires.unmapped

pub returns-in-Read-clause-result : goal.returns-in-Read-clause-result
returns-in-Read-clause-result c =
    let live : is_live c.args.processes.now.state c.args.pid ≡ true = grind (arith, c.container.ensures, c.in-Some.is) in
    ap Ok (c.load_at.ensures.value ∙ ap (λ (t : State). access_value t c.args.pid c.args.address c.args.size Read) (mapped_alone c.args.processes.now.state c.args.pid c.args.address c.args.size c.page_of-2.ensures.value c.requires.within c.map_new-mapped.ensures.state)
    ∙ mapped_value c.args.processes.now.state c.args.pid c.args.address c.args.size Read ∙ ap (access_value c.args.processes.now.state c.args.pid c.args.address c.args.size) (sym c.in-Read.is))
    ∙ sym (new_done c.args.processes.now c.args.pid c.args.address c.args.size c.requires.user c.requires.within c.args.access live c.requires.unmapped
    (room_by c.args.processes.now.state c.args.pid (page_number c.args.address) c.in-Some.container c.left_of.result c.need.result (sym c.container.ensures ∙ c.in-Some.is) c.requires.unmapped c.left_of.ensures
    (c.need.ensures.value ∙ c.tells.ensures.need ∙ ap (need c.args.processes.now.state.spaces c.args.pid) c.page_of.ensures.value) ∙ le-ltb c.left_of.result c.need.result c.if-left_of-need.false))

pub returns-in-Read-clause-state : goal.returns-in-Read-clause-state
returns-in-Read-clause-state c = λ _.
    c.load_at.ensures.state ∙ ap (λ (t : State). after_access t c.args.pid c.args.address c.args.size Read c.args.value) (mapped_alone c.args.processes.now.state c.args.pid c.args.address c.args.size c.page_of-2.ensures.value c.requires.within c.map_new-mapped.ensures.state)
    ∙ mapped_after c.args.processes.now.state c.args.pid c.args.address c.args.size Read c.args.value ∙ ap (λ a. after_access c.args.processes.now.state c.args.pid c.args.address c.args.size a c.args.value) (sym c.in-Read.is)

pub returns-in-Read-clause-stay : goal.returns-in-Read-clause-stay
returns-in-Read-clause-stay c = stays_most (stays_then c.map_new-mapped.ensures.stay c.load_at.ensures.stay)

pub returns-in-Write-clause-result : goal.returns-in-Write-clause-result
returns-in-Write-clause-result c =
    let live : is_live c.args.processes.now.state c.args.pid ≡ true = grind (arith, c.container.ensures, c.in-Some.is) in
    ap Ok (ap (access_value c.args.processes.now.state c.args.pid c.args.address c.args.size) (sym c.in-Write.is))
    ∙ sym (new_done c.args.processes.now c.args.pid c.args.address c.args.size c.requires.user c.requires.within c.args.access live c.requires.unmapped
    (room_by c.args.processes.now.state c.args.pid (page_number c.args.address) c.in-Some.container c.left_of.result c.need.result (sym c.container.ensures ∙ c.in-Some.is) c.requires.unmapped c.left_of.ensures
    (c.need.ensures.value ∙ c.tells.ensures.need ∙ ap (need c.args.processes.now.state.spaces c.args.pid) c.page_of.ensures.value) ∙ le-ltb c.left_of.result c.need.result c.if-left_of-need.false))

pub returns-in-Write-clause-state : goal.returns-in-Write-clause-state
returns-in-Write-clause-state c = λ _.
    c.store_filled.ensures.state ∙ ap (λ (t : State). after_access t c.args.pid c.args.address c.args.size Write c.args.value) (mapped_alone c.args.processes.now.state c.args.pid c.args.address c.args.size c.page_of-2.ensures.value c.requires.within c.map_new-mapped.ensures.state)
    ∙ mapped_after c.args.processes.now.state c.args.pid c.args.address c.args.size Write c.args.value ∙ ap (λ a. after_access c.args.processes.now.state c.args.pid c.args.address c.args.size a c.args.value) (sym c.in-Write.is)

pub returns-in-Write-clause-stay : goal.returns-in-Write-clause-stay
returns-in-Write-clause-stay c = rw c.in-Write.is (stays_then (stays_most c.map_new-mapped.ensures.stay) c.store_filled.ensures.stay)
