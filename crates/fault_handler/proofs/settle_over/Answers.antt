use Rattle.fault_handler.proofs.Prelude.{arith, ◌≡◌, ◌∙◌, ap, sym, subst, Bool, true, false, Option, Some, IfSome, [], ◌∷◌, unwrap_or, option_map, page_number, EachTouched, crosses, at_page, with_page, cell_or_fresh, is_lazy_at, touched-there, State, is_mapped, overdrawn, memory_of, access_value, after_access, Read, Write, goes_on, step_at, stays_then, stays_most}
use Rattle.fault_handler.proofs.Filled.{fills_two}
use Rattle.fault_handler.proofs.Settled.{ready, first_room, second_room, first_mapped, second_mapped, mapped_beside, mapped_both, mapped_right, mapped_value, mapped_after}
use Rattle.fault_handler.proofs.settle_over.Goals as goal

pub map_of_two-one-requires-clause-how : goal.map_of_two-one-requires-clause-how
map_of_two-one-requires-clause-how c =
    ap (λ n. is_mapped c.args.processes.now.state (at_page c.args.pid n)) c.page_of-page.ensures.value
    ∙ first_mapped c.args.processes.now c.args.pid c.args.address c.args.size c.args.access c.args.first (Some c.args.second) c.requires.plan

pub map_of_two-one-requires-clause-room : goal.map_of_two-one-requires-clause-room
map_of_two-one-requires-clause-room c = grind (arith, ready, first_room, c.requires.plan, c.page_of-page.ensures.value)

pub map_of_two-two-requires-clause-how : goal.map_of_two-two-requires-clause-how
map_of_two-two-requires-clause-how c =
    let s : State = c.args.processes.now.state in
    let p = c.args.pid in
    let there = c.requires.behind in
    let next = (crosses c.args.address c.args.size c.args.behind there).next in
    ap (λ (t : State). is_mapped t (at_page p c.args.behind))
    (c.map_of_two-one.ensures.state ∙ ap (λ n. record s { spaces = with_page s.spaces p n }) c.page_of-page.ensures.value)
    ∙ mapped_beside s.spaces p (page_number c.args.address) c.args.behind (λ e. omega (arith, e, next))
    ∙ ap (λ (x : Option Bool). unwrap_or x true)
    (ap (option_map (λ page. is_mapped s (at_page p page))) (sym there) ∙ second_mapped c.args.processes.now p c.args.address c.args.size c.args.access c.args.first (Some c.args.second) c.requires.plan)

pub map_of_two-two-requires-clause-room : goal.map_of_two-two-requires-clause-room
map_of_two-two-requires-clause-room c =
    let s : State = c.args.processes.now.state in
    let p = c.args.pid in
    let goes = ready (step_at c.args.processes.now p c.args.access) s p c.args.address c.args.size c.args.access (sym (ap goes_on c.requires.plan)) in
    subst (λ (t : State). overdrawn t p (c.args.behind ∷ []) ≡ false)
    (sym (c.map_of_two-one.ensures.state ∙ ap (λ n. record s { spaces = with_page s.spaces p n }) c.page_of-page.ensures.value))
    (second_room s p c.args.address c.args.size c.args.behind c.requires.behind goes.room)

pub access_at-requires-clause-mapped : goal.access_at-requires-clause-mapped
access_at-requires-clause-mapped c =
    subst (λ (t : State). EachTouched c.args.address c.args.size (λ page. is_mapped t (at_page c.args.pid page) ≡ true))
    (sym (mapped_both c.args.processes.now.state c.args.pid c.args.address c.args.size c.page_of-page.ensures.value c.requires.behind c.map_of_two-one.ensures.state c.map_of_two-two.ensures.state))
    (touched-there c.args.processes.now.state.spaces c.args.pid c.args.address c.args.size)

pub fill_at-one-requires-clause-mapped : goal.fill_at-one-requires-clause-mapped
fill_at-one-requires-clause-mapped c = grind (arith, touched-there, mapped_both, c.page_of-page.ensures.value, c.requires.behind, c.map_of_two-one.ensures.state, c.map_of_two-two.ensures.state)

pub fill_at-two-requires-clause-mapped : goal.fill_at-two-requires-clause-mapped
fill_at-two-requires-clause-mapped c =
    subst (λ x. IfSome x (λ page. is_mapped c.fill_at-one.new.self.state (at_page c.args.pid page) ≡ true)) c.requires.behind
    (subst (λ (t : State). EachTouched c.args.address c.args.size (λ page. is_mapped t (at_page c.args.pid page) ≡ true))
    (sym (c.fill_at-one.ensures.state ∙ mapped_both c.args.processes.now.state c.args.pid c.args.address c.args.size c.page_of-page.ensures.value c.requires.behind c.map_of_two-one.ensures.state c.map_of_two-two.ensures.state))
    (touched-there c.args.processes.now.state.spaces c.args.pid c.args.address c.args.size)).1

pub access_at-requires-in-Write-clause-mapped : goal.access_at-requires-in-Write-clause-mapped
access_at-requires-in-Write-clause-mapped c =
    subst (λ (t : State). EachTouched c.args.address c.args.size (λ page. is_mapped t (at_page c.args.pid page) ≡ true))
    (sym (c.fill_at-two.ensures.state ∙ c.fill_at-one.ensures.state ∙ mapped_both c.args.processes.now.state c.args.pid c.args.address c.args.size c.page_of-page.ensures.value c.requires.behind c.map_of_two-one.ensures.state c.map_of_two-two.ensures.state))
    (touched-there c.args.processes.now.state.spaces c.args.pid c.args.address c.args.size)

pub access_at-requires-in-Write-clause-right : goal.access_at-requires-in-Write-clause-right
access_at-requires-in-Write-clause-right c =
    let s : State = c.args.processes.now.state in
    let p = c.args.pid in
    let goes = ready (step_at c.args.processes.now p c.args.access) s p c.args.address c.args.size c.args.access (sym (ap goes_on c.requires.plan)) in
    λ write. subst (λ (t : State). EachTouched c.args.address c.args.size (λ page. (cell_or_fresh t.spaces (at_page p page)).write ≡ true))
    (sym (c.fill_at-two.ensures.state ∙ c.fill_at-one.ensures.state ∙ mapped_both c.args.processes.now.state c.args.pid c.args.address c.args.size c.page_of-page.ensures.value c.requires.behind c.map_of_two-one.ensures.state c.map_of_two-two.ensures.state))
    (mapped_right s p c.args.address c.args.size c.args.access goes.allowed c.in-Write.is)

pub access_at-requires-in-Write-clause-real : goal.access_at-requires-in-Write-clause-real
access_at-requires-in-Write-clause-real c = λ write. (
  c.fill_at-two.ensures.others (at_page c.args.pid (page_number c.args.address)) (subst (λ n. is_lazy_at (memory_of c.fill_at-one.new.self) (at_page c.args.pid n) ≡ false) c.page_of-page.ensures.value c.fill_at-one.ensures.real),
  subst (λ x. IfSome x (λ page. is_lazy_at (memory_of c.fill_at-two.new.self) (at_page c.args.pid page) ≡ false)) (sym c.requires.behind) c.fill_at-two.ensures.real,
)

pub returns-in-Read-clause-value : goal.returns-in-Read-clause-value
returns-in-Read-clause-value c =
    c.access_at.ensures.value ∙ ap (λ (t : State). access_value t c.args.pid c.args.address c.args.size Read) (mapped_both c.args.processes.now.state c.args.pid c.args.address c.args.size c.page_of-page.ensures.value c.requires.behind c.map_of_two-one.ensures.state c.map_of_two-two.ensures.state)
    ∙ mapped_value c.args.processes.now.state c.args.pid c.args.address c.args.size Read ∙ ap (access_value c.args.processes.now.state c.args.pid c.args.address c.args.size) (sym c.in-Read.is)

pub returns-in-Read-clause-state : goal.returns-in-Read-clause-state
returns-in-Read-clause-state c =
    c.access_at.ensures.state ∙ ap (λ (t : State). after_access t c.args.pid c.args.address c.args.size Read c.args.value) (mapped_both c.args.processes.now.state c.args.pid c.args.address c.args.size c.page_of-page.ensures.value c.requires.behind c.map_of_two-one.ensures.state c.map_of_two-two.ensures.state)
    ∙ mapped_after c.args.processes.now.state c.args.pid c.args.address c.args.size Read c.args.value
    ∙ ap (λ a. after_access c.args.processes.now.state c.args.pid c.args.address c.args.size a c.args.value) (sym c.in-Read.is)

pub returns-in-Read-clause-stay : goal.returns-in-Read-clause-stay
returns-in-Read-clause-stay c =
    stays_most (stays_then c.map_of_two-one.ensures.stay (stays_then c.map_of_two-two.ensures.stay c.access_at.ensures.stay))

pub returns-in-Write-clause-state : goal.returns-in-Write-clause-state
returns-in-Write-clause-state c =
    c.access_at-in-Write.ensures.state
    ∙ ap (λ (t : State). after_access t c.args.pid c.args.address c.args.size Write c.args.value) (c.fill_at-two.ensures.state ∙ c.fill_at-one.ensures.state ∙ mapped_both c.args.processes.now.state c.args.pid c.args.address c.args.size c.page_of-page.ensures.value c.requires.behind c.map_of_two-one.ensures.state c.map_of_two-two.ensures.state)
    ∙ mapped_after c.args.processes.now.state c.args.pid c.args.address c.args.size Write c.args.value
    ∙ ap (λ a. after_access c.args.processes.now.state c.args.pid c.args.address c.args.size a c.args.value) (sym c.in-Write.is)

pub returns-in-Write-clause-stay : goal.returns-in-Write-clause-stay
returns-in-Write-clause-stay c = rw c.in-Write.is
    (stays_then (stays_most (stays_then c.map_of_two-one.ensures.stay c.map_of_two-two.ensures.stay))
    (stays_then
    (fills_two c.args.pid c.args.address c.args.size c.page_of-page.result c.args.behind (memory_of c.map_of_two-two.new.processes) (memory_of c.fill_at-one.new.self) (memory_of c.fill_at-two.new.self) c.page_of-page.ensures.value c.requires.behind c.fill_at-one.ensures.stay c.fill_at-two.ensures.stay)
    (stays_most c.access_at-in-Write.ensures.stay)))

pub map_of_two-one-requires-clause-apart : goal.map_of_two-one-requires-clause-apart
map_of_two-one-requires-clause-apart c =
    let next = (crosses c.args.address c.args.size c.args.behind c.requires.behind).next in
    λ e. omega (arith, e, next, c.page_of-page.ensures.value)

pub map_of_two-two-requires-clause-apart : goal.map_of_two-two-requires-clause-apart
map_of_two-two-requires-clause-apart c =
    let next = (crosses c.args.address c.args.size c.args.behind c.requires.behind).next in
    λ e. omega (arith, e, next, c.page_of-page.ensures.value)
