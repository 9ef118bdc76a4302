use Rattle.fault_handler.proofs.Prelude.{if◌then◌else◌, no_value, at_page, cost, need, page_is_user, State, ◌≡◌, ◌+◌, refl, not, Some, None, is_ok, new_fits, map_refusal, BadPage, Mapped, Quota, ap}
use Rattle.process_table.proofs.Refusals.{map-charge}
use Rattle.fault_handler.proofs.Settled.{live_with_room}
use Rattle.page_words.specs.FiniteMap as map
use Rattle.fault_handler.proofs.map_new.Goals as goal

pub map_at-requires-clause-may : goal.map_at-requires-clause-may
map_at-requires-clause-may c =
    let s : State = c.args.processes.now.state in
    let p = c.args.pid in
    let page = c.args.page in
    let none = c.requires.unmapped in
    let fits = new_fits s p page (no_value (map.get s.spaces (at_page p page)) none) c.requires.room in
    let free : map_refusal s p page ≡ None = (λ i. if not (page_is_user page c.requires.user i) then Some BadPage else if none i then Some Mapped else if c.requires.room i then Some Quota else None) in
    ap is_ok (map-charge s p page (cost s.spaces p + need s.spaces p page) (live_with_room s p page fits) free refl)
