use Rattle.kernel_calls.proofs.Prelude.{ap, sym, ◌∙◌, arith, option_map, page_number, second_page, Read, goes_on, step_at, ready, all_user, place_in, Places, has_place, place_known, placed_second}
use Rattle.kernel_calls.proofs.decisions.value_by.Goals as goal

pub unwrap-place-requires : goal.unwrap-place-requires
unwrap-place-requires c = grind (arith, has_place, all_user, ready, c.requires.places, c.requires.plan, c.in-Ready.is)

pub peek_at-requires-clause-user : goal.peek_at-requires-clause-user
peek_at-requires-clause-user c = grind (arith, all_user, ready, c.requires.plan, c.in-Ready.is)

pub peek_at-requires-clause-first : goal.peek_at-requires-clause-first
peek_at-requires-clause-first c =
    let v = c.args.processes.now in
    (place_known v c.args.pid (page_number c.args.address) c.unwrap-place.result (sym (ap (λ (x : Places). x.first) c.requires.places) ∙ c.unwrap-place.ensures)).1
    ∙ (λ i. place_in (sym c.spaces-spaces.ensures.directories i) (sym c.spaces-spaces.ensures.bytes i) c.args.pid (page_number c.args.address))

pub peek_at-requires-clause-second : goal.peek_at-requires-clause-second
peek_at-requires-clause-second c =
    let v = c.args.processes.now in
    let user = all_user c.args.address c.args.size (ready (step_at v c.args.pid Read) v.state c.args.pid c.args.address c.args.size Read (sym (ap goes_on c.requires.plan) ∙ ap goes_on c.in-Ready.is)).outside in
    ap (λ (x : Places). x.second) c.requires.places ∙ placed_second v c.args.pid (second_page c.args.address c.args.size) user.1
    ∙ (λ i. option_map (place_in (sym c.spaces-spaces.ensures.directories i) (sym c.spaces-spaces.ensures.bytes i) c.args.pid) (second_page c.args.address c.args.size))
