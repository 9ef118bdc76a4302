use Rattle.address_space.proofs.Prelude.{ap, sym, ◌∙◌, is_some, found_of, without, is_slot, cost, ◌+◌, ◌≡◌, Some}
use Rattle.address_space.proofs.Lemmas.{found_at, spaces_at, found_known, found_mapped, place_found}
use Rattle.address_space.proofs.steps.GonePages.{home_count, home_relief}
use Rattle.address_space.proofs.Spaces.relief_at.Goals as goal

pub unwrap-found-requires : goal.unwrap-found-requires
unwrap-found-requires c =
    ap is_some (c.found.ensures ∙ ap found_of (rw (← c.self.view_is) at c.requires.place) ∙ place_found c.self.inside c.args.pid c.args.page)
    ∙ found_mapped c.self.inside c.args.pid c.args.page c.self.invariant c.requires.user ∙ (rw (← c.self.view_is) at c.requires.mapped)

pub count_at-requires : goal.count_at-requires
count_at-requires c =
    let found : found_at c.self.inside c.args.pid c.args.page ≡ Some c.unwrap-found.result = sym (place_found c.self.inside c.args.pid c.args.page) ∙ ap found_of (sym (rw (← c.self.view_is) at c.requires.place)) ∙ sym c.found.ensures ∙ c.unwrap-found.ensures in
    let known = found_known c.self.inside c.args.pid c.args.page c.unwrap-found.result c.self.invariant c.requires.user found in
    home_count c.self.inside c.args.pid known.directory c.args.page c.unwrap-found.result c.self.invariant c.requires.user found known.live

pub returns : goal.returns
returns c =
    rw (← c.self.view_is)
    (let found : found_at c.self.inside c.args.pid c.args.page ≡ Some c.unwrap-found.result = sym (place_found c.self.inside c.args.pid c.args.page) ∙ ap found_of (sym (rw (← c.self.view_is) at c.requires.place)) ∙ sym c.found.ensures ∙ c.unwrap-found.ensures in
    let known = found_known c.self.inside c.args.pid c.args.page c.unwrap-found.result c.self.invariant c.requires.user found in
    ap (λ n. cost (without (spaces_at c.self.inside) (is_slot c.args.pid c.args.page)) c.args.pid + n) c.relief.ensures
    ∙ home_relief c.self.inside c.args.pid known.directory c.args.page c.unwrap-found.result c.self.invariant c.requires.user found known.live c.count_at.result c.count_at.ensures)
