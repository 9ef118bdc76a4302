use Rattle.address_space.proofs.Prelude.{arith, ap, sym, ◌∙◌, is_some, found_of}
use Rattle.address_space.proofs.Lemmas.{found_known, found_mapped, place_found}
use Rattle.address_space.proofs.Spaces.unmap_at.Goals as goal

pub unwrap-found-requires : goal.unwrap-found-requires
unwrap-found-requires c =
    ap is_some (c.found.ensures ∙ ap found_of (rw (← c.self.view_is) at c.requires.place) ∙ place_found c.self.inside c.args.pid c.args.page)
    ∙ found_mapped c.self.inside c.args.pid c.args.page c.self.invariant c.requires.user ∙ (rw (← c.self.view_is) at c.requires.mapped)

pub home-directory-requires : goal.home-directory-requires
home-directory-requires c =
    ap is_some (found_known c.self.inside c.args.pid c.args.page c.unwrap-found.result c.self.invariant c.requires.user (sym (place_found c.self.inside c.args.pid c.args.page) ∙ ap found_of (sym (rw (← c.self.view_is) at c.requires.place)) ∙ sym c.found.ensures ∙ c.unwrap-found.ensures)).live

pub unmap_found-requires-clause-found : goal.unmap_found-requires-clause-found
unmap_found-requires-clause-found c =
    grind (arith, place_found, c.requires.place, c.found.ensures, c.unwrap-found.ensures)
