use Rattle.address_space.proofs.Prelude.{ap, sym, ◌∙◌, option_map, found_of, shown}
use Rattle.address_space.proofs.Lemmas.{absent_cell, found_below, found_shown, place_found}
use Rattle.address_space.proofs.Spaces.cell_at.Goals as goal

pub cell_of-requires : goal.cell_of-requires
cell_of-requires c =
    record {
      real = found_below c.self.inside c.args.pid c.args.page c.in_ok-found.found c.self.invariant c.requires.user (sym (place_found c.self.inside c.args.pid c.args.page) ∙ ap found_of (sym (rw (← c.self.view_is) at c.requires.place)) ∙ sym c.found.ensures ∙ c.in_ok-found.was);
    }

pub returns : goal.returns
returns c =
    rw (← c.self.view_is)
    (found_shown c.self.inside c.args.pid c.args.page c.in_ok-found.found c.self.invariant c.requires.user (sym (place_found c.self.inside c.args.pid c.args.page) ∙ ap found_of (sym (rw (← c.self.view_is) at c.requires.place)) ∙ sym c.found.ensures ∙ c.in_ok-found.was)
    c.cell_of.result c.cell_of.ensures.flags c.cell_of.ensures.lazy c.cell_of.ensures.page)

pub returns-in_err-found : goal.returns-in_err-found
returns-in_err-found c =
    c.from_residual.ensures ∙ rw (← c.self.view_is)
    (sym (ap (option_map shown) (absent_cell c.self.inside c.args.pid c.args.page c.self.invariant c.requires.user (sym (place_found c.self.inside c.args.pid c.args.page) ∙ ap found_of (sym (rw (← c.self.view_is) at c.requires.place)) ∙ sym c.found.ensures ∙ c.in_err-found.was))))
