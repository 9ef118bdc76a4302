use Rattle.address_space.proofs.Prelude.{ap, sym, ◌∙◌, is_some, found_of}
use Rattle.address_space.proofs.Lemmas.{found_lies, found_cleaned, found_mapped, place_found}
use Rattle.address_space.proofs.Spaces.clean_at.Goals as goal

pub unwrap-found-requires : goal.unwrap-found-requires
unwrap-found-requires c =
    ap is_some (c.found.ensures ∙ ap found_of (rw (← c.self.view_is) at c.requires.place) ∙ place_found c.self.inside c.args.pid c.args.page)
    ∙ found_mapped c.self.inside c.args.pid c.args.page c.self.invariant c.requires.user ∙ (rw (← c.self.view_is) at c.requires.mapped)

pub set_flags-requires : goal.set_flags-requires
set_flags-requires c =
    record { lies = found_lies c.self.inside c.args.pid c.args.page c.unwrap-found.result c.self.invariant c.requires.user (sym (place_found c.self.inside c.args.pid c.args.page) ∙ ap found_of (sym (rw (← c.self.view_is) at c.requires.place)) ∙ sym c.found.ensures ∙ c.unwrap-found.ensures) }

pub returns-clause-spaces : goal.returns-clause-spaces
returns-clause-spaces c =
    rw (← c.self.view_is)
    ((found_cleaned c.self.inside c.args.pid c.args.page c.unwrap-found.result c.self.invariant c.requires.user (sym (place_found c.self.inside c.args.pid c.args.page) ∙ ap found_of (sym (rw (← c.self.view_is) at c.requires.place)) ∙ sym c.found.ensures ∙ c.unwrap-found.ensures) c.set_flags.new.memory c.set_flags.ensures.entry c.set_flags.ensures.length).spaces)

pub invariant_of-self : goal.invariant_of-self
invariant_of-self c =
    (found_cleaned c.self.inside c.args.pid c.args.page c.unwrap-found.result c.self.invariant c.requires.user (sym (place_found c.self.inside c.args.pid c.args.page) ∙ ap found_of (sym (rw (← c.self.view_is) at c.requires.place)) ∙ sym c.found.ensures ∙ c.unwrap-found.ensures) c.set_flags.new.memory c.set_flags.ensures.entry c.set_flags.ensures.length).kept

pub returns-clause-stay : goal.returns-clause-stay
returns-clause-stay c =
    rw (← c.self.view_is)
    ((found_cleaned c.self.inside c.args.pid c.args.page c.unwrap-found.result c.self.invariant c.requires.user (sym (place_found c.self.inside c.args.pid c.args.page) ∙ ap found_of (sym (rw (← c.self.view_is) at c.requires.place)) ∙ sym c.found.ensures ∙ c.unwrap-found.ensures) c.set_flags.new.memory c.set_flags.ensures.entry c.set_flags.ensures.length).stay)
