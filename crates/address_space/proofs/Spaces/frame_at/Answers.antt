use Rattle.address_space.proofs.Prelude.{◌≡◌, true, ap, sym, ◌∙◌, Option, Some, None, unwrap_or, Cell, at_page, fresh, found_of, Reserved}
use Rattle.address_space.proofs.Lemmas.{found_lies, found_bytes, absent_cell, place_found, inside, found_at}
use Rattle.address_space.proofs.Spaces.frame_at.Goals as goal

is_found : (c : goal.In-Some) → found_at c.self.inside c.args.pid c.args.page ≡ Some c.in-Some.found
is_found c = sym (place_found c.self.inside c.args.pid c.args.page) ∙ ap found_of (sym (rw (← c.self.view_is) at c.requires.place)) ∙ sym c.found.ensures ∙ c.in-Some.is

not_found : (c : goal.In-None) → found_at c.self.inside c.args.pid c.args.page ≡ None
not_found c = sym (place_found c.self.inside c.args.pid c.args.page) ∙ ap found_of (sym (rw (← c.self.view_is) at c.requires.place)) ∙ sym c.found.ensures ∙ c.in-None.is

pub returns-in-Some-clause-inside : goal.returns-in-Some-clause-inside
returns-in-Some-clause-inside c = rw (← c.self.view_is) (found_lies c.self.inside c.args.pid c.args.page c.in-Some.found c.self.invariant c.requires.user (is_found c)).frame

pub returns-in-Some-clause-bytes : goal.returns-in-Some-clause-bytes
returns-in-Some-clause-bytes c = rw (← c.self.view_is) (found_bytes c.self.inside c.args.pid c.args.page c.in-Some.found c.self.invariant c.requires.user (is_found c))

pub returns-in-None-clause-inside : goal.returns-in-None-clause-inside
returns-in-None-clause-inside c =
    let sound = c.self.invariant.spaces.sound in
    rw (← c.self.view_is) (inside c.self.inside.directories c.self.inside.memory c.self.inside.frames 0 Reserved sound sound.tables.zero_role)

pub returns-in-None-clause-bytes : goal.returns-in-None-clause-bytes
returns-in-None-clause-bytes c =
    rw (← c.self.view_is)
    (ap (λ (x : Option Cell). (unwrap_or x (fresh (at_page c.args.pid c.args.page) true)).bytes)
    (absent_cell c.self.inside c.args.pid c.args.page c.self.invariant c.requires.user (not_found c))
    ∙ sym c.self.invariant.spaces.sound.tables.zero_bytes)
