use Rattle.address_space.proofs.Prelude.{arith, ◌≡◌, ◌∙◌, ℕ, Bool, sym, Option, Some, List, frame_bytes, at_page, directory_of, spaces_in, Role, user_cases, get-entries_user, get-entries_other, IsSound, is_mapped}
use Rattle.address_space.proofs.Lemmas.{no_cell, page_map_of, live_small, mapped_read, no_cell_outside}
use Rattle.page_words.specs.FiniteMap as map
use Rattle.address_space.proofs.Spaces.next_page.Goals as goal

-- a process has the pages mapped that its directory maps
next_read : (directories : List (Option ℕ)) (bytes : List ℕ) (roles : List Role) (p d page : ℕ) → IsSound directories bytes roles → directory_of directories p ≡ Some d
    → map.contains_key (spaces_in directories bytes) (at_page p page) ≡ is_mapped (frame_bytes bytes) d page
next_read directories bytes roles p d page sound live =
    grind (arith, user_cases, mapped_read, live_small, get-entries_user, no_cell_outside, get-entries_other)

pub returns-in_default-clause-none : goal.returns-in_default-clause-none
returns-in_default-clause-none c = grind (arith, no_cell, c.space_of.ensures, c.in_default.is)

pub next_page-requires : goal.next_page-requires
next_page-requires c =
    page_map_of c.self.inside.directories c.self.inside.memory c.self.inside.frames c.args.pid c.in-Some.directory c.self.invariant.spaces.sound (sym c.space_of.ensures ∙ c.in-Some.is)

-- a page is mapped in what is seen where its words say so
abbrev here : goal.After-next_page → ℕ → Bool
here c page = map.contains_key c.args.self.now.spaces (at_page c.args.pid page)

abbrev by_words : goal.After-next_page → ℕ → Bool
by_words c page = is_mapped (frame_bytes c.self.inside.memory) c.in-Some.directory page

read : (c : goal.After-next_page) (page : ℕ) → here c page ≡ by_words c page
read c page = grind (arith, next_read, c.self.invariant.spaces.sound, c.space_of.ensures, c.in-Some.is)

pub returns-clause-mapped : goal.returns-clause-mapped
returns-clause-mapped c = grind (arith, read, c.next_page.ensures.mapped)

pub returns-clause-least : goal.returns-clause-least
returns-clause-least c = grind (arith, read, c.next_page.ensures.least)

pub returns-clause-none : goal.returns-clause-none
returns-clause-none c = grind (arith, read, c.next_page.ensures.none)
