-- A process's pages, in numbers.
use Rattle.std.specs.Prelude.{◌≡◌, ◌<◌, ◌≤◌, ℕ, false, Option, Some, None}
use Rattle.std.specs.Option.{option_map}
use Rattle.address_space.specs.Spaces.{at_page}
use Rattle.process_table.specs.State.{is_mapped}
use Rattle.process_table.specs.View.{View}
use Rattle.kernel_calls.specs.Pages.{page_in}
use Rattle.kernel_calls.specs.declared.pages.PageState.{PageState}
use Rattle.tower_c.specs.declared.pages.TowerPage.{TowerPage}

-- what stands at a page, as numbers
abbrev pub page_numbers : PageState → TowerPage
page_numbers state = record {
  holders = state.cell.holders;
  write = state.cell.write;
  may = state.cell.may;
  accessed = state.cell.accessed;
  dirty = state.cell.dirty;
  lazy = state.lazy;
}

-- the least page from there on that a process has mapped, and what stands there
pub record IsNextPage (core : View) (p first page : ℕ) (found : TowerPage) : Type 0 where
  pub from : first ≤ page
  pub here : option_map page_numbers (page_in core p page) ≡ Some found
  pub least : (other : ℕ) → first ≤ other → other < page → is_mapped core.state (at_page p other) ≡ false

-- the lowest mapped page from there on, of the process with that number, if there is one
abbrev pub IsNextIn : View → Option ℕ → ℕ → ℕ → TowerPage → Type 0
IsNextIn core (Some p) from page found = IsNextPage core p from page found
IsNextIn core None from page found = ⊥

-- a process has no page mapped from there on
abbrev pub HasNone : View → Option ℕ → ℕ → Type 0
HasNone core (Some p) from = (other : ℕ) → from ≤ other → is_mapped core.state (at_page p other) ≡ false
HasNone core None from = Unit {0}
