-- Who else has a page of a process, in numbers.
use Rattle.std.specs.Prelude.{◌≡◌, ◌≤◌, ◌<◌, ℕ, true, false, not, if◌then◌else◌, Option, Some, None, List}
use Rattle.page_words.specs.Addresses.{IsUserPage, is_user_page}
use Rattle.address_space.specs.Spaces.{at_page}
use Rattle.process_table.specs.State.{State, is_live, is_mapped}
use Rattle.process_table.specs.View.{View}
use Rattle.process_table.specs.declared.causes.Cause.{Cause}
use Rattle.process_table.specs.declared.causes.Cause.TheVariants.{NoProcess, BadPage, NotMapped}
use Rattle.kernel_calls.specs.Effects.{IsAlone}
use Rattle.kernel_acts.specs.TakenBack.{is_beside, Taking}
use Rattle.kernel_acts.specs.declared.taking.Holder.{Holder}
use Rattle.tower_c.specs.Border.{numbers, no_event, refused_numbers}
use Rattle.tower_c.specs.declared.holders.TowerHolder.{TowerHolder}
use Rattle.tower_c.specs.declared.numbers.TowerReply.{TowerReply}

-- the slot of these numbers
abbrev pub holder_of : TowerHolder → Holder
holder_of h = record { pid = h.pid; page = h.page }

-- the least page from there on at which q also has p's page, at another slot
pub record IsNextHolder (core : View) (p page q first found : ℕ) : Type 0 where
  pub user : IsUserPage found
  pub from : first ≤ found
  pub here : is_beside core.state (at_page p page) (at_page q found) ≡ true
  pub least : (other : ℕ) → first ≤ other → other < found → is_beside core.state (at_page p page) (at_page q other) ≡ false

-- of the processes with these numbers, if there are such
abbrev pub IsNextHolderIn : View → Option ℕ → ℕ → Option ℕ → ℕ → ℕ → Type 0
IsNextHolderIn core (Some p) page (Some q) from found = IsNextHolder core p page q from found
IsNextHolderIn core (Some p) page None from found = ⊥
IsNextHolderIn core None page q from found = ⊥

-- q has p's page at no other slot from there on
abbrev pub HasNoHolder : View → Option ℕ → ℕ → Option ℕ → ℕ → Type 0
HasNoHolder core (Some p) page (Some q) from = (other : ℕ) → from ≤ other → is_beside core.state (at_page p page) (at_page q other) ≡ false
HasNoHolder core (Some p) page None from = Unit {0}
HasNoHolder core None page q from = Unit {0}

-- why a page can't be taken back: what an Info of it is refused for
abbrev pub take_refusal : State → ℕ → ℕ → Option Cause
take_refusal s p page =
    if not (is_live s p) then Some NoProcess else
    if not (is_user_page page) then Some BadPage else
    if not (is_mapped s (at_page p page)) then Some NotMapped else
    None

-- Done where there is no cause
abbrev pub done_or_refused : Option Cause → TowerReply
done_or_refused (Some cause) = refused_numbers cause
done_or_refused None = numbers 0 0 0 0

-- the reply to taking a page back
abbrev pub take_told : State → Option ℕ → ℕ → TowerReply
take_told s (Some p) page = done_or_refused (take_refusal s p page)
take_told s None page = no_event

-- the page of the process with that number was taken from these slots
abbrev pub TakesIn : View → View → Option ℕ → ℕ → List Holder → Type 0
TakesIn core next (Some p) page holders = Taking core next (at_page p page) holders
TakesIn core next None page holders = ⊥

-- and no other slot has it
abbrev pub IsAloneIn : State → Option ℕ → ℕ → Type 0
IsAloneIn s (Some p) page = IsAlone s (at_page p page)
IsAloneIn s None page = ⊥
