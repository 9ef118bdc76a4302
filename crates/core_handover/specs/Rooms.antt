-- What lies in the room, as the book of its history has it.
use Rattle.std.specs.Prelude.{◌≡◌}
use Rattle.logbook.specs.Pages.{Book}
use Rattle.core_handover.specs.Histories.{head_of, last_core}
use Rattle.core_handover.specs.declared.page.Sheet.{Sheet}
use Rattle.core_handover.specs.declared.room.Held.{Held}
use Rattle.core_handover.specs.declared.room.Rest.{Rest}

-- a page of the same history
abbrev pub IsOf : Book → Sheet → Type 0
IsOf book sheet = sheet.page.value.book ≡ book

-- what is passed on with the core
pub record IsRest (book : Book) (rest : Rest) : Type 0 where
  pub head : rest.head ≡ head_of book
  pub spare : IsOf book rest.spare

-- the core in the room is the last one of the history, which is all that was added
pub record IsHeld (book : Book) (held : Held) : Type 0 where
  pub front : held.front.book ≡ book
  pub core : held.core.value ≡ last_core held.front.log
  pub rest : IsRest book held.rest
