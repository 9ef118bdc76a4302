-- The codes of what handles own, as ghost fields keep it.
use Rattle.std.specs.Prelude.{Bool, List, refl}
use Rattle.std.specs.Coded.{Coded, code_by, coded_bool, coded_list, coded×}
use Rattle.logbook.specs.Pages.{Book, book_coded}
use Rattle.process_table.specs.View.{View, view_code}
use Rattle.core_handover.specs.Histories.{Known, given, known}
use Rattle.core_handover.specs.Seats.{Seat, seat}
use Rattle.core_handover.specs.declared.given.Given.{Given}

-- of a core that was given back
abbrev pub given_code : Coded Given
given_code = code_by View view_code (λ g. g.core) given (λ _. refl)

-- of what a CPU is seen as
abbrev pub seat_code : Coded Seat
seat_code = code_by (Book × (List Given × Bool)) (coded× book_coded (coded× (coded_list given_code) coded_bool)) (λ s. (s.book, (s.log, s.has))) (λ p. seat p.0 p.1.0 p.1.1) (λ _. refl)

-- of what a monitor is seen as
abbrev pub known_code : Coded Known
known_code = code_by (Book × List Given) (coded× book_coded (coded_list given_code)) (λ k. (k.book, k.log)) (λ p. known p.0 p.1) (λ _. refl)
