use Rattle.std.proofs.Common.{rules, false, [], ◌∷◌}
use Rattle.core_handover.specs.Histories.{Known, given, known}
use Rattle.core_handover.specs.Seats.{Seat, seat}
use Rattle.tower_threads.proofs.sharing.tower_share.Goals as goal

pub returns-in-Ok-clause-shared : goal.returns-in-Ok-clause-shared
returns-in-Ok-clause-shared c =
    let shared = c.in-Ok.ensures.shared in
    let one : Seat = seat shared.book (given c.in-Some.core.value ∷ []) false in
    let other : Known = known shared.book (given c.in-Some.core.value ∷ []) in
    λ done. record {
      book = shared.book;
      opening = c.in-Some.core.value;
      was = search rules;
      gone = search rules;
      seats = c.seat_cpus.ensures one (search rules);
      watchers = c.seat_monitors.ensures other (search rules);
    }

-- a handle that is filled is one
pub returns-in-Ok-clause-handles : goal.returns-in-Ok-clause-handles
returns-in-Ok-clause-handles c =
    let shared = c.in-Ok.ensures.shared in
    let one : Seat = seat shared.book (given c.in-Some.core.value ∷ []) false in
    let other : Known = known shared.book (given c.in-Some.core.value ∷ []) in
    let cpus = c.seat_cpus.ensures one (search rules) in
    let monitors = c.seat_monitors.ensures other (search rules) in
    (λ k d inside. (cpus k d inside).1, λ k d inside. (monitors k d inside).1)
