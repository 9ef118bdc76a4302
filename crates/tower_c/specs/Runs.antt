-- Runs of numbers that stop at the first that are not carried out.
use Rattle.std.specs.Prelude.{suc, if◌then◌else◌, List, [], ◌∷◌, ◌++◌, length, take, drop}
use Rattle.process_table.specs.State.{State}
use Rattle.tower_c.specs.Border.{event_in, state_after, is_carried_out, replies_in}
use Rattle.tower_c.specs.declared.numbers.TowerEvent.{TowerEvent}
use Rattle.tower_c.specs.declared.numbers.TowerReply.{TowerReply}

-- those of a list that are carried out before the first that are not
abbrev pub carried_in : State → List TowerEvent → List TowerEvent
carried_in s [] = []
carried_in s (e ∷ events) = if is_carried_out s (event_in e) then e ∷ carried_in (state_after s (event_in e)) events else []

-- the replies to them, and to the first that are not, in their places; the other places stay as they were
abbrev pub replies_until : State → List TowerEvent → List TowerReply → List TowerReply
replies_until s events old =
    let count = suc (length (carried_in s events)) in
    replies_in s (take count events) ++ drop count old
