-- The CPU made the first of the opening's calls.
use Rattle.std.proofs.Common.{◌≡◌, ◌++◌, take}
use Rattle.guest_race.specs.Rounds.{made_by}
use Rattle.guest_race.proofs.guests.open_page.Given as goal

abbrev pub invariant-loop-event : goal.invariant-loop-event
invariant-loop-event g l = record {
  number : l.cpu.number ≡ 0;
  made : made_by l.cpu ≡ made_by l.fn.cpu ++ take l.event-index l.event-items;
}
