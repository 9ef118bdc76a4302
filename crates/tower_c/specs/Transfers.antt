-- A process's memory in and out, in numbers.
use Rattle.std.specs.Prelude.{ℕ, Option, Some, None, List, []}
use Rattle.address_space.specs.Stays.{Gone, none_goes}
use Rattle.process_table.specs.State.{State}
use Rattle.kernel_acts.specs.Transfers.{loads, stores, stop_of, of_lazy_pages}
use Rattle.kernel_calls.specs.declared.calls.Event.{Event}
use Rattle.kernel_calls.specs.declared.calls.Reply.{Reply}
use Rattle.tower_c.specs.Border.{numbers, no_event, reply_numbers}
use Rattle.tower_c.specs.declared.numbers.TowerReply.{TowerReply}

-- the loads of a read, where its process is one
abbrev pub loads_in : Option ℕ → ℕ → ℕ → List Event
loads_in (Some pid) address count = loads pid address count
loads_in None address count = []

-- the stores of a write
abbrev pub stores_in : Option ℕ → ℕ → List ℕ → List Event
stores_in (Some pid) address bytes = stores pid address bytes
stores_in None address bytes = []

-- which ways to frames go with a write of so many bytes: some of the process's lazy pages
abbrev pub gone_in : Option ℕ → ℕ → ℕ → Gone
gone_in (Some pid) address count = of_lazy_pages pid address count
gone_in None address count = none_goes

-- what stopped a transfer: Done where nothing did
abbrev pub stop_numbers : Option Reply → TowerReply
stop_numbers (Some reply) = reply_numbers reply
stop_numbers None = numbers 0 0 0 0

-- what stopped a transfer of these events, and no event where its number is no process
abbrev pub stop_in : State → Option ℕ → List Event → TowerReply
stop_in s (Some pid) events = stop_numbers (stop_of s events)
stop_in s None events = no_event
