-- An event of a process.
use Rattle.std.specs.Prelude.{ℕ}
use Rattle.kernel_acts.specs.Below.{Call, Event}

-- a process makes a call; on which processor makes no difference
abbrev pub event_of : ℕ → Call → Event
event_of p c = record { cpu = 0; pid = p; call = c }
