-- Which frames an event may write, in numbers.
use Rattle.std.specs.Prelude.{ℕ, Bool, false, Option, Some, None, length, nat_lt}
use Rattle.process_table.specs.View.{View}
use Rattle.kernel_calls.specs.Written.{MayWrite}
use Rattle.kernel_calls.specs.declared.calls.Event.{Event}

-- the numbers are an event, which may write the frame
abbrev pub MayWriteIn : View → Option Event → ℕ → Type 0
MayWriteIn core (Some event) frame = MayWrite core event frame
MayWriteIn core None frame = ⊥

-- whether the numbers are an event, and there is such a frame
abbrev pub asks_frame : View → Option Event → ℕ → Bool
asks_frame core (Some event) frame = nat_lt frame (length core.roles)
asks_frame core None frame = false

-- and there is a core
abbrev pub asks_frame_in : Option View → Option Event → ℕ → Bool
asks_frame_in (Some core) event frame = asks_frame core event frame
asks_frame_in None event frame = false
