-- Which slots' ways go with an event, whatever was kept of them.
use Rattle.std.specs.Prelude.{ℕ, Bool, true, false, if◌then◌else◌}
use Rattle.kernel_calls.specs.Below.{Gone, of_page, of_process, of_lazy, lazy_touched, State}
use Rattle.kernel_calls.specs.Machine.{answer, completes}
use Rattle.kernel_calls.specs.declared.calls.Call.{Call}
use Rattle.kernel_calls.specs.declared.calls.Event.{Event}
use Rattle.kernel_calls.specs.declared.calls.Call.TheVariants as call

-- the frames that a completed call takes from slots
abbrev pub gone_of_call : ℕ → Call → Gone
gone_of_call p (call.Store addr size value) slot frame = lazy_touched p addr size slot frame
gone_of_call p (call.Unmap page) slot frame = of_page p page slot frame
gone_of_call p (call.Accept giver giver_page page) slot frame = of_lazy giver giver_page slot frame
gone_of_call p call.Exit slot frame = of_process p slot frame
gone_of_call p _ slot frame = false

-- the frames that an event takes from slots
abbrev pub gone_by : State → Event → Gone
gone_by s e slot frame = if completes (answer s e) then gone_of_call e.pid e.call slot frame else false

-- calls that give frames back
abbrev pub gives_back : Call → Bool
gives_back (call.Unmap page) = true
gives_back call.Exit = true
gives_back _ = false
