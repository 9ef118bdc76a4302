-- Events and replies as numbers.
use Rattle.std.specs.Prelude.{◌≡◌, ℕ, Bool, true, false, not, ◌==◌, ◌&&◌, nat_lt, Option, None, Some, Result, Ok, Err, if◌then◌else◌, List, [], ◌∷◌, length, slice_get}
use Rattle.std.specs.Option.{option_map}
use Rattle.page_words.specs.declared.addresses.Size.{Size}
use Rattle.page_words.specs.declared.addresses.Size.TheVariants.{One, Two, Four}
use Rattle.phys_memory.specs.Bytes.{frame_bytes}
use Rattle.table_walk.specs.Walk.{walk_of}
use Rattle.table_walk.specs.declared.Access.{Access}
use Rattle.table_walk.specs.declared.Access.TheVariants.{Read, Write}
use Rattle.table_walk.specs.declared.WalkEnd.{WalkEnd}
use Rattle.table_walk.specs.declared.WalkEnd.TheVariants.{Fault, Outside}
use Rattle.address_space.specs.View.{directory_of}
use Rattle.process_table.specs.State.{State, container_of}
use Rattle.process_table.specs.Image.{StandsFor, image_of, memory_of}
use Rattle.process_table.specs.View.{View}
use Rattle.process_table.specs.declared.causes.Cause.{Cause}
use Rattle.process_table.specs.declared.causes.Cause.TheVariants as cause
use Rattle.kernel_calls.specs.Machine.{answer, next, completes}
use Rattle.kernel_calls.specs.declared.calls.Call.{Call}
use Rattle.kernel_calls.specs.declared.calls.Call.TheVariants as call
use Rattle.kernel_calls.specs.declared.calls.Event.{Event}
use Rattle.kernel_calls.specs.declared.calls.Reply.{Reply}
use Rattle.kernel_calls.specs.declared.calls.Reply.TheVariants as reply
use Rattle.alloc_table.specs.declared.Role.{Role}
use Rattle.alloc_table.specs.declared.Role.TheVariants as role
use Rattle.quota_tree.specs.declared.Container.{Container}
use Rattle.tower_c.specs.declared.numbers.TowerContainer.{TowerContainer}
use Rattle.tower_c.specs.declared.numbers.TowerRole.{TowerRole}
use Rattle.tower_c.specs.declared.numbers.TowerEvent.{TowerEvent}
use Rattle.tower_c.specs.declared.numbers.TowerReply.{TowerReply}
use Rattle.tower_c.specs.declared.numbers.TowerWalk.{TowerWalk}
use Rattle.tower_c.specs.declared.numbers.TowerEnded.{TowerEnded}
use Rattle.address_space.specs.Stays.{FramesStay, LooseStay}
use Rattle.kernel_calls.specs.Gone.{gone_by, gives_back}
use Rattle.kernel_calls.specs.Translations.{ended_by, Ends}
use Rattle.kernel_calls.specs.Written.{WritesItsOwn}
use Rattle.kernel_calls.specs.declared.translations.Ended.{Ended}
use Rattle.kernel_calls.specs.declared.translations.Ended.TheVariants as end

-- ---- Events

-- the size with this number of bytes
abbrev pub size_of : ℕ → Option Size
size_of n = if n == 1 then Some One else if n == 2 then Some Two else if n == 4 then Some Four else None

-- the right with this number: 1 to write, 0 to read only
abbrev pub right_of : ℕ → Option Bool
right_of n = if n == 0 then Some false else if n == 1 then Some true else None

-- a process number, 0 to 63
abbrev pub pid_of : ℕ → Option ℕ
pid_of n = if nat_lt n 64 then Some n else None

-- a Load, if its size is one
abbrev pub load_with : ℕ → Option Size → Option Call
load_with addr (Some size) = Some (call.Load addr size)
load_with addr None = None

-- a Store, if its size is one
abbrev pub store_with : ℕ → ℕ → Option Size → Option Call
store_with addr value (Some size) = Some (call.Store addr size value)
store_with addr value None = None

-- a Map, if its right is one
abbrev pub map_with : ℕ → Option Bool → Option Call
map_with page (Some write) = Some (call.Map page write)
map_with page None = None

-- a Protect, if its right is one
abbrev pub protect_with : ℕ → Option Bool → Option Call
protect_with page (Some write) = Some (call.Protect page write)
protect_with page None = None

-- an Offer, if its target and right are
abbrev pub offer_with : ℕ → Option ℕ → Option Bool → Option Call
offer_with page (Some target) (Some write) = Some (call.Offer page target write)
offer_with page (Some target) None = None
offer_with page None write = None

-- a Withdraw, if its target is a process number
abbrev pub withdraw_with : ℕ → Option ℕ → Option Call
withdraw_with page (Some target) = Some (call.Withdraw page target)
withdraw_with page None = None

-- an Accept, if its giver is a process number
abbrev pub accept_with : Option ℕ → ℕ → ℕ → Option Call
accept_with (Some giver) giver_page page = Some (call.Accept giver giver_page page)
accept_with None giver_page page = None

-- the call of a number
abbrev pub call_of : TowerEvent → Option Call
call_of e =
    if e.call == 0 then load_with e.first (size_of e.flag) else
    if e.call == 1 then store_with e.first e.second (size_of e.flag) else
    if e.call == 2 then map_with e.first (right_of e.flag) else
    if e.call == 3 then Some (call.Unmap e.first) else
    if e.call == 4 then protect_with e.first (right_of e.flag) else
    if e.call == 5 then Some (call.Info e.first) else
    if e.call == 6 then offer_with e.first (pid_of e.second) (right_of e.flag) else
    if e.call == 7 then withdraw_with e.first (pid_of e.second) else
    if e.call == 8 then accept_with (pid_of e.second) e.first e.third else
    if e.call == 9 then Some (call.Spawn e.first) else
    if e.call == 10 then Some call.Exit else
    if e.call == 11 then Some call.Quota else
    if e.call == 12 then Some (call.Fork e.first) else None

-- an event, if its process and call are
abbrev pub event_by : TowerEvent → Option ℕ → Option Call → Option Event
event_by e (Some pid) (Some call) = Some (record { cpu = e.cpu; pid = pid; call = call })
event_by e (Some pid) None = None
event_by e None call = None

-- the event of these numbers, where they are one
abbrev pub event_in : TowerEvent → Option Event
event_in e = event_by e (pid_of e.pid) (call_of e)

-- ---- Replies

-- the number of a cause
abbrev pub cause_number : Cause → ℕ
cause_number cause.NoProcess = 1
cause_number cause.BadPage = 2
cause_number cause.NotMapped = 4
cause_number cause.Mapped = 5
cause_number cause.Quota = 6
cause_number cause.Rights = 7
cause_number cause.SelfOffer = 8
cause_number cause.NoTarget = 9
cause_number cause.OfferPending = 10
cause_number cause.TooManyOffers = 11
cause_number cause.NoOffer = 12
cause_number cause.TableFull = 13
cause_number cause.BadQuota = 14
cause_number cause.HasChildren = 15
cause_number cause.RootExit = 16
cause_number cause.TooSmall = 17

-- a reply of this kind with three numbers
abbrev pub numbers : ℕ → ℕ → ℕ → ℕ → TowerReply
numbers kind first second third = record { kind = kind; first = first; second = second; third = third; write = false; may = false; accessed = false; dirty = false }

-- a reply's numbers
abbrev pub reply_numbers : Reply → TowerReply
reply_numbers reply.Done = numbers 0 0 0 0
reply_numbers (reply.Value value) = numbers 1 value 0 0
reply_numbers (reply.Child pid) = numbers 2 pid 0 0
reply_numbers (reply.Info write may accessed dirty holders) = record { kind = 3; first = holders; second = 0; third = 0; write = write; may = may; accessed = accessed; dirty = dirty }
reply_numbers (reply.Quota quota used given) = numbers 4 quota used given
reply_numbers (reply.Fault addr code) = numbers 5 addr code 0
reply_numbers (reply.Refused cause) = numbers 6 (cause_number cause) 0 0

-- a refusal's numbers
abbrev pub refused_numbers : Cause → TowerReply
refused_numbers cause = numbers 6 (cause_number cause) 0 0

-- numbers that are no event
abbrev pub no_event : TowerReply
no_event = numbers 7 0 0 0

-- the reply to these numbers in a state
abbrev pub reply_in : State → Option Event → TowerReply
reply_in s (Some event) = reply_numbers (answer s event)
reply_in s None = no_event

-- the state after them
abbrev pub state_after : State → Option Event → State
state_after s (Some event) = next s event
state_after s None = s

-- whether they are carried out: they are an event, and neither refused nor a fault
unfoldable pub is_carried_out : State → Option Event → Bool
is_carried_out s (Some event) = completes (answer s event)
is_carried_out s None = false

-- the replies to a list of numbers, in order
abbrev pub replies_in : State → List TowerEvent → List TowerReply
replies_in s [] = []
replies_in s (e ∷ events) = reply_in s (event_in e) ∷ replies_in (state_after s (event_in e)) events

-- the state after all of them
abbrev pub end_after : State → List TowerEvent → State
end_after s [] = s
end_after s (e ∷ events) = end_after (state_after s (event_in e)) events

-- whether none of a list is carried out
abbrev pub none_is_carried_out : State → List TowerEvent → Bool
none_is_carried_out s [] = true
none_is_carried_out s (e ∷ events) = not (is_carried_out s (event_in e)) && none_is_carried_out (state_after s (event_in e)) events

-- ---- Queries

-- a role in numbers
abbrev pub role_numbers : Role → TowerRole
role_numbers role.Reserved = record { kind = 0; pid = 0; slot = 0; count = 0 }
role_numbers role.Free = record { kind = 1; pid = 0; slot = 0; count = 0 }
role_numbers (role.Directory pid) = record { kind = 2; pid = pid; slot = 0; count = 0 }
role_numbers (role.Table pid slot) = record { kind = 3; pid = pid; slot = slot; count = 0 }
role_numbers (role.Page count) = record { kind = 4; pid = 0; slot = 0; count = count }

-- a container in numbers
abbrev pub container_numbers : Container → TowerContainer
container_numbers c = record { parent = c.parent; quota = c.quota; used = c.used; given = c.given; children = c.children }

-- what a query that answers true wrote, and nothing where it answers false
abbrev pub given : {A : Type 0} → Bool → A → Option A
given true written = Some written
given false written = None

-- the number of frames, 0 without a core
abbrev pub frames_in : Option View → ℕ
frames_in (Some core) = length core.roles
frames_in None = 0

-- the directory of a process, if there is one
abbrev pub directory_at : View → Option ℕ → Option ℕ
directory_at core (Some pid) = directory_of core.directories pid
directory_at core None = None

-- the frame of a process's directory, where there are a core and such a process
abbrev pub directory_in : Option View → ℕ → Option ℕ
directory_in (Some core) pid = directory_at core (pid_of pid)
directory_in None pid = None

-- the container of a process in numbers, if it is live
abbrev pub container_at : View → Option ℕ → Option TowerContainer
container_at core (Some pid) = option_map container_numbers (container_of core.state pid)
container_at core None = None

-- what a process may use, uses and gives, where there are a core and such a process
abbrev pub container_in : Option View → ℕ → Option TowerContainer
container_in (Some core) pid = container_at core (pid_of pid)
container_in None pid = None

-- what a frame serves, where there are a core and such a frame
abbrev pub role_in : Option View → ℕ → Option TowerRole
role_in (Some core) frame = option_map role_numbers (slice_get core.roles frame)
role_in None frame = None

-- a frame's bytes, where there are a core, such a frame and room for it
abbrev pub copy_in : Option View → ℕ → ℕ → Option (List ℕ)
copy_in (Some core) frame room = if nat_lt frame (length core.roles) && (room == 4096) then Some (frame_bytes core.bytes frame) else None
copy_in None frame room = None

-- the access of a walk: a write, or a read only
abbrev pub access_of : Bool → Access
access_of true = Write
access_of false = Read

-- how a walk ends, in numbers
abbrev pub walk_numbers : Result ℕ WalkEnd → TowerWalk
walk_numbers (Ok frame) = record { kind = 0; frame = frame; code = 0 }
walk_numbers (Err (Fault fault)) = record { kind = 1; frame = 0; code = fault.code }
walk_numbers (Err Outside) = record { kind = 2; frame = 0; code = 0 }

-- how the processor's walk from a process's directory ends, where there are a core and such a process
abbrev pub walk_in : Option View → ℕ → ℕ → Bool → Option TowerWalk
walk_in (Some core) pid address write = option_map (λ directory. walk_numbers (walk_of core.bytes directory address (access_of write))) (directory_at core (pid_of pid))
walk_in None pid address write = None

-- what an event ended, in numbers
abbrev pub ended_numbers : Ended → TowerEnded
ended_numbers end.Nothing = record { kind = 0; pid = 0; first = 0; second = 0 }
ended_numbers (end.Page pid page) = record { kind = 1; pid = pid; first = page; second = 0 }
ended_numbers (end.Pages pid first second) = record { kind = 2; pid = pid; first = first; second = second }
ended_numbers (end.Space pid) = record { kind = 3; pid = pid; first = 0; second = 0 }

-- which cached translations an event ends, where there are a core and such an event
abbrev pub ended_in : Option View → Option Event → Option TowerEnded
ended_in (Some core) (Some event) = Some (ended_numbers (ended_by core event))
ended_in (Some core) None = None
ended_in None event = None

-- what these numbers end on a core: none, where they are no event
abbrev pub ends_in : View → Option Event → Ended
ends_in core (Some event) = ended_by core event
ends_in core None = end.Nothing

-- What these numbers leave of memory. What the event may not write stands as before. Each way that it doesn't take leads
-- where it led. An Unmap or an Exit leaves the bytes of pages and of free frames. Numbers that are no event leave all.
abbrev pub LeavesMemory : View → View → Option Event → Type 0
LeavesMemory v w (Some e) = WritesItsOwn v w e × FramesStay (gone_by v.state e) (memory_of v) (memory_of w)
    × (gives_back e.call ≡ true → LooseStay (memory_of v) (memory_of w))
LeavesMemory v w None = w ≡ v

-- each event, one after the other, ended what `ends_in` says, and nothing else; memory stood for the state after each
abbrev pub EndInOrder : List TowerEvent → View → View → Type 0
EndInOrder [] v w = v ≡ w
EndInOrder (e ∷ events) v w = (u : View) × StandsFor (image_of u) u.state × (u.state ≡ state_after v.state (event_in e))
    × Ends (ends_in v (event_in e)) v u × EndInOrder events u w

-- ---- The version

-- 10,000 for each major version, 100 for each minor one, 1 for each patch
abbrev pub version : ℕ
version = 200
