-- Histories: lists of log entries, their states, and which of them are legal.
use Rattle.std.specs.Prelude.{◌≡◌, ◌≤◌, ℕ, ◌==◌, List, ◌∷◌, ◌++◌, map, length, filter, nat_lt, if◌then◌else◌}
use Rattle.authority_laws.specs.Authority.{HearTheirOwn, KeepsBorders}
use Rattle.kernel_calls.specs.Decisions.{charge_after}
use Rattle.authority_laws.specs.Availability.{IsServed}
use Rattle.authority_laws.specs.Families.{IsUnreached}
use Rattle.kernel_calls.specs.Isolation.{Exchange, IsIsolated}
use Rattle.kernel_calls.specs.Machine.{answer, answers, end_of}
use Rattle.kernel_calls.specs.declared.calls.Call.{Call}
use Rattle.kernel_calls.specs.declared.calls.Event.{Event}
use Rattle.kernel_calls.specs.declared.calls.Reply.{Reply}
use Rattle.memory_report.specs.declared.entries.LogEntry.{LogEntry}
use Rattle.process_table.specs.State.{State, open_with}

-- the event of an entry
abbrev pub event_of : LogEntry → Event
event_of e = record { cpu = e.cpu; pid = e.pid; call = e.call }

-- the events of entries
abbrev pub events_of : List LogEntry → List Event
events_of log = map event_of log

-- the replies of entries
abbrev pub replies_of : List LogEntry → List Reply
replies_of log = map (λ e. e.reply) log

-- the last state of the machine's run over the events of these entries, from the opening of that many frames
abbrev pub state_after : ℕ → List LogEntry → State
state_after frames log = end_of (open_with frames) (events_of log)

-- the events of these entries, each with its reply
abbrev pub exchanges_of : List LogEntry → List Exchange
exchanges_of log = map (λ e. (event_of e, e.reply)) log

-- each process that these entries make gets, after the entry that made it and up to its first Exit, the replies that it
-- would get alone, while it makes no Offer, Accept, Spawn or Fork
abbrev pub AreIsolated : ℕ → List LogEntry → Type 0
AreIsolated frames log = IsIsolated (open_with frames) (events_of log) (replies_of log)

-- From each place of these entries on, the members of every set get their own replies. Every confined set that keeps
-- within itself stays confined, and every such family gets the same replies, whatever others do. A call that would
-- complete still completes after entries of others, except where these can make it impossible.
pub record AreGuarded (frames : ℕ) (log : List LogEntry) : Type 0 where
  pub heard : (before later : List LogEntry) → log ≡ before ++ later
      → HearTheirOwn (state_after frames before) (events_of later) (replies_of later)
  pub borders : (before later : List LogEntry) → log ≡ before ++ later
      → KeepsBorders (state_after frames before) (events_of later) (state_after frames log)
  pub unreached : (before later : List LogEntry) → log ≡ before ++ later
      → IsUnreached (state_after frames before) (events_of later) (replies_of later)
  pub served : IsServed (open_with frames) (events_of log) (replies_of log)

-- the entries of one CPU
abbrev pub entries_of : ℕ → List LogEntry → List LogEntry
entries_of cpu log = filter (λ e. e.cpu == cpu) log

-- how many entries one CPU has
abbrev pub calls_of : ℕ → List LogEntry → ℕ
calls_of cpu log = length (entries_of cpu log)

-- after these entries, an entry says how many of them are of its CPU, and what its process is charged for once its
-- event is done
pub record IsTold (frames : ℕ) (before : List LogEntry) (e : LogEntry) : Type 0 where
  pub nth : e.nth ≡ calls_of e.cpu before
  pub used_after : e.used_after ≡ charge_after (state_after frames before) (event_of e)

-- a history of a machine of that many frames: its replies are those of the machine's run over its events
pub record Legal (frames : ℕ) (log : List LogEntry) : Type 0 where
  pub size : (16 ≤ frames) × (frames ≤ 1048576)
  pub replies : replies_of log ≡ answers (open_with frames) (events_of log)
  pub entries : (before : List LogEntry) (e : LogEntry) (rest : List LogEntry) → log ≡ before ++ e ∷ rest → IsTold frames before e

-- the list begins with these entries
abbrev pub StartsWith : List LogEntry → List LogEntry → Type 0
StartsWith log seen = (rest : List LogEntry) × (log ≡ seen ++ rest)

-- the longer of two lists, the first where they are as long
abbrev pub longer : List LogEntry → List LogEntry → List LogEntry
longer xs ys = if nat_lt (length xs) (length ys) then ys else xs

-- what is logged of a call after these entries
abbrev pub entry_after : ℕ → List LogEntry → ℕ → ℕ → Call → LogEntry
entry_after frames log cpu pid call =
    let e : Event = record { cpu = cpu; pid = pid; call = call } in
    let s : State = state_after frames log in
    record { cpu = cpu; nth = calls_of cpu log; pid = pid; call = call; reply = answer s e; used_after = charge_after s e }
