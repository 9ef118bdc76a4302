-- The rows of a report after one event, by the event, its reply and the charge.
use Rattle.std.specs.Prelude.{◌≡◌, ℕ, ◌+◌, ◌-◌, ◌≤◌, List, Option, Some, None, slice_index_or, slice_set, if◌then◌else◌}
use Rattle.std.specs.Option.{option_map}
use Rattle.kernel_calls.specs.Machine.{completes}
use Rattle.kernel_calls.specs.declared.calls.Call.{Call}
use Rattle.kernel_calls.specs.declared.calls.Call.TheVariants as call
use Rattle.kernel_calls.specs.declared.calls.Reply.{Reply}
use Rattle.kernel_calls.specs.declared.calls.Reply.TheVariants as reply
use Rattle.memory_report.specs.declared.entries.LogEntry.{LogEntry}
use Rattle.memory_report.specs.declared.rows.Row.{Row}

-- the row of process p
abbrev pub at : List (Option Row) → ℕ → Option Row
at rows p = slice_index_or rows p None

-- a process is charged that much
abbrev pub with_used : List (Option Row) → ℕ → ℕ → List (Option Row)
with_used rows p used = slice_set rows p (option_map (λ (row : Row). record row { used = used }) (at rows p))

-- a process gets a quota back that it gave
abbrev pub with_given_back : List (Option Row) → ℕ → ℕ → List (Option Row)
with_given_back rows p quota = slice_set rows p (option_map (λ (row : Row). record row { given = row.given - quota }) (at rows p))

-- a child that is charged that much
abbrev pub child_row : ℕ → ℕ → ℕ → Row
child_row parent quota used = record { parent = parent; quota = quota; used = used; given = 0 }

-- rows after process p made a child
abbrev pub opened_by : List (Option Row) → ℕ → ℕ → ℕ → ℕ → Option Row → List (Option Row)
opened_by rows p quota child used None = rows
opened_by rows p quota child used (Some row) = slice_set (slice_set rows p (Some (record row { given = row.given + quota }))) child (Some (child_row p quota used))

-- a process gives a quota to a child that is charged that much
abbrev pub opened : List (Option Row) → ℕ → ℕ → ℕ → ℕ → List (Option Row)
opened rows p quota child used = opened_by rows p quota child used (at rows p)

-- rows after process p exited
abbrev pub closed_by : List (Option Row) → ℕ → Option Row → List (Option Row)
closed_by rows p None = rows
closed_by rows p (Some row) = slice_set (with_given_back rows row.parent row.quota) p None

-- a process ends, and its quota returns to its parent
abbrev pub closed : List (Option Row) → ℕ → List (Option Row)
closed rows p = closed_by rows p (at rows p)

-- the process can give that much more
abbrev pub HasRoom : List (Option Row) → ℕ → ℕ → Type 0
HasRoom rows p quota = (row : Row) → at rows p ≡ Some row → row.given + quota ≤ row.quota

-- a child was made where the reply names it
abbrev pub with_child : List (Option Row) → ℕ → ℕ → ℕ → Reply → List (Option Row)
with_child rows p quota used (reply.Child child) = opened rows p quota child used
with_child rows p quota used _ = rows

-- after a call that was neither refused nor a fault; a child of a spawn is charged for one frame, and one of a fork
-- as much as its parent
abbrev pub after_call : List (Option Row) → ℕ → Call → Reply → ℕ → List (Option Row)
after_call rows p (call.Spawn quota) told used = with_child rows p quota 1 told
after_call rows p (call.Fork quota) told used = with_child rows p quota used told
after_call rows p call.Exit told used = closed rows p
after_call rows p _ told used = with_used rows p used

-- after an event; a refusal or a fault leaves all rows
abbrev pub absorbed : List (Option Row) → LogEntry → List (Option Row)
absorbed rows e = if completes e.reply then after_call rows e.pid e.call e.reply e.used_after else rows

-- a spawn and a fork give a quota that their process has
abbrev pub IsRoomy : List (Option Row) → ℕ → Call → Type 0
IsRoomy rows p (call.Spawn quota) = HasRoom rows p quota
IsRoomy rows p (call.Fork quota) = HasRoom rows p quota
IsRoomy rows p _ = Unit {0}
