-- A kernel's calls, and what processors do next to them: which events that is, and in which order.
use Rattle.std.specs.Prelude.{◌≡◌, List, [], ◌∷◌, ◌++◌}
use Rattle.kernel_calls.specs.Processors.{AllAreRead, Processors}
use Rattle.kernel_calls.specs.Translations.{ended_by}
use Rattle.kernel_calls.specs.declared.calls.Event.{Event}
use Rattle.kernel_calls.specs.declared.calls.Reply.{Reply}
use Rattle.kernel_calls.specs.declared.translations.Ended.TheVariants.{Nothing}
use Rattle.memory_report.specs.Histories.{event_of}
use Rattle.process_table.specs.View.{View}
use Rattle.shootdowns.specs.Windows as window
use Rattle.shootdowns.specs.Windows.{Acknowledged, AreInOrder, Step, memory_in, nobody, settled, under_way}
use Rattle.locked_core.specs.Moments.{Follows}
use Rattle.locked_core.specs.declared.moment.Moment.{Moment}

-- a step that leaves memory as it is, as loads, refills and invalidations do
pub record IsBeside (m : window.Moment) (keeps : Processors) (es : List Event) (rs : List Reply) (n : window.Moment) (last : Processors) : Type 0 where
  pub step : Step m keeps es rs n last
  pub memory : memory_in n ≡ memory_in m

-- The calls of a history in sequence, with such steps before, between and after them. Each call begins a window; that
-- of the call before it has closed.
pub data Together : List Moment → window.Moment → Processors → List Event → List Reply → window.Moment → Processors → Type 0 where
  none : {m : window.Moment} {keeps : Processors} → Together [] m keeps [] [] m keeps
  called : {log : List Moment} {done : Acknowledged} {v : View} {m : window.Moment} {keeps last : Processors} {es : List Event} {rs : List Reply}
      (x : Moment) → Together log (under_way (ended_by v (event_of x.entry)) nobody (event_of x.entry) x.entry.reply v.state x.core) keeps es rs m last
      → Together (x ∷ log) (settled Nothing done v) keeps es rs m last
  beside : {log : List Moment} {m n o : window.Moment} {keeps between last : Processors} {es events : List Event} {rs replies : List Reply}
      → IsBeside m keeps es rs n between → Together log n between events replies o last
      → Together log m keeps (es ++ events) (rs ++ replies) o last

-- Whatever processors do next to the calls of a kernel, if it leaves memory as it is, replies and values read are the
-- answers to the events in the order. What each processor may use is what the walks give then.
abbrev pub CallsAndProcessors : Type 0
CallsAndProcessors = (opening : View) (log : List Moment) (m : window.Moment) (keeps last : Processors) (events : List Event) (replies : List Reply)
    → Follows opening log → AllAreRead opening keeps → Together log (settled Nothing nobody opening) keeps events replies m last
    → AreInOrder opening events replies m last
