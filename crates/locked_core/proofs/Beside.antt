-- A kernel's calls, with what processors do next to them, are the steps of windows.
use Rattle.std.proofs.Common.{◌≡◌, List, [], ◌∷◌, ◌++◌, refl, sym, ◌∙◌, subst, append_assoc}
use Rattle.kernel_calls.specs.Processors.{Processors}
use Rattle.kernel_calls.specs.declared.calls.Event.{Event}
use Rattle.kernel_calls.specs.declared.calls.Reply.{Reply}
use Rattle.memory_report.specs.Histories.{event_of}
use Rattle.process_table.specs.View.{View}
use Rattle.shootdowns.proofs.InOrder.{shootdowns_make_events}
use Rattle.shootdowns.specs.Windows as window
use Rattle.shootdowns.specs.Windows.{Steps, memory_in, nobody, settled}
use Rattle.locked_core.proofs.Moments.{core_push}
use Rattle.locked_core.specs.Beside.{CallsAndProcessors, Together, none, called, beside}
use Rattle.locked_core.specs.Moments.{Follows, core_after}
use Rattle.locked_core.specs.declared.moment.Moment.{Moment}

-- from the core after some of the calls on
steps_of : (opening : View) (before log : List Moment) (m o : window.Moment) (keeps last : Processors) (es : List Event) (rs : List Reply)
    → Follows opening (before ++ log) → memory_in m ≡ core_after opening before → Together log m keeps es rs o last → Steps m keeps es rs o last
steps_of opening before log m o keeps last es rs h is none = window.none
steps_of opening before log m o keeps last es rs h is (beside {n = n} {between = between} {events = events} {replies = replies} b rest) =
    window.first b.step (steps_of opening before log n o between last events replies h (b.memory ∙ is) rest)
steps_of opening before l m o keeps last es rs h is (called {log = log} {v = v} x rest) =
    let begins = subst (λ (u : View). window.Begins u (event_of x.entry) x.entry.reply x.core) (sym is) (h.each before x log refl) in
    window.first (window.begun begins) (steps_of opening (before ++ x ∷ []) log _ o keeps last es rs
    (subst (Follows opening) (sym (append_assoc before (x ∷ []) log)) h) (sym (core_push opening before x)) rest)

pub calls_and_processors : CallsAndProcessors
calls_and_processors opening log m keeps last events replies h all together =
    shootdowns_make_events opening m keeps last events replies h.opened all
    (steps_of opening [] log (settled _ nobody opening) m keeps last events replies h refl together)
