use Rattle.std.proofs.Common.{◌≡◌, ◌∙◌, ◌<◌, refl, ap, sym, subst, ℕ, List}
use Rattle.std.specs.Prelude.{if◌then◌else◌}
use Rattle.std.proofs.lemmas.List.Elements.{All-push}
use Rattle.kernel_calls.specs.Machine.{answer, completes}
use Rattle.kernel_calls.specs.Translations.{ended_by, Ends}
use Rattle.kernel_calls.specs.declared.calls.Event.{Event}
use Rattle.kernel_calls.specs.declared.translations.Ended.{Ended}
use Rattle.kernel_calls.specs.declared.translations.Ended.TheVariants as end
use Rattle.locked_core.proofs.Entries.{makes}
use Rattle.locked_core.proofs.Moments.{begins_push}
use Rattle.locked_core.specs.Held.{UnderLock}
use Rattle.locked_core.specs.Makers.{AreOfCpus, Maker}
use Rattle.locked_core.specs.Moments.{Begins, Follows, entries_in, moment}
use Rattle.locked_core.specs.declared.moment.Moment.{Moment}
use Rattle.process_table.specs.State.{State}
use Rattle.process_table.specs.View.{View}
use Rattle.memory_report.proofs.GuardedHistories.{histories_guarded}
use Rattle.memory_report.proofs.IsolatedHistories.{histories_isolated}
use Rattle.memory_report.specs.Histories.{AreGuarded, AreIsolated, StartsWith, calls_of, entry_after, state_after}
use Rattle.memory_report.specs.declared.entries.LogEntry.{LogEntry}
use Rattle.locked_core.proofs.locked.Locked.make.Goals as goal

-- the core and the log are those that the call was judged on
pub returns-clause-made : goal.returns-clause-made
returns-clause-made g c =
    let before : Maker = c.args.cpu.now in
    let judged = c.in_ok-ready.ensures in
    let done = c.in_ok-reply.ensures in
    let fits = subst (λ (h : UnderLock). StartsWith h.log before.seen × (calls_of before.number h.log ≡ calls_of before.number before.seen)) (sym judged.same.0) judged.fits in
    makes g.N.Name.frames before c.carry_out.new.cpu c.args.asked.pid c.args.asked.call c.in_ok-reply.reply c.in_ok-ready.ready.event c.judge.new.self.log c.carry_out.new.self.log
    judged.event fits done.legal done.log done.reply (ap (λ (m : Maker). m.seen) done.made ∙ done.told.1)

-- what was asked of the core under the lock is what the call ended in that very core
pub returns-clause-ended : goal.returns-clause-ended
returns-clause-ended g c = λ asks.
    let done = c.in_ok-reply.ensures in
    let held : UnderLock = c.judge.new.self in
    let event : Event = c.in_ok-ready.ready.event in
    let opening : View = g.N.Name.book.opening in
    let stands = c.may_end-ended.ensures.stands in
    let reply : c.in_ok-reply.reply ≡ answer held.core.state event = done.reply ∙ ap (λ (s : State). answer s event) (sym stands) in
    let told : c.if_completed-ended.result ≡ ended_by held.core event =
    c.if_completed-ended.ensures ∙ (λ i. if completes (reply i) then c.may_end-ended.ensures.asked asks i else end.Nothing) in
    let seen : c.carry_out.new.cpu.seen ≡ c.carry_out.new.self.log = ap (λ (m : Maker). m.seen) done.made ∙ done.told.1 in
    record {
      before = held.moments;
      last = moment (entry_after g.N.Name.frames held.log event.cpu event.pid event.call) c.carry_out.new.self.core;
      grown = ap (λ (m : Maker). m.moments) done.made ∙ done.moments;
      stood = ap (λ (v : View). v.state) done.left ∙ stands ∙ ap (state_after g.N.Name.frames) (sym done.told.0);
      stands = done.state ∙ ap (state_after g.N.Name.frames) (sym seen);
      told = told ∙ ap (λ (v : View). ended_by v event) (sym done.left);
      ends = subst (λ (t : Ended × View). Ends t.0 t.1 c.carry_out.new.self.core) (λ i. (sym told i, sym done.left i)) done.ends;
    }

-- it has seen the moments under the lock, of which it had seen a beginning
pub returns-clause-followed : goal.returns-clause-followed
returns-clause-followed g c =
    let before : Maker = c.args.cpu.now in
    let judged = c.in_ok-ready.ensures in
    let done = c.in_ok-reply.ensures in
    let moments : c.carry_out.new.cpu.moments ≡ c.carry_out.new.self.moments = ap (λ (m : Maker). m.moments) done.made in
    let began : Begins c.judge.new.self.moments before.moments = subst (λ (h : UnderLock). Begins h.moments before.moments) (sym judged.same.0) judged.begins in
    record {
      entries = subst (λ (m : Maker). entries_in m.moments ≡ m.seen) (sym done.made) refl;
      begins = subst (λ (l : List Moment). Begins l before.moments) (sym (moments ∙ done.moments)) (begins_push c.judge.new.self.moments before.moments _ began);
      follows = subst (Follows g.N.Name.book.opening) (sym moments) done.follows;
    }

-- the log began with what it had received
pub returns-clause-learned : goal.returns-clause-learned
returns-clause-learned g c =
    let before : Maker = c.args.cpu.now in
    let judged = c.in_ok-ready.ensures in
    let done = c.in_ok-reply.ensures in
    let moments : c.carry_out.new.cpu.moments ≡ c.carry_out.new.self.moments = ap (λ (m : Maker). m.moments) done.made in
    let began : Begins c.judge.new.self.moments before.told = subst (λ (h : UnderLock). Begins h.moments before.told) (sym judged.same.0) judged.told in
    subst (λ (l : List Moment). Begins l before.told) (sym (moments ∙ done.moments)) (begins_push c.judge.new.self.moments before.told _ began)

-- what it has seen is the log with its entry, which is a legal history
pub returns-clause-isolated : goal.returns-clause-isolated
returns-clause-isolated g c =
    let done = c.in_ok-reply.ensures in
    let seen : c.carry_out.new.cpu.seen ≡ c.carry_out.new.self.log = ap (λ (m : Maker). m.seen) done.made ∙ done.told.1 in
    subst (AreIsolated g.N.Name.frames) (sym seen) (histories_isolated g.N.Name.frames c.carry_out.new.self.log done.legal)

pub returns-clause-guarded : goal.returns-clause-guarded
returns-clause-guarded g c =
    let done = c.in_ok-reply.ensures in
    let seen : c.carry_out.new.cpu.seen ≡ c.carry_out.new.self.log = ap (λ (m : Maker). m.seen) done.made ∙ done.told.1 in
    subst (AreGuarded g.N.Name.frames) (sym seen) (histories_guarded g.N.Name.frames c.carry_out.new.self.log done.legal)

-- each entry of the log is of one of the kernel's CPUs, and so is the new one
pub returns-clause-cpus : goal.returns-clause-cpus
returns-clause-cpus g c =
    let judged = c.in_ok-ready.ensures in
    let done = c.in_ok-reply.ensures in
    let event : Event = c.in_ok-ready.ready.event in
    let parts : ℕ = g.N.Name.book.parts in
    let seen : c.carry_out.new.cpu.seen ≡ c.carry_out.new.self.log = ap (λ (m : Maker). m.seen) done.made ∙ done.told.1 in
    let had : AreOfCpus parts c.judge.new.self.log = subst (λ (h : UnderLock). AreOfCpus parts h.log) (sym judged.same.0) judged.cpus in
    let part : event.cpu < parts = subst (λ n. n < parts) (sym (ap (λ (e : Event). e.cpu) judged.event)) judged.part in
    subst (AreOfCpus parts) (sym (seen ∙ done.log)) (All-push (λ (x : LogEntry). x.cpu < parts) c.judge.new.self.log (entry_after g.N.Name.frames c.judge.new.self.log event.cpu event.pid event.call) had part)
