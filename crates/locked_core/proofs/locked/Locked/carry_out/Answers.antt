-- What a call that was judged leaves under the lock.
use Rattle.std.proofs.Common.{◌≡◌, ◌+◌, ◌<◌, ℕ, List, [], ◌∷◌, ◌++◌, length, length-append, arith, sym, ap, ◌∙◌, subst}
use Rattle.std.proofs.Math.ListN.{get_or, set}
use Rattle.std.proofs.lemmas.List.Elements.{All-push}
use Rattle.kernel_calls.specs.Decisions.{charge_after}
use Rattle.kernel_calls.specs.Machine.{answer, next}
use Rattle.kernel_calls.specs.declared.calls.Event.{Event}
use Rattle.locked_core.proofs.CatchingUp.{lags_more}
use Rattle.locked_core.proofs.Counting.{counted_push}
use Rattle.locked_core.proofs.Entries.{Stands, judged, logged}
use Rattle.locked_core.proofs.Moments.{core_push, entries_append, follows_more}
use Rattle.locked_core.specs.Held.{UnderLock}
use Rattle.locked_core.specs.Makers.{AreOfCpus}
use Rattle.locked_core.specs.Moments.{Follows, core_after, entries_in, moment}
use Rattle.locked_core.specs.declared.moment.Moment.{Moment}
use Rattle.shootdowns.specs.Windows.{Begins}
use Rattle.process_table.specs.View.{View}
use Rattle.locked_core.specs.Pages.{LagsBehind, Page, page}
use Rattle.memory_report.specs.Histories.{Legal, event_of}
use Rattle.memory_report.specs.declared.entries.LogEntry.{LogEntry}
use Rattle.locked_core.proofs.locked.Locked.carry_out.Goals as goal

-- the side that is not published is of this kernel
pub keep_up-requires-clause-legal : goal.keep_up-requires-clause-legal
keep_up-requires-clause-legal g c =
    let h : UnderLock = c.args.self.now in
    let event : Event = c.args.ready.event in
    let e : LogEntry = c.entry_of-entry.result in
    let stands = subst (Stands g.N.Name.frames) c.self.view_is (c.self.invariant.legal, c.self.invariant.stands) in
    let ends = judged g.N.Name.frames h c.args.ready.nth event c.perform-outcome.result.reply c.perform-outcome.result.used_after e stands c.requires.nth.1 (c.perform-outcome.ensures.reply ∙ ap (λ (k : UnderLock). answer k.core.state event) c.self.view_is) (c.perform-outcome.ensures.charge ∙ ap (λ (k : UnderLock). charge_after k.core.state event) c.self.view_is) c.entry_of-entry.ensures in
    let grown : c.push.new.self.entries ≡ h.log ++ e ∷ [] = c.push.ensures.entries ∙ ap (λ l. l ++ e ∷ []) (c.reserve.ensures.entries ∙ ap (λ (k : UnderLock). k.log) c.self.view_is) in
    let legal : Legal g.N.Name.frames c.push.new.self.entries = subst (Legal g.N.Name.frames) (sym grown) ends.1 in
    rw (c.self.invariant.spare.frames) legal

-- and the side that is published, as a page that lags behind one entry more
pub keep_up-requires-clause-shown : goal.keep_up-requires-clause-shown
keep_up-requires-clause-shown g c =
    let e : LogEntry = c.entry_of-entry.result in
    let new : List LogEntry = c.push.new.self.entries in
    let longer : new ≡ c.self.inside.log.entries ++ e ∷ [] = c.push.ensures.entries ∙ ap (λ l. l ++ e ∷ []) c.reserve.ensures.entries in
    let book_is : c.all-all.result.book ≡ g.N.Name.book.history = c.all-all.ensures.1 in
    let page_is : page c.self.inside.writer.desk.spare.value.frames c.all-all.result.book new ≡ page g.N.Name.frames g.N.Name.book.history new = λ i. page (c.self.invariant.spare.frames i) (book_is i) new in
    subst (LagsBehind c.self.inside.writer.desk.shown.value) (sym page_is) (lags_more g.N.Name.frames g.N.Name.book.history c.self.inside.log.entries new e c.self.inside.writer.desk.shown.value c.self.invariant.lags longer)

pub invariant_of-self-2 : goal.invariant_of-self-2
invariant_of-self-2 g c =
    let h : UnderLock = c.args.self.now in
    let event : Event = c.args.ready.event in
    let e : LogEntry = c.entry_of-entry.result in
    let new : List LogEntry = c.push.new.self.entries in
    let stands = subst (Stands g.N.Name.frames) c.self.view_is (c.self.invariant.legal, c.self.invariant.stands) in
    let ends = judged g.N.Name.frames h c.args.ready.nth event c.perform-outcome.result.reply c.perform-outcome.result.used_after e stands c.requires.nth.1 (c.perform-outcome.ensures.reply ∙ ap (λ (k : UnderLock). answer k.core.state event) c.self.view_is) (c.perform-outcome.ensures.charge ∙ ap (λ (k : UnderLock). charge_after k.core.state event) c.self.view_is) c.entry_of-entry.ensures in
    let longer : new ≡ c.self.inside.log.entries ++ e ∷ [] = c.push.ensures.entries ∙ ap (λ l. l ++ e ∷ []) c.reserve.ensures.entries in
    let grown : new ≡ h.log ++ e ∷ [] = longer ∙ ap (λ (k : UnderLock). k.log ++ e ∷ []) c.self.view_is in
    let moved : c.perform-outcome.new.self.state ≡ next h.core.state event = c.perform-outcome.ensures.state ∙ ap (λ (k : UnderLock). next k.core.state event) c.self.view_is in
    let all = logged g.N.Name.frames h.log new h.core.state c.perform-outcome.new.self.state event.cpu event.pid event.call e stands.0 stands.1 ends.0 grown moved in
    let book_is : c.all-all.result.book ≡ g.N.Name.book.history = c.all-all.ensures.1 in
    let page_is : page c.self.inside.writer.desk.spare.value.frames c.all-all.result.book new ≡ page g.N.Name.frames g.N.Name.book.history new = λ i. page (c.self.invariant.spare.frames i) (book_is i) new in
    let core : View = c.perform-outcome.new.self in
    let had : List Moment = c.self.inside.head in
    let longer2 : c.push.new.self.entries ≡ c.self.inside.log.entries ++ e ∷ [] = c.push.ensures.entries ∙ ap (λ l. l ++ e ∷ []) c.reserve.ensures.entries in
    let told : entries_in c.add.new.self ≡ c.push.new.self.entries = ap entries_in c.add.ensures ∙ (entries_append had (moment e core ∷ []) ∙ (ap (λ l. l ++ e ∷ []) c.self.invariant.told ∙ sym longer2)) in
    let mine : event_of e ≡ event = ap event_of c.entry_of-entry.ensures in
    let later = c.stands.ensures in
    let done = c.perform-outcome.ensures in
    let replied : e.reply ≡ answer c.self.inside.core.state event = ap (λ (x : LogEntry). x.reply) c.entry_of-entry.ensures ∙ done.reply in
    let begins : Begins c.self.inside.core event e.reply core = record {
      carried = record {
        reply = replied;
        state = done.state;
        ends = done.ends;
        core = later.core;
      };
      stay = done.stay;
      loose = done.loose;
    } in
    let follows : Follows g.N.Name.book.opening c.add.new.self = subst (Follows g.N.Name.book.opening) (sym c.add.ensures)
    (follows_more g.N.Name.book.opening had c.self.inside.core core event e c.self.invariant.follows c.self.invariant.left mine begins) in record {
      legal = all.legal;
      stands = all.stands;
      told = told;
      left = ap (core_after g.N.Name.book.opening) c.add.ensures ∙ core_push g.N.Name.book.opening had (moment e core);
      follows = follows;
      opened = c.self.invariant.opened;
      tallied =
          (let mine : event.cpu ≡ c.args.cpu.now.number = c.requires.own.0 in
          let by : e.cpu ≡ event.cpu = ap (λ (x : LogEntry). x.cpu) c.entry_of-entry.ensures in
          let counts : List ℕ = c.self.inside.tally in
          let small : e.cpu < 8 = subst (λ n. n < 8) (sym by) c.requires.nth.0 in
          c.made.ensures.tallied ∙ (ap (λ n. set counts n (get_or counts n 0 + 1)) (sym (by ∙ mine)) ∙ counted_push c.self.inside.log.entries new e counts c.self.invariant.tallied small longer));
      cpus =
          (let by : e.cpu ≡ event.cpu = ap (λ (x : LogEntry). x.cpu) c.entry_of-entry.ensures in
          let part : e.cpu < g.N.Name.book.parts = subst (λ n. n < g.N.Name.book.parts) (sym by) c.requires.part in
          subst (AreOfCpus g.N.Name.book.parts) (sym longer) (All-push (λ (x : LogEntry). x.cpu < g.N.Name.book.parts) c.self.inside.log.entries e c.self.invariant.cpus part));
      counted =
          (let one_more = c.made.ensures.counted in let had = c.self.invariant.counted in let more : length new ≡ length (c.self.inside.log.entries ++ e ∷ []) = ap length longer in
          omega (arith, length-append c.self.inside.log.entries (e ∷ [])));
      mine = c.keep_up.ensures.view ∙ c.self.invariant.mine;
      shown = λ watched. c.keep_up.ensures.watched watched ∙ page_is;
      lags = subst (LagsBehind c.keep_up.new.writer.desk.shown.value) page_is c.keep_up.ensures.shown;
      spare = subst (LagsBehind c.keep_up.new.writer.desk.spare.value) page_is c.keep_up.ensures.spare;
      near =
          λ watched.
          (let more : length new ≡ length (c.self.inside.log.entries ++ e ∷ []) = ap length longer in
          let behind = ap (λ (p : Page). length p.log) (c.keep_up.ensures.behind watched ∙ c.self.invariant.shown watched) in
          omega (arith, length-append c.self.inside.log.entries (e ∷ [])));
      keeps_named = c.push.ensures.keeps ∙ (c.reserve.ensures.keeps ∙ c.self.invariant.keeps_named);
      keeps_two = c.self.invariant.keeps_two;
    }

-- what the history has is the log
pub keep_up-requires-clause-seen : goal.keep_up-requires-clause-seen
keep_up-requires-clause-seen g c =
    let e : LogEntry = c.entry_of-entry.result in
    let core : View = c.perform-outcome.new.self in
    let had : List Moment = c.self.inside.head in
    let longer : c.push.new.self.entries ≡ c.self.inside.log.entries ++ e ∷ [] = c.push.ensures.entries ∙ ap (λ l. l ++ e ∷ []) c.reserve.ensures.entries in
    let told : entries_in c.add.new.self ≡ c.push.new.self.entries = ap entries_in c.add.ensures ∙ (entries_append had (moment e core ∷ []) ∙ (ap (λ l. l ++ e ∷ []) c.self.invariant.told ∙ sym longer)) in
    ap entries_in c.all-all.ensures.0 ∙ told

-- the side that is not published lacks the last two entries, which the log keeps
pub keep_up-requires-clause-kept : goal.keep_up-requires-clause-kept
keep_up-requires-clause-kept g c = λ watched.
    let e : LogEntry = c.entry_of-entry.result in
    let longer : c.push.new.self.entries ≡ c.self.inside.log.entries ++ e ∷ [] = c.push.ensures.entries ∙ ap (λ l. l ++ e ∷ []) c.reserve.ensures.entries in
    let more = ap length longer ∙ length-append c.self.inside.log.entries (e ∷ []) in
    let near = c.self.invariant.near watched in
    let keeps = c.push.ensures.keeps ∙ (c.reserve.ensures.keeps ∙ c.self.invariant.keeps_named) in
    let two = c.self.invariant.keeps_two in
    omega arith

-- what is logged is what was added to the history
pub push-requires-clause-all : goal.push-requires-clause-all
push-requires-clause-all g c =
    let e : LogEntry = c.entry_of-entry.result in
    let core : View = c.perform-outcome.new.self in
    let had : List Moment = c.self.inside.head in
    ap entries_in c.all-all.ensures.0 ∙ (ap entries_in c.add.ensures ∙ (entries_append had (moment e core ∷ []) ∙ ap (λ l. l ++ e ∷ []) (c.self.invariant.told ∙ sym c.reserve.ensures.entries)))

pub front_of-requires-2-clause-all : goal.front_of-requires-2-clause-all
front_of-requires-2-clause-all g c =
    let e : LogEntry = c.entry_of-entry.result in
    let core : View = c.perform-outcome.new.self in
    let had : List Moment = c.self.inside.head in
    let longer : c.push.new.self.entries ≡ c.self.inside.log.entries ++ e ∷ [] = c.push.ensures.entries ∙ ap (λ l. l ++ e ∷ []) c.reserve.ensures.entries in
    let told : entries_in c.add.new.self ≡ c.push.new.self.entries = ap entries_in c.add.ensures ∙ (entries_append had (moment e core ∷ []) ∙ (ap (λ l. l ++ e ∷ []) c.self.invariant.told ∙ sym longer)) in
    told

-- the log with its entry is legal
pub front_of-requires-2-clause-legal : goal.front_of-requires-2-clause-legal
front_of-requires-2-clause-legal g c =
    let h : UnderLock = c.args.self.now in
    let event : Event = c.args.ready.event in
    let e : LogEntry = c.entry_of-entry.result in
    let new : List LogEntry = c.push.new.self.entries in
    let stands = subst (Stands g.N.Name.frames) c.self.view_is (c.self.invariant.legal, c.self.invariant.stands) in
    let ends = judged g.N.Name.frames h c.args.ready.nth event c.perform-outcome.result.reply c.perform-outcome.result.used_after e stands c.requires.nth.1 (c.perform-outcome.ensures.reply ∙ ap (λ (k : UnderLock). answer k.core.state event) c.self.view_is) (c.perform-outcome.ensures.charge ∙ ap (λ (k : UnderLock). charge_after k.core.state event) c.self.view_is) c.entry_of-entry.ensures in
    let grown : new ≡ h.log ++ e ∷ [] = c.push.ensures.entries ∙ ap (λ l. l ++ e ∷ []) c.reserve.ensures.entries ∙ ap (λ (k : UnderLock). k.log ++ e ∷ []) c.self.view_is in
    subst (Legal g.N.Name.frames) (sym grown) ends.1

-- the core is in the state after the log with its entry
pub returns-clause-state : goal.returns-clause-state
returns-clause-state g c =
    let h : UnderLock = c.args.self.now in
    let event : Event = c.args.ready.event in
    let e : LogEntry = c.entry_of-entry.result in
    let new : List LogEntry = c.push.new.self.entries in
    let stands = subst (Stands g.N.Name.frames) c.self.view_is (c.self.invariant.legal, c.self.invariant.stands) in
    let ends = judged g.N.Name.frames h c.args.ready.nth event c.perform-outcome.result.reply c.perform-outcome.result.used_after e stands c.requires.nth.1 (c.perform-outcome.ensures.reply ∙ ap (λ (k : UnderLock). answer k.core.state event) c.self.view_is) (c.perform-outcome.ensures.charge ∙ ap (λ (k : UnderLock). charge_after k.core.state event) c.self.view_is) c.entry_of-entry.ensures in
    let grown : new ≡ h.log ++ e ∷ [] = c.push.ensures.entries ∙ ap (λ l. l ++ e ∷ []) c.reserve.ensures.entries ∙ ap (λ (k : UnderLock). k.log ++ e ∷ []) c.self.view_is in
    let moved : c.perform-outcome.new.self.state ≡ next h.core.state event = c.perform-outcome.ensures.state ∙ ap (λ (k : UnderLock). next k.core.state event) c.self.view_is in
    (logged g.N.Name.frames h.log new h.core.state c.perform-outcome.new.self.state event.cpu event.pid event.call e stands.0 stands.1 ends.0 grown moved).stands

-- the history with its moment
pub returns-clause-moments : goal.returns-clause-moments
returns-clause-moments g c =
    let h : UnderLock = c.args.self.now in
    let event : Event = c.args.ready.event in
    let e : LogEntry = c.entry_of-entry.result in
    let core : View = c.perform-outcome.new.self in
    let stands = subst (Stands g.N.Name.frames) c.self.view_is (c.self.invariant.legal, c.self.invariant.stands) in
    let ends = judged g.N.Name.frames h c.args.ready.nth event c.perform-outcome.result.reply c.perform-outcome.result.used_after e stands c.requires.nth.1 (c.perform-outcome.ensures.reply ∙ ap (λ (k : UnderLock). answer k.core.state event) c.self.view_is) (c.perform-outcome.ensures.charge ∙ ap (λ (k : UnderLock). charge_after k.core.state event) c.self.view_is) c.entry_of-entry.ensures in
    let had : c.self.inside.head ≡ h.moments = ap (λ (k : UnderLock). k.moments) c.self.view_is in
    c.add.ensures ∙ (λ i. had i ++ moment (ends.0 i) core ∷ [])

pub returns-clause-told : goal.returns-clause-told
returns-clause-told g c =
    let e : LogEntry = c.entry_of-entry.result in
    let core : View = c.perform-outcome.new.self in
    let had : List Moment = c.self.inside.head in
    let longer : c.push.new.self.entries ≡ c.self.inside.log.entries ++ e ∷ [] = c.push.ensures.entries ∙ ap (λ l. l ++ e ∷ []) c.reserve.ensures.entries in
    let told : entries_in c.add.new.self ≡ c.push.new.self.entries = ap entries_in c.add.ensures ∙ (entries_append had (moment e core ∷ []) ∙ (ap (λ l. l ++ e ∷ []) c.self.invariant.told ∙ sym longer)) in
    (subst (λ (k : UnderLock). entries_in k.moments ≡ k.log) c.self.view_is c.self.invariant.told, told)

pub returns-clause-left : goal.returns-clause-left
returns-clause-left g c = subst (λ (k : UnderLock). core_after g.N.Name.book.opening k.moments ≡ k.core) c.self.view_is c.self.invariant.left

pub returns-clause-follows : goal.returns-clause-follows
returns-clause-follows g c =
    let event : Event = c.args.ready.event in
    let e : LogEntry = c.entry_of-entry.result in
    let core : View = c.perform-outcome.new.self in
    let had : List Moment = c.self.inside.head in
    let mine : event_of e ≡ event = ap event_of c.entry_of-entry.ensures in
    let later = c.stands.ensures in
    let done = c.perform-outcome.ensures in
    let replied : e.reply ≡ answer c.self.inside.core.state event = ap (λ (x : LogEntry). x.reply) c.entry_of-entry.ensures ∙ done.reply in
    let begins : Begins c.self.inside.core event e.reply core = record {
      carried = record {
        reply = replied;
        state = done.state;
        ends = done.ends;
        core = later.core;
      };
      stay = done.stay;
      loose = done.loose;
    } in
    let follows : Follows g.N.Name.book.opening c.add.new.self = subst (Follows g.N.Name.book.opening) (sym c.add.ensures)
    (follows_more g.N.Name.book.opening had c.self.inside.core core event e c.self.invariant.follows c.self.invariant.left mine begins) in
    follows
