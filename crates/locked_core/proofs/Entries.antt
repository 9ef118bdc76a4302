-- The entry of one call, and what it leaves of the log and of what is published.
use Rattle.std.proofs.Common.{◌≡◌, ℕ, ◌+◌, ◌≤◌, ◌==◌, List, [], ◌∷◌, ◌++◌, length, Bool, true, false, refl, sym, ap, ◌∙◌, subst, arith, length-append, eq-eqb, le_refl}
use Rattle.std.specs.Prelude.{filter, cond}
use Rattle.std.proofs.lemmas.List.Elements.{filter-append}
use Rattle.kernel_calls.specs.Decisions.{charge_after}
use Rattle.kernel_calls.specs.Machine.{answer, next}
use Rattle.kernel_calls.specs.declared.calls.Call.{Call}
use Rattle.kernel_calls.specs.declared.calls.Event.{Event}
use Rattle.memory_report.proofs.HistoryLemmas.{empty_is_legal, grows_legal, state-push}
use Rattle.memory_report.specs.Histories.{Legal, state_after, entries_of, calls_of, entry_after}
use Rattle.memory_report.specs.declared.entries.LogEntry.{LogEntry}
use Rattle.process_table.specs.State.{State, open_with}
use Rattle.kernel_calls.specs.declared.calls.Reply.{Reply}
use Rattle.locked_core.proofs.Prefixes.{same_entries}
use Rattle.locked_core.specs.Held.{UnderLock}
use Rattle.locked_core.specs.Makers.{Maker, Makes}
use Rattle.memory_report.specs.Histories.{StartsWith}

-- no call was made yet
pub legal_opening : (frames : ℕ) (log : List LogEntry) (core : State) → 16 ≤ frames → frames ≤ 1048576 → log ≡ [] → core ≡ open_with frames → Legal frames log × (core ≡ state_after frames log)
legal_opening frames log core low high none is = (subst (Legal frames) (sym none) (empty_is_legal frames low high), is ∙ ap (state_after frames) (sym none))

-- a CPU has no more entries than there are
pub calls_few : (cpu : ℕ) (log : List LogEntry) → calls_of cpu log ≤ length log
calls_few cpu [] = le_refl 0
calls_few cpu (e ∷ es) = by_case (e.cpu == cpu) (calls_few cpu es)
  where
    by_case : (b : Bool) → calls_of cpu es ≤ length es → length (cond b (e ∷ entries_of cpu es) (entries_of cpu es)) ≤ length (e ∷ es)
    by_case true h = omega arith
    by_case false h = omega arith

-- what is logged of a call as it was answered and charged
pub entry_is : (frames : ℕ) (log : List LogEntry) (core : State) (nth : ℕ) (event : Event) (reply : Reply) (used : ℕ) (e : LogEntry) → core ≡ state_after frames log → nth ≡ calls_of event.cpu log
    → reply ≡ answer core event → used ≡ charge_after core event → e ≡ record { cpu = event.cpu; nth = nth; pid = event.pid; call = event.call; reply = reply; used_after = used }
    → e ≡ entry_after frames log event.cpu event.pid event.call
entry_is frames log core nth event reply used e at count answered charged is =
    let r : reply ≡ answer (state_after frames log) event = answered ∙ ap (λ (s : State). answer s event) at in
    let u : used ≡ charge_after (state_after frames log) event = charged ∙ ap (λ (s : State). charge_after s event) at in
    is ∙ (λ i. record { cpu = event.cpu; nth = count i; pid = event.pid; call = event.call; reply = r i; used_after = u i })

-- the entries of one CPU, with one more
pub entries_push : (cpu : ℕ) (log : List LogEntry) (e : LogEntry) → e.cpu ≡ cpu → entries_of cpu (log ++ e ∷ []) ≡ entries_of cpu log ++ e ∷ []
entries_push cpu log e mine =
    let P : LogEntry → Bool = λ x. x.cpu == cpu in
    let one : filter P (e ∷ []) ≡ e ∷ [] = ap (λ b. cond b (e ∷ []) []) (eq-eqb e.cpu cpu mine) in
    filter-append P log (e ∷ []) ∙ ap (λ l. entries_of cpu log ++ l) one

pub calls_push : (cpu : ℕ) (log : List LogEntry) (e : LogEntry) → e.cpu ≡ cpu → calls_of cpu (log ++ e ∷ []) ≡ calls_of cpu log + 1
calls_push cpu log e mine = ap length (entries_push cpu log e mine) ∙ length-append (entries_of cpu log) (e ∷ [])

-- what one call leaves
pub record IsLogged (frames : ℕ) (log new : List LogEntry) (now : State) (cpu pid : ℕ) (call : Call) : Type 0 where
  pub legal : Legal frames new
  pub stands : now ≡ state_after frames new
  pub grown : new ≡ log ++ entry_after frames log cpu pid call ∷ []
  pub calls : calls_of cpu new ≡ calls_of cpu log + 1

pub logged : (frames : ℕ) (log new : List LogEntry) (core now : State) (cpu pid : ℕ) (call : Call) (e : LogEntry) → Legal frames log → core ≡ state_after frames log → e ≡ entry_after frames log cpu pid call
    → new ≡ log ++ e ∷ [] → now ≡ next core (record { cpu = cpu; pid = pid; call = call }) → IsLogged frames log new now cpu pid call
logged frames log new core now cpu pid call e legal at is grown moved =
    let event : Event = record { cpu = cpu; pid = pid; call = call } in
    let by : new ≡ log ++ entry_after frames log cpu pid call ∷ [] = grown ∙ ap (λ (x : LogEntry). log ++ x ∷ []) is in
    record {
      legal = subst (Legal frames) (sym by) (grows_legal frames log cpu pid call legal);
      stands = moved ∙ ap (λ (s : State). next s event) at ∙ sym (state-push frames log (entry_after frames log cpu pid call)) ∙ ap (state_after frames) (sym by);
      grown = by;
      calls = ap (calls_of cpu) by ∙ calls_push cpu log (entry_after frames log cpu pid call) refl;
    }

-- what a CPU has seen after a call that was judged on the log and carried out on it
pub makes : (frames : ℕ) (before after : Maker) (pid : ℕ) (call : Call) (reply : Reply) (event : Event) (log new : List LogEntry) → event ≡ record { cpu = before.number; pid = pid; call = call }
    → StartsWith log before.seen × (calls_of before.number log ≡ calls_of before.number before.seen) → Legal frames new → new ≡ log ++ entry_after frames log event.cpu event.pid event.call ∷ []
    → reply ≡ (entry_after frames log event.cpu event.pid event.call).reply → after.seen ≡ new → Makes frames before pid call after reply
makes frames before after pid call reply event log new of fits legal grown told seen =
    let cpu = before.number in
    let e : LogEntry = entry_after frames log cpu pid call in
    let by : after.seen ≡ log ++ e ∷ [] = seen ∙ (grown ∙ ap (λ (x : Event). log ++ entry_after frames log x.cpu x.pid x.call ∷ []) of) in (
      fits.0.0,
      e,
      record {
        legal = subst (Legal frames) (sym seen) legal;
        grown = by ∙ ap (λ l. l ++ e ∷ []) fits.0.1;
        by_cpu = refl;
        for_process = refl;
        of_call = refl;
        with_reply = sym (told ∙ ap (λ (x : Event). (entry_after frames log x.cpu x.pid x.call).reply) of);
        own = ap (entries_of cpu) by ∙ (entries_push cpu log e refl ∙ ap (λ l. l ++ e ∷ []) (same_entries cpu log before.seen fits.0 fits.1));
      },
    )

-- the core is in the state after the log, which is a legal history
abbrev pub Stands : ℕ → UnderLock → Type 0
Stands frames h = Legal frames h.log × (h.core.state ≡ state_after frames h.log)

-- the entry of a call that was judged ends a legal history
pub judged : (frames : ℕ) (h : UnderLock) (nth : ℕ) (event : Event) (reply : Reply) (used : ℕ) (e : LogEntry) → Stands frames h → nth ≡ calls_of event.cpu h.log
    → reply ≡ answer h.core.state event → used ≡ charge_after h.core.state event → e ≡ record { cpu = event.cpu; nth = nth; pid = event.pid; call = event.call; reply = reply; used_after = used }
    → (e ≡ entry_after frames h.log event.cpu event.pid event.call) × Legal frames (h.log ++ e ∷ [])
judged frames h nth event reply used e stands count answered charged is =
    let same : e ≡ entry_after frames h.log event.cpu event.pid event.call = entry_is frames h.log h.core.state nth event reply used e stands.1 count answered charged is in
    (same, subst (λ (x : LogEntry). Legal frames (h.log ++ x ∷ [])) (sym same) (grows_legal frames h.log event.cpu event.pid event.call stands.0))
