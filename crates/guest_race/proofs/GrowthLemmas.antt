-- What the calls of a CPU leave among its entries.
use Rattle.std.proofs.Common.{◌≡◌, ◌∙◌, ℕ, List, [], ◌∷◌, ◌++◌, refl, sym, ap, subst, append_assoc, append-nil}
use Rattle.std.specs.Prelude.{⊤, map, Ok, Err}
use Rattle.std.proofs.lemmas.List.{map-append}
use Rattle.guest_cpu.specs.Ports.{Answer, Chain, none, call}
use Rattle.kernel_calls.specs.declared.calls.Call.{Call}
use Rattle.kernel_calls.specs.declared.calls.Event.{Event}
use Rattle.kernel_calls.specs.declared.calls.Reply.{Reply}
use Rattle.locked_core.specs.Makers.{Maker, Makes, IsMade}
use Rattle.locked_core.specs.Names.{Names}
use Rattle.locked_core.specs.Ports.{IsCpuStep}
use Rattle.memory_report.specs.Histories.{entries_of, event_of, events_of, replies_of}
use Rattle.memory_report.specs.declared.entries.LogEntry.{LogEntry}
use Rattle.guest_race.specs.Rounds.{made_by}

event_made : {frames : ℕ} {before after : Maker} {p : ℕ} {c : Call} {reply : Reply} {between : List LogEntry} {e : LogEntry} (event : Event) → IsMade frames before p c reply after between e
    → event.cpu ≡ before.number → event.pid ≡ p → event.call ≡ c → event_of e ≡ event
event_made event made on by of = rw (made.by_cpu, made.for_process, made.of_call, sym on, sym by, sym of) refl

-- one call of a CPU
pub call_made : (frames : ℕ) (before after : Maker) (event : Event) (reply : Reply) → event.cpu ≡ before.number → after.number ≡ before.number → Makes frames before event.pid event.call after reply
    → made_by after ≡ made_by before ++ event ∷ []
call_made frames before after event reply cpu number made =
    ap (λ n. events_of (entries_of n after.seen)) number
    ∙ ap events_of made.2.own
    ∙ map-append event_of (entries_of before.number before.seen) (made.1 ∷ [])
    ∙ ap (λ (one : Event). made_by before ++ one ∷ []) (event_made event made.2 cpu refl refl)

-- ---- Events of one CPU, and answers that are replies

abbrev pub AllBy : ℕ → List Event → Type 0
AllBy n [] = ⊤
AllBy n (event ∷ events) = (event.cpu ≡ n) × AllBy n events

pub by_both : (n : ℕ) (xs ys : List Event) → AllBy n xs → AllBy n ys → AllBy n (xs ++ ys)
by_both n [] ys these those = those
by_both n (x ∷ xs) ys these those = (these.0, by_both n xs ys these.1 those)

by_first : (n : ℕ) (xs ys : List Event) → AllBy n (xs ++ ys) → AllBy n xs
by_first n [] ys all = tt
by_first n (x ∷ xs) ys all = (all.0, by_first n xs ys all.1)

abbrev IsReply : Answer → Type 0
IsReply (Ok reply) = ⊤
IsReply (Err fault) = ⊥

abbrev pub AllReplies : List Answer → Type 0
AllReplies [] = ⊤
AllReplies (answer ∷ answers) = IsReply answer × AllReplies answers

pub replies_both : (xs ys : List Answer) → AllReplies xs → AllReplies ys → AllReplies (xs ++ ys)
replies_both [] ys these those = those
replies_both (x ∷ xs) ys these those = (these.0, replies_both xs ys these.1 those)

replies_first : (xs ys : List Answer) → AllReplies (xs ++ ys) → AllReplies xs
replies_first [] ys all = tt
replies_first (x ∷ xs) ys all = (all.0, replies_first xs ys all.1)

replies_second : (xs ys : List Answer) → AllReplies (xs ++ ys) → AllReplies ys
replies_second [] ys all = all
replies_second (x ∷ xs) ys all = replies_second xs ys all.1

-- ---- A chain of answered calls

-- what a CPU made beside what it had made
pub record Grown (n : ℕ) (had : List LogEntry) (cpu : Maker) (events : List Event) (answers : List Answer) : Type 0 where
  pub number : cpu.number ≡ n
  pub made : List LogEntry
  pub own : entries_of n cpu.seen ≡ entries_of n had ++ made
  pub events_are : events_of made ≡ events
  pub answers_are : map Ok (replies_of made) ≡ answers

one_more : (n : ℕ) (had : List LogEntry) (at cpu : Maker) (events : List Event) (answers : List Answer) (event : Event) (reply : Reply) (e : LogEntry) → Grown n had at events answers
    → cpu.number ≡ at.number → entries_of n cpu.seen ≡ entries_of n at.seen ++ e ∷ [] → event_of e ≡ event → e.reply ≡ reply → Grown n had cpu (events ++ event ∷ []) (answers ++ Ok reply ∷ [])
one_more n had at cpu events answers event reply e grew number own is told = record {
  number = number ∙ grew.number;
  made = grew.made ++ e ∷ [];
  own = own ∙ ap (λ l. l ++ e ∷ []) grew.own ∙ append_assoc (entries_of n had) grew.made (e ∷ []);
  events_are = map-append event_of grew.made (e ∷ []) ∙ rw (grew.events_are, is) refl;
  answers_are = ap (map Ok) (map-append (λ x. x.reply) grew.made (e ∷ [])) ∙ map-append Ok (replies_of grew.made) (e.reply ∷ []) ∙ rw (grew.answers_are, told) refl;
}

pub grown : (frames : ℕ) (book : Names) (n : ℕ) {start end : Maker} {events : List Event} {answers : List Answer} → Chain (IsCpuStep frames book) start events answers end → start.number ≡ n → AllBy n events → AllReplies answers
    → Grown n start.seen end events answers
grown frames book n {start} none number by all = record {
  number = number;
  made = [];
  own = sym (append-nil (entries_of n start.seen));
  events_are = refl;
  answers_are = refl;
}
grown frames book n {start} (call {t = at} {u = last} {events = events} {answers = answers} {event = event} {answer = answer} chain step) number by all =
    go answer step (replies_second answers (answer ∷ []) all).0 (grown frames book n chain number (by_first n events (event ∷ []) by) (replies_first answers (answer ∷ []) all))
  where
    go : (a : Answer) → IsCpuStep frames book at event a last → IsReply a → Grown n start.seen at events answers → Grown n start.seen last (events ++ event ∷ []) (answers ++ a ∷ [])
    go (Err fault) made is grew = absurd is
    go (Ok reply) made is grew =
        let e = made.2.1 in
        let m = made.2.2 in
        one_more n start.seen at last events answers event reply e grew made.1
        (subst (λ k. entries_of k last.seen ≡ entries_of k at.seen ++ e ∷ []) grew.number m.own) (event_made event m made.0 refl refl) m.with_reply
