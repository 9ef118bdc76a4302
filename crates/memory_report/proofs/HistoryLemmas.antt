-- Laws of histories: what one entry more leaves of their state, and which of them are legal.
use Rattle.std.proofs.Common.{◌≡◌, ◌⊎◌, ℕ, suc, ◌+◌, List, [], ◌∷◌, ◌++◌, take, drop, length, refl, sym, ap, subst, ◌∙◌, arith, inl, inr, append_assoc, length-append}
use Rattle.std.proofs.Math.Seq.{take-append_seam, drop-append_seam}
use Rattle.kernel_calls.specs.Machine.{answer, answers, end_of, next}
use Rattle.kernel_calls.specs.declared.calls.Event.{Event}
use Rattle.kernel_calls.specs.declared.calls.Reply.{Reply}
use Rattle.memory_report.specs.Histories.{event_of, events_of, replies_of, state_after, IsTold, Legal, entry_after}
use Rattle.memory_report.specs.Laws.{EmptyIsLegal, GrowsLegal, BeginsLegal}
use Rattle.memory_report.specs.declared.entries.LogEntry.{LogEntry}
use Rattle.process_table.specs.State.{State, open_with}
use Rattle.kernel_calls.proofs.Runs.{answers-append, end_of-append}

-- ---- Runs, one behind another

length-answers : (s : State) (es : List Event) → length (answers s es) ≡ length es
length-answers s [] = refl
length-answers s (e ∷ es) = ap suc (length-answers (next s e) es)

pub events-append : (log more : List LogEntry) → events_of (log ++ more) ≡ events_of log ++ events_of more
events-append [] more = refl
events-append (e ∷ log) more = ap (λ l. event_of e ∷ l) (events-append log more)

pub replies-append : (log more : List LogEntry) → replies_of (log ++ more) ≡ replies_of log ++ replies_of more
replies-append [] more = refl
replies-append (e ∷ log) more = ap (λ l. e.reply ∷ l) (replies-append log more)

length-events : (log : List LogEntry) → length (events_of log) ≡ length log
length-events [] = refl
length-events (e ∷ log) = ap suc (length-events log)

length-replies : (log : List LogEntry) → length (replies_of log) ≡ length log
length-replies [] = refl
length-replies (e ∷ log) = ap suc (length-replies log)

-- the state after one more entry
pub state-push : (frames : ℕ) (log : List LogEntry) (e : LogEntry) → state_after frames (log ++ e ∷ []) ≡ next (state_after frames log) (event_of e)
state-push frames log e = ap (end_of (open_with frames)) (events-append log (e ∷ [])) ∙ end_of-append (open_with frames) (events_of log) (event_of e ∷ [])

answers-push : (frames : ℕ) (log more : List LogEntry) → answers (open_with frames) (events_of (log ++ more)) ≡ answers (open_with frames) (events_of log) ++ answers (state_after frames log) (events_of more)
answers-push frames log more = ap (answers (open_with frames)) (events-append log more) ∙ answers-append (open_with frames) (events_of log) (events_of more)

-- ---- Places in a list

tail_of : List LogEntry → List LogEntry
tail_of [] = []
tail_of (x ∷ xs) = xs

head_or : LogEntry → List LogEntry → LogEntry
head_or d [] = d
head_or d (x ∷ xs) = x

not_empty : (before : List LogEntry) (e : LogEntry) (rest : List LogEntry) → [] ≡ before ++ e ∷ rest → ⊥
not_empty before e rest is = let a : 0 ≡ length before + length (e ∷ rest) = ap length is ∙ length-append before (e ∷ rest) in omega arith

-- a place in a list with one more entry is the last one, or was there
place_of : (log : List LogEntry) (x : LogEntry) (before : List LogEntry) (e : LogEntry) (rest : List LogEntry) → log ++ x ∷ [] ≡ before ++ e ∷ rest
    → ((log ≡ before) × (x ≡ e)) ⊎ ((later : List LogEntry) × (log ≡ before ++ e ∷ later))
unfolding tail_of head_or
place_of [] x [] e rest is = inl (refl, ap (head_or x) is)
place_of [] x (b ∷ before) e rest is = absurd (not_empty before e rest (ap tail_of is))
place_of (y ∷ log) x [] e rest is = inr (log, ap (λ h. h ∷ log) (ap (head_or y) is))
place_of (y ∷ log) x (b ∷ before) e rest is =
    let head : y ≡ b = ap (head_or y) is in
    elim (place_of log x before e rest (ap tail_of is)) [
      | inl h ↦ inl ((λ i. head i ∷ h.0 i), h.1)
      | inr h ↦ inr (h.0, (λ i. head i ∷ h.1 i))
    ]

-- ---- Which histories are legal

pub empty_is_legal : EmptyIsLegal
empty_is_legal frames low high = record { size = (low, high); replies = refl; entries = λ before e rest is. absurd (not_empty before e rest is) }

-- a legal history with one more entry that tells what the machine does
pub legal-push : (frames : ℕ) (log : List LogEntry) (e : LogEntry) → Legal frames log → e.reply ≡ answer (state_after frames log) (event_of e) → IsTold frames log e → Legal frames (log ++ e ∷ [])
legal-push frames log e h says tells = record {
  size = h.size;
  replies = replies-append log (e ∷ []) ∙ (λ i. h.replies i ++ says i ∷ []) ∙ sym (answers-push frames log (e ∷ []));
  entries = λ before x rest is. elim (place_of log e before x rest is) [
    | inl t ↦ subst (λ (z : List LogEntry × LogEntry). IsTold frames z.0 z.1) (λ i. (t.0 i, t.1 i)) tells
    | inr t ↦ h.entries before x t.0 t.1
  ];
}

pub grows_legal : GrowsLegal
grows_legal frames log cpu pid call h = legal-push frames log (entry_after frames log cpu pid call) h refl (record { nth = refl; used_after = refl })

front_of : {X : Type 0} (a b c d : List X) → a ++ b ≡ c ++ d → length a ≡ length c → a ≡ c
front_of a b c d is long = sym (take-append_seam a b) ∙ ap (take (length a)) is ∙ ap (λ n. take n (c ++ d)) long ∙ take-append_seam c d

pub begins_legal : BeginsLegal
begins_legal frames log rest h = record {
  size = h.size;
  replies =
      front_of (replies_of log) (replies_of rest) (answers (open_with frames) (events_of log)) (answers (state_after frames log) (events_of rest))
      (sym (replies-append log rest) ∙ h.replies ∙ answers-push frames log rest)
      (length-replies log ∙ sym (length-answers (open_with frames) (events_of log) ∙ length-events log));
  entries = λ before e later is. h.entries before e (later ++ rest) (ap (λ l. l ++ rest) is ∙ append_assoc before (e ∷ later) rest);
}

back_of : {X : Type 0} (a b c d : List X) → a ++ b ≡ c ++ d → length a ≡ length c → b ≡ d
back_of a b c d is long = sym (drop-append_seam a b) ∙ ap (drop (length a)) is ∙ ap (λ n. drop n (c ++ d)) long ∙ drop-append_seam c d

-- the replies behind some entries of a legal history are the machine's, from the state after those
pub later_replies : (frames : ℕ) (before later : List LogEntry) → Legal frames (before ++ later) → replies_of later ≡ answers (state_after frames before) (events_of later)
later_replies frames before later h =
    back_of (replies_of before) (replies_of later) (answers (open_with frames) (events_of before)) (answers (state_after frames before) (events_of later))
    (sym (replies-append before later) ∙ h.replies ∙ answers-push frames before later)
    (length-replies before ∙ sym (length-answers (open_with frames) (events_of before) ∙ length-events before))

last_or : Reply → List Reply → Reply
last_or d [] = d
last_or d (x ∷ xs) = last_or x xs

last_or-push : (d : Reply) (xs : List Reply) (x : Reply) → last_or d (xs ++ x ∷ []) ≡ x
unfolding last_or
last_or-push d [] x = refl
last_or-push d (y ∷ xs) x = last_or-push y xs x

-- what the last entry of a legal history says
pub last_reply : (frames : ℕ) (log : List LogEntry) (e : LogEntry) → Legal frames (log ++ e ∷ []) → e.reply ≡ answer (state_after frames log) (event_of e)
last_reply frames log e h =
    sym (last_or-push e.reply (replies_of log) e.reply)
    ∙ ap (last_or e.reply) (sym (replies-append log (e ∷ [])) ∙ h.replies ∙ answers-push frames log (e ∷ []))
    ∙ last_or-push e.reply (answers (open_with frames) (events_of log)) (answer (state_after frames log) (event_of e))

pub last_told : (frames : ℕ) (log : List LogEntry) (e : LogEntry) → Legal frames (log ++ e ∷ []) → IsTold frames log e
last_told frames log e h = h.entries log e [] refl
