-- Lists of moments, their entries, and the core after them.
use Rattle.std.proofs.Common.{◌≡◌, ℕ, ◌+◌, ◌<◌, ◌≤◌, ◌⊎◌, inl, inr, List, [], ◌∷◌, ◌++◌, length, Bool, true, false, refl, sym, ap, ◌∙◌, subst, arith, append-nil, append_assoc, length-append}
use Rattle.std.specs.Prelude.{MatchBool}
use lib.Dec.{leb}
use Rattle.std.proofs.lemmas.Bool.Decides.{nat_tests}
use Rattle.kernel_calls.specs.Along.{CarriesOut}
use Rattle.kernel_calls.specs.Processors.{IsCore, IsCarried}
use Rattle.kernel_calls.specs.Translations.{ended_by}
use Rattle.kernel_calls.specs.declared.calls.Event.{Event}
use Rattle.kernel_calls.specs.declared.calls.Reply.{Reply}
use Rattle.kernel_calls.proofs.Writings.{events_write_their_own}
use Rattle.memory_report.specs.Histories.{StartsWith, event_of, events_of}
use Rattle.memory_report.specs.declared.entries.LogEntry.{LogEntry}
use Rattle.process_table.specs.State.{State, open_with}
use Rattle.process_table.specs.View.{View}
use Rattle.kernel_calls.specs.Machine.{end_of, next}
use Rattle.shootdowns.specs.Windows as window
use Rattle.locked_core.specs.Endings.{ToldOnce, ToldToAll}
use Rattle.locked_core.specs.Moments.{EndsAlong, FollowsFrom, StatesFollow, Begins, Follows, core_after, ended_along, entries_in, moment}
use Rattle.locked_core.specs.declared.moment.Moment.{Moment}

pub entries_long : (log : List Moment) → length (entries_in log) ≡ length log
entries_long [] = refl
entries_long (m ∷ log) = let more = entries_long log in omega arith

pub entries_append : (log more : List Moment) → entries_in (log ++ more) ≡ entries_in log ++ entries_in more
entries_append [] more = refl
entries_append (m ∷ log) more = ap (λ l. m.entry ∷ l) (entries_append log more)

pub entries_none : (log : List Moment) → entries_in log ≡ [] → log ≡ []
entries_none [] e = refl
entries_none (m ∷ log) e = let long : length (entries_in (m ∷ log)) ≡ 0 = ap length e in absurd (omega arith)

none_left : (xs : List Moment) → length xs ≡ 0 → xs ≡ []
none_left [] e = refl
none_left (x ∷ xs) e = absurd (omega arith)

-- a beginning of the same length is the whole
pub begins_whole : (log seen : List Moment) → Begins log seen → length log ≤ length seen → log ≡ seen
begins_whole log seen h le =
    let a : length log ≡ length seen + length h.0 = ap length h.1 ∙ length-append seen h.0 in
    let none : h.0 ≡ [] = none_left h.0 (omega arith) in
    h.1 ∙ (ap (λ l. seen ++ l) none ∙ append-nil seen)

pub begins_itself : (xs : List Moment) → Begins xs xs
begins_itself xs = ([], sym (append-nil xs))

pub begins_trans : (xs ys zs : List Moment) → Begins xs ys → Begins ys zs → Begins xs zs
begins_trans xs ys zs h k = (k.0 ++ h.0, h.1 ∙ (ap (λ l. l ++ h.0) k.1 ∙ append_assoc zs k.0 h.0))

-- a beginning of moments has a beginning of their entries
pub starts_of : (log seen : List Moment) → Begins log seen → StartsWith (entries_in log) (entries_in seen)
starts_of log seen h = (entries_in h.0, ap entries_in h.1 ∙ entries_append seen h.0)

tail_of : List Moment → List Moment
tail_of [] = []
tail_of (x ∷ xs) = xs

head_or : Moment → List Moment → Moment
head_or d [] = d
head_or d (x ∷ xs) = x

-- of two beginnings of one list the shorter begins the longer
pub begins_both : (log a b : List Moment) → Begins log a → Begins log b → length a ≤ length b → Begins b a
unfolding tail_of head_or
begins_both log [] b h k le = (b, refl)
begins_both log (x ∷ a) [] h k le = absurd (omega arith)
begins_both log (x ∷ a) (y ∷ b) h k le =
    let same : x ∷ (a ++ h.0) ≡ y ∷ (b ++ k.0) = sym h.1 ∙ k.1 in
    let rest = begins_both (a ++ h.0) a b (h.0, refl) (k.0, ap tail_of same) (omega arith) in
    let head : y ≡ x = sym (ap (head_or x) same) in
    (rest.0, λ i. head i ∷ rest.1 i)

-- of two beginnings of one list, told apart by their lengths, the shorter begins the longer
pub begins_either : (log a b : List Moment) (m n : ℕ) → m ≡ length (entries_in a) → n ≡ length (entries_in b) → Begins log a → Begins log b → MatchBool (leb m n) (Begins b a) (Begins a b)
begins_either log a b m n am bn h k = by_case (leb m n) refl
  where
    by_case : (t : Bool) → leb m n ≡ t → MatchBool t (Begins b a) (Begins a b)
    by_case true is = let le : m ≤ n = grind (arith, nat_tests) in let long = entries_long a in let wide = entries_long b in begins_both log a b h k (omega arith)
    by_case false is = let lt : n < m = grind (arith, nat_tests) in let long = entries_long a in let wide = entries_long b in begins_both log b a k h (omega arith)

not_empty : (before : List Moment) (m : Moment) (rest : List Moment) → [] ≡ before ++ m ∷ rest → ⊥
not_empty before m rest is = let a : 0 ≡ length before + length (m ∷ rest) = ap length is ∙ length-append before (m ∷ rest) in omega arith

-- a place in a list with one more moment is the last one, or was there
place_of : (log : List Moment) (x : Moment) (before : List Moment) (m : Moment) (rest : List Moment) → log ++ x ∷ [] ≡ before ++ m ∷ rest
    → ((log ≡ before) × (x ≡ m)) ⊎ ((later : List Moment) × (log ≡ before ++ m ∷ later))
unfolding tail_of head_or
place_of [] x [] m rest is = inl (refl, ap (head_or x) is)
place_of [] x (b ∷ before) m rest is = absurd (not_empty before m rest (ap tail_of is))
place_of (y ∷ log) x [] m rest is = inr (log, ap (λ h. h ∷ log) (ap (head_or y) is))
place_of (y ∷ log) x (b ∷ before) m rest is =
    let head : y ≡ b = ap (head_or y) is in
    elim (place_of log x before m rest (ap tail_of is)) [
      | inl h ↦ inl ((λ i. head i ∷ h.0 i), h.1)
      | inr h ↦ inr (h.0, (λ i. head i ∷ h.1 i))
    ]

pub follows_none : (opening : View) → IsCore opening → Follows opening []
follows_none opening core = record { opened = core; each = λ before m rest is. absurd (not_empty before m rest is) }

-- with the moment of one call more
pub follows_push : (opening : View) (log : List Moment) (x : Moment) → Follows opening log
    → window.Begins (core_after opening log) (event_of x.entry) x.entry.reply x.core → Follows opening (log ++ x ∷ [])
follows_push opening log x h begins = record {
  opened = h.opened;
  each = λ before m rest is. elim (place_of log x before m rest is) [
    | inl t ↦ subst (λ (z : List Moment × Moment). window.Begins (core_after opening z.0) (event_of z.1.entry) z.1.entry.reply z.1.core) (λ i. (t.0 i, t.1 i)) begins
    | inr t ↦ h.each before m t.0 t.1
  ];
}

-- with the entry of a call that began in the last core, and the core that the call left
pub follows_more : (opening : View) (log : List Moment) (old core : View) (event : Event) (e : LogEntry) → Follows opening log → core_after opening log ≡ old
    → event_of e ≡ event → window.Begins old event e.reply core → Follows opening (log ++ moment e core ∷ [])
follows_more opening log old core event e h left mine begins = follows_push opening log (moment e core) h
    (subst (λ (t : View × Event). window.Begins t.0 t.1 e.reply core) (λ i. (sym left i, sym mine i)) begins)

pub core_push : (opening : View) (log : List Moment) (x : Moment) → core_after opening (log ++ x ∷ []) ≡ x.core
core_push opening [] x = refl
core_push opening (m ∷ log) x = core_push m.core log x

pub begins_push : (log seen : List Moment) (x : Moment) → Begins log seen → Begins (log ++ x ∷ []) seen
begins_push log seen x h = (h.0 ++ x ∷ [], ap (λ l. l ++ x ∷ []) h.1 ∙ append_assoc seen h.0 (x ∷ []))

next_core : (opening : View) (before later : List Moment) → core_after opening (before ++ later) ≡ core_after (core_after opening before) later
next_core opening [] later = refl
next_core opening (m ∷ before) later = next_core m.core before later

-- a beginning of moments that follow one another
follows_part : (opening : View) (before later : List Moment) → Follows opening (before ++ later) → Follows opening before
follows_part opening before later h = record {
  opened = h.opened;
  each = λ b m rest is. h.each b m (rest ++ later) (ap (λ l. l ++ later) is ∙ append_assoc b (m ∷ rest) later);
}

-- the moments after the first follow one another from its core
from_next : (opening : View) (m : Moment) (log : List Moment) → Follows opening (m ∷ log) → IsCore m.core → Follows m.core log
from_next opening m log h core = record { opened = core; each = λ b x rest is. h.each (m ∷ b) x rest (ap (λ l. m ∷ l) is) }

-- each core of the history is one
cores_along : (opening : View) (log : List Moment) → Follows opening log → IsCore (core_after opening log)
cores_along opening [] h = h.opened
cores_along opening (m ∷ log) h = cores_along m.core log (from_next opening m log h (h.each [] m log refl).carried.core)

pub follows_from : FollowsFrom
follows_from opening before later h = record {
  opened = cores_along opening before (follows_part opening before later h);
  each = λ b m rest is. subst (λ (v : View). window.Begins v (event_of m.entry) m.entry.reply m.core) (next_core opening before b)
      (h.each (before ++ b) m rest (ap (λ l. before ++ l) is ∙ sym (append_assoc before b (m ∷ rest))));
}

-- an event that a core carried out wrote only what it may write
carried_out : (v w : View) (e : Event) (r : Reply) → IsCore v → IsCarried v e r w → CarriesOut v e w
carried_out v w e r core carried = record {
  state = carried.state;
  ends = carried.ends;
  core = carried.core;
  writes = events_write_their_own v w e core carried.core carried.state carried.ends;
}

pub ends_along : EndsAlong
ends_along opening [] h = refl
ends_along opening (m ∷ log) h = (
  m.core,
  refl,
  carried_out opening m.core (event_of m.entry) m.entry.reply h.opened (h.each [] m log refl).carried,
  ends_along m.core log (follows_from opening (m ∷ []) log h),
)

pub told_once : ToldOnce
told_once frames opening cpu a b h k =
    let both : h.before ++ h.last ∷ [] ≡ k.before ++ k.last ∷ [] = sym h.grown ∙ k.grown in
    elim (place_of h.before h.last k.before k.last [] both) [
      | inl t ↦ h.told ∙ ((λ i. ended_by (core_after opening (t.0 i)) (event_of (t.1 i).entry)) ∙ sym k.told)
      | inr t ↦ absurd (
          let long : length (h.before ++ h.last ∷ []) ≡ length (k.before ++ k.last ∷ []) = ap length both in
          let more : length h.before ≡ length (k.before ++ k.last ∷ t.0) = ap length t.1 in
          omega (arith, length-append h.before (h.last ∷ []), length-append k.before (k.last ∷ []), length-append k.before (k.last ∷ t.0)))
    ]

-- what the calls of two lists ended, in sequence
along_append : (opening : View) (before later : List Moment) → ended_along opening (before ++ later) ≡ ended_along opening before ++ ended_along (core_after opening before) later
along_append opening [] later = refl
along_append opening (m ∷ before) later = ap (λ l. ended_by opening (event_of m.entry) ∷ l) (along_append m.core before later)

along_long : (opening : View) (log : List Moment) → length (ended_along opening log) ≡ length log
along_long opening [] = refl
along_long opening (m ∷ log) = let more = along_long m.core log in omega arith

pub told_to_all : ToldToAll
told_to_all frames opening cpu ended log h begins =
    let rest : List Moment = begins.0 in
    let split : log ≡ h.before ++ h.last ∷ rest = begins.1 ∙ (ap (λ l. l ++ rest) h.grown ∙ append_assoc h.before (h.last ∷ []) rest) in
    record {
      earlier = ended_along opening h.before;
      later = ended_along h.last.core rest;
      all = ap (ended_along opening) split ∙ (along_append opening h.before (h.last ∷ rest) ∙ ap (λ x. ended_along opening h.before ++ x ∷ ended_along h.last.core rest) (sym h.told));
      here =
          (let long : length (ended_along opening h.before) ≡ length h.before = along_long opening h.before in
          let whole : length cpu.moments ≡ length (h.before ++ h.last ∷ []) = ap length h.grown in
          omega (arith, length-append h.before (h.last ∷ [])));
    }

-- from a core in some state on, each event leads to the next state
states_from : (core : View) (from : State) (log : List Moment) → core.state ≡ from → Follows core log → (core_after core log).state ≡ end_of from (events_of (entries_in log))
states_from core from [] is h = is
states_from core from (m ∷ log) is h =
    states_from m.core (next from (event_of m.entry)) log ((h.each [] m log refl).carried.state ∙ ap (λ s. next s (event_of m.entry)) is) (follows_from core (m ∷ []) log h)

pub states_follow : StatesFollow
states_follow frames opening before later is h = states_from opening (open_with frames) before is (follows_part opening before later h)
