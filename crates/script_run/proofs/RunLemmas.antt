-- The result of a whole run, by what was read of the script.
use Rattle.std.proofs.Common.{◌≡◌, ◌≢◌, ℕ, ◌+◌, ◌<◌, ◌≤◌, true, false, List, [], ◌∷◌, ◌++◌, length, take, refl, sym, ap, subst, ◌∙◌, arith, append_assoc, append-nil, length-append, Option, Some, None, IfSome, Result, Ok, Err, ◌↔◌}
use Rattle.std.specs.Result.{IsErrOf, OnOk, IfErr}
use Rattle.std.specs.Io.KnownBytes.{Appends, Keeps, Consumes, IsAtEnd}
use Rattle.std.specs.List.{list_all}
use Rattle.std.proofs.KnownBytes.{Consumes-trans, Consumes-kept, Appends-nil}
use Rattle.std.proofs.lemmas.Bool.{le-ltb}
use Rattle.process_table.specs.State.{State}
use Rattle.kernel_calls.specs.Machine.{answers, end_of}
use Rattle.script_run.specs.declared.faults.ScriptFault.{ScriptFault}
use Rattle.script_run.specs.declared.faults.ScriptFault.TheVariants.{BadSize, NoMemory, Malformed, TooLong, ReadFailed, WriteFailed}
use Rattle.script_run.specs.declared.session.Session.{Session}
use Rattle.script_run.specs.Lines.{line_of, is_too_long}
use Rattle.text_output.specs.Output.{LeavesUnwritten, AppendsFront}
use Rattle.script_run.specs.Replies.{text_of}
use Rattle.script_run.specs.Script.{limit, lines_of, closed_lines, open_line, is_malformed, is_sound, events_in, events_of, fault_of, replies_text}
use Rattle.script_run.specs.Progress.{state_after, text_after, LineFails, Reached, Begins, Stops, Finished, StopsAtLast, Ran, EndsWhole, ReadSome, RanInto, EndsBy, IsBeforeReading}
use Rattle.script_run.proofs.ProgressLemmas.{wrote_on, wrote_front, wrote_none, begins_at}
use Rattle.script_run.proofs.ScriptLemmas.{end_one_more, text_one_more, sound_one_more, replies_text-append, fault_malformed, events_before_malformed, events_begin, fault_at_end, events_at_end, fault_at_last, events_at_last, fault_past, events_past}

pub within_limit : (n : ℕ) → n ≤ 16777216 → n ≤ limit
unfolding limit
within_limit n fits = fits

pub at_limit : (n : ℕ) → n ≡ 16777216 → n ≡ limit
unfolding limit
at_limit n at = at

-- ---- The last line

-- the lines that ended, and one more
record WithLast (begun : State) (good : List (List ℕ)) (bytes : List ℕ) (session : Session) (start now : Option (List ℕ)) : Type 0 where
  sound : list_all is_sound (good ++ bytes ∷ []) ≡ true
  state : session.core.state ≡ end_of begun (events_in (good ++ bytes ∷ []))
  text : LeavesUnwritten start now (replies_text begun (events_in (good ++ bytes ∷ []))) session.output

pub finishes : (begun : State) (read bytes : List ℕ) (old new : Session) (start held holds : Option (List ℕ)) → Reached begun read old start held
    → bytes ≡ old.line.items → is_malformed bytes ≡ false → new.core.state ≡ state_after old.core.state (line_of bytes)
    → LeavesUnwritten held holds (old.output ++ text_after old.core.state (line_of bytes)) new.output → Finished begun read new start holds
finishes begun read bytes old new start held holds reached is sound state text =
    let good = closed_lines read in
    let boot = begun in
    let whole : bytes ≡ open_line read = is ∙ reached.line in
    let added = wrote_on start held holds (replies_text begun (events_in good)) (text_after old.core.state (line_of bytes)) old.output new.output reached.text text in
    let all : replies_text begun (events_in good) ++ text_after old.core.state (line_of bytes) ≡ replies_text begun (events_in (good ++ bytes ∷ [])) =
    ap (λ s. replies_text begun (events_in good) ++ text_after s (line_of bytes)) reached.state ∙ sym (text_one_more begun good bytes) in
    let on_bytes : WithLast begun good bytes new start holds = record {
      sound = sound_one_more good bytes reached.sound sound;
      state = state ∙ ap (λ s. state_after s (line_of bytes)) reached.state ∙ sym (end_one_more boot good bytes);
      text = subst (λ (t : List ℕ). LeavesUnwritten start holds t new.output) all added;
    } in
    let at_open = subst (λ (bs : List ℕ). WithLast begun good bs new start holds) whole on_bytes in
    record { sound = at_open.sound; state = at_open.state; text = at_open.text }

pub stops_at_last : (begun : State) (read bytes : List ℕ) (old : Session) (fault : ScriptFault) (waits : List ℕ) (start held holds : Option (List ℕ)) → Reached begun read old start held
    → bytes ≡ old.line.items → LineFails fault (old.lines + 1) bytes old.output waits held holds → StopsAtLast begun read fault waits start holds
stops_at_last begun read bytes old (Malformed found) waits start held holds reached is fails = (
  reached.sound,
  ap is_malformed (sym (is ∙ reached.line)) ∙ fails.1,
  fails.0 ∙ ap (λ n. n + 1) reached.lines,
  subst (λ (w : List ℕ). LeavesUnwritten start holds (replies_text begun (events_in (closed_lines read))) w) (sym fails.2) (wrote_none start held holds _ _ reached.text fails.3),
)
stops_at_last begun read bytes old WriteFailed waits start held holds reached is fails = (fails.0, begins_at read reached.sound, wrote_front start held holds _ _ reached.text fails.1)
stops_at_last begun read bytes old BadSize waits start held holds reached is fails = absurd fails
stops_at_last begun read bytes old NoMemory waits start held holds reached is fails = absurd fails
stops_at_last begun read bytes old TooLong waits start held holds reached is fails = absurd fails
stops_at_last begun read bytes old ReadFailed waits start held holds reached is fails = absurd fails

-- ---- What the reader had

-- what holds of what was read and what is left holds of all that the reader had
of_input : (P : List ℕ → Type 0) (remained remains : Option (List ℕ)) (read : List ℕ) → Consumes remained remains read → ((rest : List ℕ) → remains ≡ Some rest → P (read ++ rest)) → IfSome remained P
of_input P None remains read taken holds = tt
of_input P (Some input) None read taken holds = absurd taken
of_input P (Some input) (Some rest) read taken holds = subst P (sym taken) (holds rest refl)

-- a read that gave nothing
pub takes_none : (a b c : Option (List ℕ)) (read block : List ℕ) (n : ℕ) → Consumes a b read → Consumes b c (take n block) → n ≡ 0 → Consumes a c read
takes_none a b c read block n taken more none =
    let nothing : Consumes b c [] = subst (λ (m : ℕ). Consumes b c (take m block)) none more in
    subst (Consumes a c) (append-nil read) (Consumes-trans a b c read [] taken nothing)

at_end : (P : List ℕ → Type 0) (remained remains : Option (List ℕ)) (read : List ℕ) → Consumes remained remains read → IsAtEnd remains → P read → IfSome remained P
at_end P None remains read taken end holds = tt
at_end P (Some input) None read taken end holds = absurd taken
at_end P (Some input) (Some rest) read taken end holds = subst P (sym (taken ∙ ap (λ bs. read ++ bs) end ∙ append-nil read)) holds

-- a front of the replies to some lines is a front of the replies to a script that begins with them
front_of_all : (begun : State) (read rest : List ℕ) (good : List (List ℕ)) (start now : Option (List ℕ)) → length read ≤ limit → Begins read good → AppendsFront start now (replies_text begun (events_in good))
    → AppendsFront start now (replies_text begun (events_of (read ++ rest)))
front_of_all begun read rest good start now fits begins front =
    let more = events_begin read rest good fits begins in
    let added = text_of (answers (end_of begun (events_in good)) more.0) in
    let text = ap (replies_text begun) more.1 ∙ replies_text-append begun (events_in good) more.0 in (
      front.0 ++ added,
      omega (arith, front.1, length-append front.0 added),
      record {
        written = front.2.written;
        whole = text ∙ ap (λ t. t ++ added) front.2.whole ∙ append_assoc front.2.written front.0 added;
        grown = front.2.grown;
      },
    )

-- ---- Ends

pub ran_whole : (begun : State) (remained remains : Option (List ℕ)) (read : List ℕ) (session : Session) (start now : Option (List ℕ)) → length read ≤ limit → Consumes remained remains read → IsAtEnd remains
    → Finished begun read session start now → Ran begun remained session start now
ran_whole begun remained remains read session start now fits taken end finished =
    let events = events_at_end read fits finished.sound in
    at_end _ remained remains read taken end (
      fault_at_end read fits finished.sound,
      finished.state ∙ sym (ap (end_of begun) events),
      subst (λ (t : List ℕ). LeavesUnwritten start now t session.output) (sym (ap (replies_text begun) events)) finished.text,
    )

pub ran_into_last : (begun : State) (remained remains : Option (List ℕ)) (read : List ℕ) (fault : ScriptFault) (waits : List ℕ) (start now : Option (List ℕ)) → length read ≤ limit → Consumes remained remains read → IsAtEnd remains
    → StopsAtLast begun read fault waits start now → RanInto begun fault remained remains waits start now
ran_into_last begun remained remains read (Malformed found) waits start now fits taken end stops =
    let events = events_at_last read fits stops.0 stops.1 in
    at_end _ remained remains read taken end (
      fault_at_last read fits stops.0 stops.1 ∙ ap (λ n. Some (Malformed n)) (sym stops.2),
      subst (λ (t : List ℕ). LeavesUnwritten start now t waits) (sym (ap (replies_text begun) events)) stops.3,
    )
ran_into_last begun remained remains read WriteFailed waits start now fits taken end stops =
    (stops.0, of_input _ remained remains read taken (λ rest is. front_of_all begun read rest (closed_lines read) start now fits stops.1 stops.2))
ran_into_last begun remained remains read BadSize waits start now fits taken end stops = absurd stops
ran_into_last begun remained remains read NoMemory waits start now fits taken end stops = absurd stops
ran_into_last begun remained remains read TooLong waits start now fits taken end stops = absurd stops
ran_into_last begun remained remains read ReadFailed waits start now fits taken end stops = absurd stops

pub ran_into_line : (begun : State) (remained remains : Option (List ℕ)) (read : List ℕ) (fault : ScriptFault) (waits : List ℕ) (start now : Option (List ℕ)) → length read ≤ limit → Consumes remained remains read
    → Stops begun read fault waits start now → RanInto begun fault remained remains waits start now
ran_into_line begun remained remains read (Malformed found) waits start now fits taken stops =
    of_input _ remained remains read taken (λ rest is. (
      fault_malformed read rest stops.0 fits stops.1 ∙ ap (λ n. Some (Malformed n)) (sym stops.2),
      subst (λ (t : List ℕ). LeavesUnwritten start now t waits) (sym (ap (replies_text begun) (events_before_malformed read rest stops.0 fits stops.1))) stops.3,
    ))
ran_into_line begun remained remains read WriteFailed waits start now fits taken stops =
    (stops.1, of_input _ remained remains read taken (λ rest is. front_of_all begun read rest stops.0 start now fits stops.2 stops.3))
ran_into_line begun remained remains read BadSize waits start now fits taken stops = absurd stops
ran_into_line begun remained remains read NoMemory waits start now fits taken stops = absurd stops
ran_into_line begun remained remains read TooLong waits start now fits taken stops = absurd stops
ran_into_line begun remained remains read ReadFailed waits start now fits taken stops = absurd stops

-- the open line of what was read may still end well
line_so_far : (begun : State) (read : List ℕ) (session : Session) (start now : Option (List ℕ)) → Reached begun read session start now → is_too_long (open_line read) ≡ false
line_so_far begun read session start now reached = le-ltb 100 (length (open_line read)) (subst (λ (bs : List ℕ). length bs ≤ 100) reached.line reached.short)

-- the limit was reached, and a byte came after it
pub ran_past : (begun : State) (remained mid remains : Option (List ℕ)) (read more : List ℕ) (session : Session) (start now : Option (List ℕ)) → length read ≡ limit → Consumes remained mid read → Consumes mid remains more → 0 < length more
    → Reached begun read session start now → RanInto begun TooLong remained remains session.output start now
ran_past begun remained mid remains read [] session start now at taken past some reached = absurd (omega arith)
ran_past begun remained mid remains read (b ∷ more) session start now at taken past some reached =
    let short = line_so_far begun read session start now reached in
    of_input _ remained remains (read ++ b ∷ more) (Consumes-trans remained mid remains read (b ∷ more) taken past) (λ rest is.
    let all : (read ++ b ∷ more) ++ rest ≡ read ++ b ∷ (more ++ rest) = append_assoc read (b ∷ more) rest in (
      ap fault_of all ∙ fault_past read b (more ++ rest) at short reached.sound,
      subst (λ (t : List ℕ). LeavesUnwritten start now t session.output) (sym (ap (λ bs. replies_text begun (events_of bs)) all ∙ ap (replies_text begun) (events_past read b (more ++ rest) at short reached.sound))) reached.text,
    ))

pub ran_into_reader : (begun : State) (remained mid remains : Option (List ℕ)) (read : List ℕ) (session : Session) (start now : Option (List ℕ)) → length read ≤ limit → Consumes remained mid read → Keeps mid remains
    → Reached begun read session start now → ReadSome begun remained remains session.output start now
ran_into_reader begun remained mid remains read session start now fits taken kept reached =
    record { read = read; within = fits; taken = Consumes-kept remained mid remains read taken kept; sound = reached.sound; short = line_so_far begun read session start now reached; text = reached.text }

-- ---- What waits is written at the end

if_some_map : {P Q : List ℕ → Type 0} (o : Option (List ℕ)) → ((xs : List ℕ) → P xs → Q xs) → IfSome o P → IfSome o Q
if_some_map None f p = tt
if_some_map (Some xs) f p = f xs p

-- no write fails where nothing waits
nothing_cut : (b c : Option (List ℕ)) (waits : List ℕ) → waits ≡ [] → AppendsFront b c waits → ⊥
nothing_cut b c waits none front =
    let parts : length front.2.written + length front.0 ≡ 0 = sym (length-append front.2.written front.0) ∙ ap length (sym front.2.whole ∙ none) in
    omega (arith, front.1)

pub ends_whole_cut : (begun : State) (remained remains : Option (List ℕ)) (ran : Session) (start now last : Option (List ℕ)) → Ran begun remained ran start now → AppendsFront now last ran.output
    → (IsBeforeReading WriteFailed → ⊥) × EndsBy begun WriteFailed remained remains start last
ends_whole_cut begun remained remains ran start now last run cut = (λ early. early, if_some_map remained (λ input parts. wrote_front start now last _ ran.output parts.2 cut) run)

pub ends_cut : (begun : State) (fault : ScriptFault) (remained remains : Option (List ℕ)) (waits : List ℕ) (start now last : Option (List ℕ)) → RanInto begun fault remained remains waits start now → AppendsFront now last waits
    → (IsBeforeReading WriteFailed → ⊥) × EndsBy begun WriteFailed remained remains start last
ends_cut begun (Malformed line) remained remains waits start now last run cut = (λ early. early, if_some_map remained (λ input parts. wrote_front start now last _ waits parts.1 cut) run)
ends_cut begun TooLong remained remains waits start now last run cut = (λ early. early, if_some_map remained (λ input parts. wrote_front start now last _ waits parts.1 cut) run)
ends_cut begun ReadFailed remained remains waits start now last run cut =
    (λ early. early, of_input _ remained remains run.read run.taken (λ rest is. front_of_all begun run.read rest (closed_lines run.read) start last run.within (begins_at run.read run.sound) (wrote_front start now last _ waits run.text cut)))
ends_cut begun WriteFailed remained remains waits start now last run cut = absurd (nothing_cut now last waits run.0 cut)
ends_cut begun BadSize remained remains waits start now last run cut = absurd run
ends_cut begun NoMemory remained remains waits start now last run cut = absurd run

-- whatever the run came to
pub cut_at_end : (begun : State) (r : Result (Unit {0}) ScriptFault) (remained remains : Option (List ℕ)) (ran : Session) (start now last : Option (List ℕ)) → OnOk r (Ran begun remained ran start now) → IfErr r (λ fault. RanInto begun fault remained remains ran.output start now)
    → AppendsFront now last ran.output → (IsBeforeReading WriteFailed → ⊥) × EndsBy begun WriteFailed remained remains start last
cut_at_end begun (Ok u) remained remains ran start now last run into cut = ends_whole_cut begun remained remains ran start now last run cut
cut_at_end begun (Err fault) remained remains ran start now last run into cut = ends_cut begun fault remained remains ran.output start now last into cut

-- ---- The boot

pub opens : (begun : State) (session : Session) (held : Option (List ℕ)) → session.core.state ≡ begun → session.output ≡ [] → session.line.items ≡ [] → session.lines ≡ 0 → Reached begun [] session held held
unfolding closed_lines open_line lines_of events_in replies_text text_of
opens begun session held state output line lines = record {
  sound = refl;
  line = line;
  short = subst (λ (bs : List ℕ). length bs ≤ 100) (sym line) (omega arith);
  lines = lines;
  state = state;
  text = record { written = []; whole = sym output; grown = Appends-nil held };
}

-- ---- The number of begun, after a boot that was answered

pub late_fault : {A B : Type 0} (session : A) (fault : ScriptFault) (P : Type 0) → (IsErrOf {T = A} (Ok session) BadSize ↔ P) → (IsBeforeReading fault → ⊥) → IsErrOf {T = B} (Err fault) BadSize ↔ P
late_fault {A} {B} session fault P size late = (
  λ e. let same : fault ≡ BadSize = cc in absurd (late (subst IsBeforeReading (sym same) tt)),
  λ p. let never = size.1 p in cc,
)

pub late_is_no_bad_size : (fault : ScriptFault) → (IsBeforeReading fault → ⊥) → fault ≢ BadSize
late_is_no_bad_size fault late e = late (subst IsBeforeReading (sym e) tt)

pub no_fault : {A B : Type 0} (session : A) (core : B) (P : Type 0) → (IsErrOf {T = A} (Ok session) BadSize ↔ P) → IsErrOf {T = B} {E = ScriptFault} (Ok core) BadSize ↔ P
no_fault {A} {B} session core P size = (
  λ e. cc,
  λ p. let never = size.1 p in cc,
)

pub whole_part : (begun : State) (remained : Option (List ℕ)) (session : Session) (held holds : Option (List ℕ)) → EndsWhole begun remained session held holds → IfSome remained (λ input. fault_of input ≡ None)
whole_part begun remained session held holds ends = if_some_map remained (λ input parts. parts.0) ends

pub state_part : (begun : State) (remained : Option (List ℕ)) (session : Session) (held holds : Option (List ℕ)) → EndsWhole begun remained session held holds → IfSome remained (λ input. session.core.state ≡ end_of begun (events_of input))
state_part begun remained session held holds ends = if_some_map remained (λ input parts. parts.1) ends

pub replies_part : (begun : State) (remained : Option (List ℕ)) (session : Session) (held holds : Option (List ℕ)) → EndsWhole begun remained session held holds → IfSome remained (λ input. Appends held holds (replies_text begun (events_of input)))
replies_part begun remained session held holds ends = if_some_map remained (λ input parts. parts.2) ends
