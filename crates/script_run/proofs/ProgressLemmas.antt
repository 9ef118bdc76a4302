-- A session continues by a piece or by a line, or stops at one.
use Rattle.std.proofs.Common.{◌≡◌, ℕ, ◌+◌, ◌-◌, ◌<◌, ◌≤◌, true, false, List, [], ◌∷◌, ◌++◌, length, take, drop, get_or, refl, sym, ap, subst, ◌∙◌, arith, append_assoc, append-nil, length-append, take-append-drop, inl, inr, Option}
use Rattle.std.specs.Io.KnownBytes.{Keeps, Appends}
use Rattle.std.specs.List.{list_all, All}
use Rattle.std.proofs.KnownBytes.{Appends-trans, Appends-kept}
use Rattle.std.proofs.lemmas.Bool.{lt-ltb, eqb-true, cases_Bool}
use Rattle.std.proofs.lemmas.List.{length-take-le, get_or-take, get_or_default, take_all, drop_more, take_rest}
use Rattle.std.proofs.lemmas.List.Splits.{slice_split_none}
use Rattle.memchr.specs.Find.{is_byte, Nowhere, NoneBefore, Passes}
use Rattle.process_table.specs.State.{State}
use Rattle.kernel_calls.specs.Machine.{end_of}
use Rattle.script_run.specs.declared.faults.ScriptFault.{ScriptFault}
use Rattle.script_run.specs.declared.faults.ScriptFault.TheVariants.{BadSize, NoMemory, Malformed, TooLong, ReadFailed, WriteFailed}
use Rattle.script_run.specs.declared.session.Session.{Session}
use Rattle.script_run.specs.Lines.{line_of, is_too_long}
use Rattle.text_output.specs.Output.{LeavesUnwritten, AppendsFront}
use Rattle.script_run.specs.Script.{is_line_feed, lines_of, closed_lines, open_line, judged_to, is_malformed, is_sound, events_in, replies_text}
use Rattle.script_run.specs.Progress.{state_after, text_after, LineFails, IsOneLine, Reached, Begins, Breaks, Stops}
use Rattle.script_run.proofs.LineLemmas.{closed_piece, open_piece, closed_line, open_fresh, judged_more, judged_line, judged_long, judged_rest}
use Rattle.script_run.proofs.ScriptLemmas.{end_one_more, text_one_more, sound_one_more}

-- ---- Bytes without a line feed

-- the bytes before the first line feed, or all
one_line_before : (bytes : List ℕ) (n : ℕ) → n ≤ length bytes → Nowhere (Passes (is_byte 10) bytes) 0 n → IsOneLine (take n bytes)
unfolding IsOneLine lines_of
one_line_before bytes n fits nowhere = slice_split_none is_line_feed (take n bytes) none where
  no_feed : (k : ℕ) → k < n → is_line_feed (get_or bytes k 0) ≡ false
  no_feed k below = elim (cases_Bool (is_line_feed (get_or bytes k 0))) [ inl is ↦ absurd (nowhere k (omega arith) below is) | inr not_so ↦ not_so ]

  none : All (λ b. is_line_feed b ≡ false) (take n bytes)
  none k d inside =
      let size : length (take n bytes) ≡ n = length-take-le n bytes fits in
      let below : k < n = omega arith in
      ap is_line_feed (get_or-take n bytes k d below ∙ get_or_default bytes k d 0 (omega arith)) ∙ no_feed k below

pub no_feed_at_all : (bytes : List ℕ) → Nowhere (Passes (is_byte 10) bytes) 0 (length bytes) → IsOneLine bytes
no_feed_at_all bytes nowhere = subst IsOneLine (take_all (length bytes) bytes (omega arith)) (one_line_before bytes (length bytes) (omega arith) nowhere)

pub feed_at : (bytes : List ℕ) (k : ℕ) → NoneBefore (Passes (is_byte 10) bytes) 0 (length bytes) k × Passes (is_byte 10) bytes k
    → (bytes ≡ take k bytes ++ 10 ∷ take (length bytes - (k + 1)) (drop (k + 1) bytes)) × IsOneLine (take k bytes)
feed_at bytes k found =
    let here : get_or bytes k 0 ≡ 10 = eqb-true (get_or bytes k 0) 10 found.1 in
    let rest : drop k bytes ≡ 10 ∷ take (length bytes - (k + 1)) (drop (k + 1) bytes) = drop_more bytes k 0 found.0.high ∙ ap (λ b. b ∷ drop (k + 1) bytes) here ∙ ap (λ bs. 10 ∷ bs) (sym (take_rest bytes (k + 1))) in
    (sym (take-append-drop k bytes) ∙ ap (λ bs. take k bytes ++ bs) rest, one_line_before bytes k (omega (arith, found.0.high)) found.0.before)

-- ---- What was written

pub wrote_on : (a b c : Option (List ℕ)) (text more waited waits : List ℕ) → LeavesUnwritten a b text waited → LeavesUnwritten b c (waited ++ more) waits → LeavesUnwritten a c (text ++ more) waits
wrote_on a b c text more waited waits before after = record {
  written = before.written ++ after.written;
  whole = ap (λ bytes. bytes ++ more) before.whole ∙ append_assoc before.written waited more ∙ ap (λ bytes. before.written ++ bytes) after.whole ∙ sym (append_assoc before.written after.written waits);
  grown = Appends-trans a b c before.written after.written before.grown after.grown;
}

pub wrote_front : (a b c : Option (List ℕ)) (text waited : List ℕ) → LeavesUnwritten a b text waited → AppendsFront b c waited → AppendsFront a c text
wrote_front a b c text waited before after = (
  after.0,
  after.1,
  record {
    written = before.written ++ after.2.written;
    whole = before.whole ∙ ap (λ bytes. before.written ++ bytes) after.2.whole ∙ sym (append_assoc before.written after.2.written after.0);
    grown = Appends-trans a b c before.written after.2.written before.grown after.2.grown;
  },
)

pub wrote_none : (a b c : Option (List ℕ)) (text waits : List ℕ) → LeavesUnwritten a b text waits → Keeps b c → LeavesUnwritten a c text waits
wrote_none a b c text waits before kept = record { written = before.written; whole = before.whole; grown = Appends-kept a b c before.written before.grown kept }

pub wrote_all : (a b c : Option (List ℕ)) (text waited : List ℕ) → LeavesUnwritten a b text waited → Appends b c waited → LeavesUnwritten a c text []
wrote_all a b c text waited before wrote = record {
  written = before.written ++ waited;
  whole = before.whole ∙ sym (append-nil (before.written ++ waited));
  grown = Appends-trans a b c before.written waited before.grown wrote;
}

-- ---- How scripts that go on from some bytes begin

pub begins_at : (read : List ℕ) → list_all is_sound (closed_lines read) ≡ true → Begins read (closed_lines read)
begins_at read sound = record { sound = sound; next = λ is_whole more. (judged_rest is_whole (open_line read) (lines_of more), judged_more is_whole read more) }

begins_on : (read more : List ℕ) (good : List (List ℕ)) → Begins read good → Begins (read ++ more) good
begins_on read more good begins = record {
  sound = begins.sound;
  next = λ is_whole rest. let next = begins.next is_whole (more ++ rest) in (next.0, ap (judged_to is_whole) (append_assoc read more rest) ∙ next.1);
}

breaks_on : (read more : List ℕ) (good : List (List ℕ)) → Breaks read good → Breaks (read ++ more) good
breaks_on read more good breaks = record {
  sound = breaks.sound;
  next = λ is_whole rest. let next = breaks.next is_whole (more ++ rest) in (next.0, next.1, ap (judged_to is_whole) (append_assoc read more rest) ∙ next.2, next.3);
}

pub stops_on : (begun : State) (read more : List ℕ) (fault : ScriptFault) (waits : List ℕ) (start now : Option (List ℕ)) → Stops begun read fault waits start now → Stops begun (read ++ more) fault waits start now
stops_on begun read more (Malformed found) waits start now stops = (stops.0, breaks_on read more stops.0 stops.1, stops.2, stops.3)
stops_on begun read more WriteFailed waits start now stops = (stops.0, stops.1, begins_on read more stops.0 stops.2, stops.3)
stops_on begun read more BadSize waits start now stops = absurd stops
stops_on begun read more NoMemory waits start now stops = absurd stops
stops_on begun read more TooLong waits start now stops = absurd stops
stops_on begun read more ReadFailed waits start now stops = absurd stops

-- a line is malformed where it is too long
long_is_malformed : (bytes : List ℕ) → is_too_long bytes ≡ true → is_malformed bytes ≡ true
unfolding is_malformed line_of
long_is_malformed bytes long = rw long refl

-- ---- A piece

pub keeps_piece : (begun : State) (read piece : List ℕ) (old new : Session) (start now : Option (List ℕ)) → IsOneLine piece → Reached begun read old start now
    → new.core ≡ old.core → new.output ≡ old.output → new.lines ≡ old.lines → new.line.items ≡ old.line.items ++ piece → length old.line.items + length piece ≤ 100 → Reached begun (read ++ piece) new start now
keeps_piece begun read piece old new start now one reached core output lines line fits =
    let same = closed_piece read piece one in record {
      sound = ap (list_all is_sound) same ∙ reached.sound;
      line = line ∙ ap (λ bytes. bytes ++ piece) reached.line ∙ sym (open_piece read piece one);
      short = subst (λ (bytes : List ℕ). length bytes ≤ 100) (sym line) (omega (arith, length-append old.line.items piece));
      lines = lines ∙ reached.lines ∙ sym (ap length same);
      state = ap (λ c. c.state) core ∙ reached.state ∙ sym (ap (λ ls. end_of begun (events_in ls)) same);
      text = subst (λ (text : List ℕ). LeavesUnwritten start now text new.output) (sym (ap (λ ls. replies_text begun (events_in ls)) same))
          (subst (λ (waits : List ℕ). LeavesUnwritten start now (replies_text begun (events_in (closed_lines read))) waits) (sym output) reached.text);
    }

pub refuses_piece : (begun : State) (read piece : List ℕ) (session : Session) (start now : Option (List ℕ)) → IsOneLine piece → Reached begun read session start now
    → 100 < length session.line.items + length piece → Stops begun (read ++ piece) (Malformed (session.lines + 1)) session.output start now
refuses_piece begun read piece session start now one reached over =
    let same = closed_piece read piece one in
    let size : length (open_line (read ++ piece)) ≡ length session.line.items + length piece = ap length (open_piece read piece one) ∙ length-append (open_line read) piece ∙ ap (λ bytes. length bytes + length piece) (sym reached.line) in
    let long : is_too_long (open_line (read ++ piece)) ≡ true = lt-ltb 100 (length (open_line (read ++ piece))) (omega arith) in
    let breaks : Breaks (read ++ piece) (closed_lines read) = record {
      sound = reached.sound;
      next = λ is_whole more. let next = judged_long is_whole (read ++ piece) more long in (next.0, next.1, next.2 ∙ ap (λ ls. ls ++ next.0 ∷ next.1) same, long_is_malformed next.0 next.3);
    } in
    (closed_lines read, breaks, ap (λ n. n + 1) reached.lines, reached.text)

-- ---- A line

pub ends_line : (begun : State) (read piece bytes : List ℕ) (old new : Session) (start held holds : Option (List ℕ)) → IsOneLine piece → Reached begun read old start held
    → bytes ≡ old.line.items ++ piece → is_malformed bytes ≡ false → new.core.state ≡ state_after old.core.state (line_of bytes)
    → LeavesUnwritten held holds (old.output ++ text_after old.core.state (line_of bytes)) new.output → new.line.items ≡ [] → new.lines ≡ old.lines + 1
    → Reached begun (read ++ (piece ++ 10 ∷ [])) new start holds
ends_line begun read piece bytes old new start held holds one reached is sound state text line lines =
    let good = closed_lines read in
    let whole : bytes ≡ open_line read ++ piece = is ∙ ap (λ front. front ++ piece) reached.line in
    let more : closed_lines (read ++ (piece ++ 10 ∷ [])) ≡ good ++ bytes ∷ [] = closed_line read piece one ∙ ap (λ l. good ++ l ∷ []) (sym whole) in
    let boot = begun in
    let said : text_after old.core.state (line_of bytes) ≡ text_after (end_of boot (events_in good)) (line_of bytes) = ap (λ s. text_after s (line_of bytes)) reached.state in
    let added = wrote_on start held holds (replies_text begun (events_in good)) (text_after old.core.state (line_of bytes)) old.output new.output reached.text text in
    let all : replies_text begun (events_in good) ++ text_after old.core.state (line_of bytes) ≡ replies_text begun (events_in (closed_lines (read ++ (piece ++ 10 ∷ [])))) =
    ap (λ t. replies_text begun (events_in good) ++ t) said ∙ sym (text_one_more begun good bytes) ∙ sym (ap (λ ls. replies_text begun (events_in ls)) more) in record {
      sound = ap (list_all is_sound) more ∙ sound_one_more good bytes reached.sound sound;
      line = line ∙ sym (open_fresh read piece);
      short = subst (λ (bs : List ℕ). length bs ≤ 100) (sym line) (omega arith);
      lines = lines ∙ ap (λ n. n + 1) reached.lines ∙ sym (ap length more ∙ length-append good (bytes ∷ []));
      state = state ∙ ap (λ s. state_after s (line_of bytes)) reached.state ∙ sym (end_one_more boot good bytes) ∙ sym (ap (λ ls. end_of boot (events_in ls)) more);
      text = subst (λ (t : List ℕ). LeavesUnwritten start holds t new.output) all added;
    }

pub stops_at_line : (begun : State) (read piece bytes : List ℕ) (old : Session) (fault : ScriptFault) (waits : List ℕ) (start held holds : Option (List ℕ)) → IsOneLine piece → Reached begun read old start held
    → bytes ≡ old.line.items ++ piece → LineFails fault (old.lines + 1) bytes old.output waits held holds → Stops begun (read ++ (piece ++ 10 ∷ [])) fault waits start holds
stops_at_line begun read piece bytes old (Malformed found) waits start held holds one reached is fails =
    let good = closed_lines read in
    let whole : bytes ≡ open_line read ++ piece = is ∙ ap (λ front. front ++ piece) reached.line in
    let breaks : Breaks (read ++ (piece ++ 10 ∷ [])) good = record {
      sound = reached.sound;
      next = λ is_whole more. let next = judged_line is_whole read piece more one in (open_line read ++ piece, next.0, next.1, ap is_malformed (sym whole) ∙ fails.1);
    } in
    (good, breaks, fails.0 ∙ ap (λ n. n + 1) reached.lines, subst (λ (w : List ℕ). LeavesUnwritten start holds (replies_text begun (events_in good)) w) (sym fails.2) (wrote_none start held holds _ _ reached.text fails.3))
stops_at_line begun read piece bytes old WriteFailed waits start held holds one reached is fails =
    (closed_lines read, fails.0, begins_on read (piece ++ 10 ∷ []) (closed_lines read) (begins_at read reached.sound), wrote_front start held holds _ _ reached.text fails.1)
stops_at_line begun read piece bytes old BadSize waits start held holds one reached is fails = absurd fails
stops_at_line begun read piece bytes old NoMemory waits start held holds one reached is fails = absurd fails
stops_at_line begun read piece bytes old TooLong waits start held holds one reached is fails = absurd fails
stops_at_line begun read piece bytes old ReadFailed waits start held holds one reached is fails = absurd fails

-- ---- Pieces and lines, one after the other

nothing_is_one_line : IsOneLine []
unfolding IsOneLine lines_of
nothing_is_one_line = refl

-- a line that was kept in two parts
pub ends_kept : (begun : State) (read piece bytes : List ℕ) (old new : Session) (start held holds : Option (List ℕ)) → Reached begun (read ++ piece) old start held
    → bytes ≡ old.line.items → is_malformed bytes ≡ false → new.core.state ≡ state_after old.core.state (line_of bytes)
    → LeavesUnwritten held holds (old.output ++ text_after old.core.state (line_of bytes)) new.output → new.line.items ≡ [] → new.lines ≡ old.lines + 1
    → Reached begun (read ++ (piece ++ 10 ∷ [])) new start holds
ends_kept begun read piece bytes old new start held holds reached is sound state text line lines =
    subst (λ (bs : List ℕ). Reached begun bs new start holds) (append_assoc read piece (10 ∷ []))
    (ends_line begun (read ++ piece) [] bytes old new start held holds nothing_is_one_line reached (is ∙ sym (append-nil old.line.items)) sound state text line lines)

pub stops_at_kept : (begun : State) (read piece bytes : List ℕ) (old : Session) (fault : ScriptFault) (waits : List ℕ) (start held holds : Option (List ℕ)) → Reached begun (read ++ piece) old start held
    → bytes ≡ old.line.items → (number : ℕ) → number ≡ old.lines + 1 → LineFails fault number bytes old.output waits held holds → Stops begun (read ++ (piece ++ 10 ∷ [])) fault waits start holds
stops_at_kept begun read piece bytes old fault waits start held holds reached is number next fails =
    subst (λ (bs : List ℕ). Stops begun bs fault waits start holds) (append_assoc read piece (10 ∷ []))
    (stops_at_line begun (read ++ piece) [] bytes old fault waits start held holds nothing_is_one_line reached (is ∙ sym (append-nil old.line.items))
    (subst (λ (n : ℕ). LineFails fault n bytes old.output waits held holds) next fails))

pub stops_in_line : (begun : State) (read piece : List ℕ) (fault : ScriptFault) (waits : List ℕ) (start now : Option (List ℕ)) → Stops begun (read ++ piece) fault waits start now → Stops begun (read ++ (piece ++ 10 ∷ [])) fault waits start now
stops_in_line begun read piece fault waits start now stops =
    subst (λ (bs : List ℕ). Stops begun bs fault waits start now) (append_assoc read piece (10 ∷ [])) (stops_on begun (read ++ piece) (10 ∷ []) fault waits start now stops)

-- ---- The bytes of a read, a line at a time

after_line : (read all taken rest line after : List ℕ) → all ≡ taken ++ rest → rest ≡ line ++ 10 ∷ after → read ++ all ≡ ((read ++ taken) ++ (line ++ 10 ∷ [])) ++ after
after_line read all taken rest line after whole cut =
    ap (λ bs. read ++ bs) (whole ∙ ap (λ bs. taken ++ bs) (cut ∙ sym (append_assoc line (10 ∷ []) after))) ∙ sym (append_assoc read taken _) ∙ sym (append_assoc (read ++ taken) (line ++ 10 ∷ []) after)

pub takes_line : (begun : State) (read all taken rest line after : List ℕ) (session : Session) (start now : Option (List ℕ)) → all ≡ taken ++ rest → rest ≡ line ++ 10 ∷ after
    → Reached begun ((read ++ taken) ++ (line ++ 10 ∷ [])) session start now → (more : List ℕ) × (all ≡ more ++ after) × Reached begun (read ++ more) session start now
takes_line begun read all taken rest line after session start now whole cut reached = (
  taken ++ (line ++ 10 ∷ []),
  whole ∙ ap (λ bs. taken ++ bs) (cut ∙ sym (append_assoc line (10 ∷ []) after)) ∙ sym (append_assoc taken (line ++ 10 ∷ []) after),
  subst (λ (bs : List ℕ). Reached begun bs session start now) (append_assoc read taken (line ++ 10 ∷ [])) reached,
)

pub stops_within : (begun : State) (read all taken rest line after : List ℕ) (fault : ScriptFault) (waits : List ℕ) (start now : Option (List ℕ)) → all ≡ taken ++ rest → rest ≡ line ++ 10 ∷ after
    → Stops begun ((read ++ taken) ++ (line ++ 10 ∷ [])) fault waits start now → Stops begun (read ++ all) fault waits start now
stops_within begun read all taken rest line after fault waits start now whole cut stops =
    subst (λ (bs : List ℕ). Stops begun bs fault waits start now) (sym (after_line read all taken rest line after whole cut)) (stops_on begun ((read ++ taken) ++ (line ++ 10 ∷ [])) after fault waits start now stops)

pub at_rest : (read all taken rest : List ℕ) → all ≡ taken ++ rest → (read ++ taken) ++ rest ≡ read ++ all
at_rest read all taken rest whole = append_assoc read taken rest ∙ ap (λ bs. read ++ bs) (sym whole)

-- ---- Replies that waited

-- a session whose replies were all written stands where it stood
pub written_out : (begun : State) (read : List ℕ) (old new : Session) (start held holds : Option (List ℕ)) → Reached begun read old start held
    → new.core ≡ old.core → new.line ≡ old.line → new.lines ≡ old.lines → new.output ≡ [] → Appends held holds old.output → Reached begun read new start holds
written_out begun read old new start held holds reached core line lines output wrote = record {
  sound = reached.sound;
  line = ap (λ l. l.items) line ∙ reached.line;
  short = subst (λ (bs : List ℕ). length bs ≤ 100) (sym (ap (λ l. l.items) line)) reached.short;
  lines = lines ∙ reached.lines;
  state = ap (λ c. c.state) core ∙ reached.state;
  text = subst (λ (waits : List ℕ). LeavesUnwritten start holds (replies_text begun (events_in (closed_lines read))) waits) (sym output)
      (wrote_all start held holds (replies_text begun (events_in (closed_lines read))) old.output reached.text wrote);
}

-- and one whose write failed stops there
pub stops_writing : (begun : State) (read : List ℕ) (old : Session) (waits : List ℕ) (start held holds : Option (List ℕ)) → Reached begun read old start held
    → waits ≡ [] → AppendsFront held holds old.output → Stops begun read WriteFailed waits start holds
stops_writing begun read old waits start held holds reached none front =
    (closed_lines read, none, begins_at read reached.sound, wrote_front start held holds (replies_text begun (events_in (closed_lines read))) old.output reached.text front)
