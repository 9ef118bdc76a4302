-- Events, replies and faults of lines, one after the other.
use Rattle.std.proofs.Common.{◌≡◌, ℕ, ◌+◌, ◌-◌, ◌<◌, ◌≤◌, Bool, true, false, not, cond, List, [], ◌∷◌, ◌++◌, length, take, refl, ap, ◌∙◌, arith, append-nil, length-append, Option, Some, None, position}
use Rattle.std.specs.Prelude.{nat_lt, take_while}
use Rattle.std.specs.Option.{option_map, option_or}
use Rattle.std.specs.List.{list_all, prefix_len, position_or_len, flat_map}
use Rattle.std.proofs.lemmas.Bool.{and_parts, and_from, lt-ltb, le-ltb, le-leb, lt-leb}
use Rattle.std.proofs.lemmas.List.Folds.{list_all-append}
use Rattle.std.proofs.lemmas.List.Elements.{filter_map-append}
use Rattle.std.proofs.lemmas.List.Concat.{flat_map-append}
use Rattle.std.proofs.lemmas.List.{take_at, take_all}
use Rattle.std.proofs.Math.Numerals.{one-add}
use Rattle.std.proofs.Math.Seq.{take-append-add}
use Rattle.process_table.specs.State.{State}
use Rattle.kernel_calls.specs.Machine.{answer, answers, end_of}
use Rattle.kernel_calls.specs.declared.calls.Event.{Event}
use Rattle.script_run.specs.declared.faults.ScriptFault.{ScriptFault}
use Rattle.script_run.specs.declared.faults.ScriptFault.TheVariants.{Malformed, TooLong}
use Rattle.script_run.specs.declared.lines.Line.{Line}
use Rattle.script_run.specs.declared.lines.Line.TheVariants as line
use Rattle.script_run.specs.Lines.{line_of, is_too_long}
use Rattle.script_run.specs.Replies.{reply_line, text_of}
use Rattle.script_run.specs.Script.{limit, closed_lines, open_line, judged_to, is_whole, judged, said_event, is_malformed, is_sound, events_in, events_of, fault_of, replies_text}
use Rattle.script_run.proofs.LineLemmas.{judged_whole, judged_cut}
use Rattle.script_run.specs.Progress.{state_after, text_after, Begins, Breaks}
use Rattle.kernel_calls.proofs.Runs.{answers-append, end_of-append}

-- ---- Runs

pub replies_text-append : (begun : State) (xs ys : List Event) → replies_text begun (xs ++ ys) ≡ replies_text begun xs ++ text_of (answers (end_of begun xs) ys)
unfolding replies_text text_of
replies_text-append begun xs ys = ap (flat_map reply_line) (answers-append begun xs ys) ∙ flat_map-append reply_line (answers begun xs) _

-- ---- One line more

pub events_in-append : (xs ys : List (List ℕ)) → events_in (xs ++ ys) ≡ events_in xs ++ events_in ys
unfolding events_in
events_in-append xs ys = filter_map-append (λ bytes. said_event (line_of bytes)) xs ys

abbrev to_list : Option Event → List Event
to_list None = []
to_list (Some event) = event ∷ []

events_in_one : (bytes : List ℕ) → events_in (bytes ∷ []) ≡ to_list (said_event (line_of bytes))
unfolding events_in
events_in_one bytes = at_event (said_event (line_of bytes)) refl where
  at_event : (o : Option Event) → said_event (line_of bytes) ≡ o → events_in (bytes ∷ []) ≡ to_list (said_event (line_of bytes))
  at_event None e = rw e refl
  at_event (Some event) e = rw e refl

end_of_line : (s : State) (l : Line) → end_of s (to_list (said_event l)) ≡ state_after s l
end_of_line s line.Skipped = refl
end_of_line s line.Malformed = refl
end_of_line s (line.Event event) = refl

text_of_line : (s : State) (l : Line) → text_of (answers s (to_list (said_event l))) ≡ text_after s l
unfolding text_of
text_of_line s line.Skipped = refl
text_of_line s line.Malformed = refl
text_of_line s (line.Event event) = append-nil (reply_line (answer s event))

pub end_one_more : (s : State) (lines : List (List ℕ)) (bytes : List ℕ) → end_of s (events_in (lines ++ bytes ∷ [])) ≡ state_after (end_of s (events_in lines)) (line_of bytes)
end_one_more s lines bytes =
    ap (end_of s) (events_in-append lines (bytes ∷ []) ∙ ap (λ events. events_in lines ++ events) (events_in_one bytes))
    ∙ end_of-append s (events_in lines) _ ∙ end_of_line (end_of s (events_in lines)) (line_of bytes)

pub text_one_more : (begun : State) (lines : List (List ℕ)) (bytes : List ℕ) → replies_text begun (events_in (lines ++ bytes ∷ [])) ≡ replies_text begun (events_in lines) ++ text_after (end_of begun (events_in lines)) (line_of bytes)
text_one_more begun lines bytes =
    ap (replies_text begun) (events_in-append lines (bytes ∷ []) ∙ ap (λ events. events_in lines ++ events) (events_in_one bytes))
    ∙ replies_text-append begun (events_in lines) _ ∙ ap (λ text. replies_text begun (events_in lines) ++ text) (text_of_line (end_of begun (events_in lines)) (line_of bytes))

pub sound_one_more : (lines : List (List ℕ)) (bytes : List ℕ) → list_all is_sound lines ≡ true → is_malformed bytes ≡ false → list_all is_sound (lines ++ bytes ∷ []) ≡ true
sound_one_more lines bytes before here = list_all-append is_sound lines (bytes ∷ []) ∙ and_from _ _ before (and_from (is_sound bytes) true (ap not here) refl)

-- ---- The first malformed line

first_bad : (good : List (List ℕ)) (bad : List ℕ) (others : List (List ℕ)) → list_all is_sound good ≡ true → is_malformed bad ≡ true → prefix_len is_sound (good ++ bad ∷ others) ≡ length good
first_bad [] bad others sound is = ap (λ b. cond (not b) (1 + prefix_len is_sound others) 0) is
first_bad (line ∷ good) bad others sound is =
    let parts = and_parts (is_sound line) (list_all is_sound good) sound in
    ap (λ b. cond b (1 + prefix_len is_sound (good ++ bad ∷ others)) 0) parts.0 ∙ ap (λ n. 1 + n) (first_bad good bad others parts.1 is) ∙ one-add (length good)

no_bad : (good : List (List ℕ)) → list_all is_sound good ≡ true → prefix_len is_sound good ≡ length good
no_bad [] sound = refl
no_bad (line ∷ good) sound =
    let parts = and_parts (is_sound line) (list_all is_sound good) sound in
    ap (λ b. cond b (1 + prefix_len is_sound good) 0) parts.0 ∙ ap (λ n. 1 + n) (no_bad good parts.1) ∙ one-add (length good)

-- the fault and the events of lines that count, by where the script ends
abbrev fault_in : Bool → List (List ℕ) → Option ScriptFault
fault_in whole lines = option_or (option_map (λ place. Malformed (place + 1)) (position is_malformed lines)) (cond whole None (Some TooLong))

position_bad : (good : List (List ℕ)) (bad : List ℕ) (others : List (List ℕ)) → list_all is_sound good ≡ true → is_malformed bad ≡ true → position is_malformed (good ++ bad ∷ others) ≡ Some (length good)
position_bad good bad others sound is =
    let at : position_or_len is_malformed (good ++ bad ∷ others) ≡ length good = first_bad good bad others sound is in
    let within : length good < length (good ++ bad ∷ others) = omega (arith, length-append good (bad ∷ others)) in
    ap (λ n. cond (nat_lt n (length (good ++ bad ∷ others))) (Some n) None) at ∙ ap (λ b. cond b (Some (length good)) None) (lt-ltb _ _ within)

position_none : (good : List (List ℕ)) → list_all is_sound good ≡ true → position is_malformed good ≡ None
position_none good sound =
    let at : position_or_len is_malformed good ≡ length good = no_bad good sound in
    ap (λ n. cond (nat_lt n (length good)) (Some n) None) at ∙ ap (λ b. cond b (Some (length good)) None) (le-ltb (length good) (length good) (omega arith))

sound_before_bad : (good : List (List ℕ)) (bad : List ℕ) (others : List (List ℕ)) → list_all is_sound good ≡ true → is_malformed bad ≡ true → take_while is_sound (good ++ bad ∷ others) ≡ good
sound_before_bad good bad others sound is = ap (λ n. take n (good ++ bad ∷ others)) (first_bad good bad others sound is) ∙ take_at good (bad ∷ others) (length good) refl

sound_throughout : (good : List (List ℕ)) → list_all is_sound good ≡ true → take_while is_sound good ≡ good
sound_throughout good sound = ap (λ n. take n good) (no_bad good sound) ∙ take_all (length good) good (omega arith)

-- sound lines at the front stay, whatever follows
sound_start : (good others : List (List ℕ)) → list_all is_sound good ≡ true → (more : List (List ℕ)) × (take_while is_sound (good ++ others) ≡ good ++ more)
sound_start [] others sound = (take_while is_sound others, refl)
sound_start (line ∷ good) others sound =
    let parts = and_parts (is_sound line) (list_all is_sound good) sound in
    let later = sound_start good others parts.1 in
    (later.0, ap (λ b. take (cond b (1 + prefix_len is_sound (good ++ others)) 0) (line ∷ (good ++ others))) parts.0 ∙ ap (λ n. take n (line ∷ (good ++ others))) (one-add (prefix_len is_sound (good ++ others))) ∙ ap (λ lines. line ∷ lines) later.1)

-- ---- The whole script, from the bytes that were read of it

-- a script that goes on from bytes within the limit
judged_on : (read rest : List ℕ) → length read ≤ limit → judged (read ++ rest) ≡ judged_to (is_whole (read ++ rest)) (read ++ take (limit - length read) rest)
unfolding judged
judged_on read rest fits =
    let split : limit ≡ length read + (limit - length read) = omega arith in
    ap (judged_to (is_whole (read ++ rest))) (ap (λ n. take n (read ++ rest)) split ∙ take-append-add read rest (limit - length read))

-- where it breaks off at a malformed line
pub fault_malformed : (read rest : List ℕ) (good : List (List ℕ)) → length read ≤ limit → Breaks read good → fault_of (read ++ rest) ≡ Some (Malformed (length good + 1))
unfolding fault_of
fault_malformed read rest good fits breaks =
    let next = breaks.next (is_whole (read ++ rest)) (take (limit - length read) rest) in
    ap (fault_in (is_whole (read ++ rest))) (judged_on read rest fits ∙ next.2)
    ∙ ap (λ o. option_or (option_map (λ place. Malformed (place + 1)) o) (cond (is_whole (read ++ rest)) None (Some TooLong))) (position_bad good next.0 next.1 breaks.sound next.3)

pub events_before_malformed : (read rest : List ℕ) (good : List (List ℕ)) → length read ≤ limit → Breaks read good → events_of (read ++ rest) ≡ events_in good
unfolding events_of
events_before_malformed read rest good fits breaks =
    let next = breaks.next (is_whole (read ++ rest)) (take (limit - length read) rest) in
    ap (λ lines. events_in (take_while is_sound lines)) (judged_on read rest fits ∙ next.2) ∙ ap events_in (sound_before_bad good next.0 next.1 breaks.sound next.3)

-- where all that is known is how it begins
pub events_begin : (read rest : List ℕ) (good : List (List ℕ)) → length read ≤ limit → Begins read good → (more : List Event) × (events_of (read ++ rest) ≡ events_in good ++ more)
unfolding events_of
events_begin read rest good fits begins =
    let next = begins.next (is_whole (read ++ rest)) (take (limit - length read) rest) in
    let start = sound_start good next.0 begins.sound in
    (events_in start.0, ap (λ lines. events_in (take_while is_sound lines)) (judged_on read rest fits ∙ next.1) ∙ ap events_in start.1 ∙ events_in-append good start.0)

-- where it ends
pub judged_at_end : (read : List ℕ) → length read ≤ limit → judged read ≡ closed_lines read ++ open_line read ∷ []
unfolding judged is_whole
judged_at_end read fits = ap (λ b. judged_to b (take limit read)) (le-leb (length read) limit fits) ∙ ap (judged_to true) (take_all limit read fits) ∙ judged_whole read

pub fault_at_end : (read : List ℕ) → length read ≤ limit → list_all is_sound (closed_lines read ++ open_line read ∷ []) ≡ true → fault_of read ≡ None
unfolding fault_of is_whole
fault_at_end read fits sound =
    ap (fault_in (is_whole read)) (judged_at_end read fits) ∙ ap (λ o. option_or (option_map (λ place. Malformed (place + 1)) o) (cond (is_whole read) None (Some TooLong))) (position_none _ sound)
    ∙ ap (λ b. cond b None (Some TooLong)) (le-leb (length read) limit fits)

pub events_at_end : (read : List ℕ) → length read ≤ limit → list_all is_sound (closed_lines read ++ open_line read ∷ []) ≡ true → events_of read ≡ events_in (closed_lines read ++ open_line read ∷ [])
unfolding events_of
events_at_end read fits sound = ap (λ lines. events_in (take_while is_sound lines)) (judged_at_end read fits) ∙ ap events_in (sound_throughout _ sound)

-- where its last line, without a line feed, is malformed
pub fault_at_last : (read : List ℕ) → length read ≤ limit → list_all is_sound (closed_lines read) ≡ true → is_malformed (open_line read) ≡ true → fault_of read ≡ Some (Malformed (length (closed_lines read) + 1))
unfolding fault_of
fault_at_last read fits sound bad =
    ap (fault_in (is_whole read)) (judged_at_end read fits) ∙ ap (λ o. option_or (option_map (λ place. Malformed (place + 1)) o) (cond (is_whole read) None (Some TooLong))) (position_bad (closed_lines read) (open_line read) [] sound bad)

pub events_at_last : (read : List ℕ) → length read ≤ limit → list_all is_sound (closed_lines read) ≡ true → is_malformed (open_line read) ≡ true → events_of read ≡ events_in (closed_lines read)
unfolding events_of
events_at_last read fits sound bad = ap (λ lines. events_in (take_while is_sound lines)) (judged_at_end read fits) ∙ ap events_in (sound_before_bad (closed_lines read) (open_line read) [] sound bad)

-- where it goes on past the limit
judged_past : (read : List ℕ) (b : ℕ) (rest : List ℕ) → length read ≡ limit → is_too_long (open_line read) ≡ false → judged (read ++ b ∷ rest) ≡ closed_lines read
unfolding judged is_whole
judged_past read b rest at short =
    let over : limit < length (read ++ b ∷ rest) = omega (arith, length-append read (b ∷ rest)) in
    ap (λ t. judged_to t (take limit (read ++ b ∷ rest))) (lt-leb (length (read ++ b ∷ rest)) limit over) ∙ ap (judged_to false) (take_at read (b ∷ rest) limit at) ∙ judged_cut read short

pub fault_past : (read : List ℕ) (b : ℕ) (rest : List ℕ) → length read ≡ limit → is_too_long (open_line read) ≡ false → list_all is_sound (closed_lines read) ≡ true → fault_of (read ++ b ∷ rest) ≡ Some TooLong
unfolding fault_of is_whole
fault_past read b rest at short sound =
    let over : limit < length (read ++ b ∷ rest) = omega (arith, length-append read (b ∷ rest)) in
    ap (fault_in (is_whole (read ++ b ∷ rest))) (judged_past read b rest at short) ∙ ap (λ o. option_or (option_map (λ place. Malformed (place + 1)) o) (cond (is_whole (read ++ b ∷ rest)) None (Some TooLong))) (position_none _ sound)
    ∙ ap (λ t. cond t None (Some TooLong)) (lt-leb (length (read ++ b ∷ rest)) limit over)

pub events_past : (read : List ℕ) (b : ℕ) (rest : List ℕ) → length read ≡ limit → is_too_long (open_line read) ≡ false → list_all is_sound (closed_lines read) ≡ true → events_of (read ++ b ∷ rest) ≡ events_in (closed_lines read)
unfolding events_of
events_past read b rest at short sound = ap (λ lines. events_in (take_while is_sound lines)) (judged_past read b rest at short) ∙ ap events_in (sound_throughout _ sound)
