-- How a film continues, line by line.
use Rattle.std.proofs.Common.{◌≡◌, ℕ, ◌+◌, List, [], ◌∷◌, ◌++◌, length, Option, Some, None, refl, ap, subst, ◌∙◌, append-nil}
use Rattle.std.specs.Borrow.{Bor}
use Rattle.std.proofs.lemmas.List.Splits.{slice_split-cons_yes}
use Rattle.process_table.specs.State.{State, open_with}
use Rattle.memory_image.specs.Image.{Image}
use Rattle.memory_image.specs.Sound.{StandsFor}
use Rattle.script_run.specs.Script.{is_line_feed, lines_of, all_but_last, last_of, closed_lines, open_line}
use Rattle.script_run.specs.Progress.{IsOneLine}
use Rattle.script_run.proofs.LineLemmas.{lines_more, onto}
use Rattle.script_run.specs.Lines.{line_of}
use Rattle.script_run.specs.declared.lines.Line.TheVariants as line
use Rattle.kernel_calls.specs.Machine.{answer, next}
use Rattle.kernel_calls.specs.declared.calls.Event.{Event}
use Rattle.script_film.specs.Changes.{changes}
use Rattle.script_film.specs.Rows.{line_row, frames_row, end_row}
use Rattle.script_film.specs.Film.{Shows, boots, skips, steps, event_rows, IsFilm}
use Rattle.script_film.specs.Recordings.{Reaches}
use Rattle.script_film.specs.declared.ends.End.{End}
use Rattle.script_film.specs.declared.recording.Recording.{Recording}

-- ---- What is left

-- how many bytes are left, and one more where any line is
abbrev pub left_of : Option (Bor (List ℕ)) → ℕ
left_of None = 0
left_of (Some bytes) = length bytes.now + 1

abbrev pub lines_left : Option (Bor (List ℕ)) → List (List ℕ)
lines_left None = []
lines_left (Some bytes) = lines_of bytes.now

-- ---- The first line

pub one_line : (bytes : List ℕ) → IsOneLine bytes → lines_of bytes ≡ bytes ∷ []
unfolding IsOneLine
one_line bytes one = one

pub first_of : (bytes line after : List ℕ) → bytes ≡ line ++ 10 ∷ after → IsOneLine line → lines_of bytes ≡ line ∷ lines_of after
unfolding IsOneLine lines_of closed_lines open_line
first_of bytes line after is one =
    ap lines_of is ∙ lines_more line (10 ∷ after)
    ∙ ap (λ ls. all_but_last ls ++ onto (last_of ls) (lines_of (10 ∷ after))) one
    ∙ ap (λ ls. onto line ls) (slice_split-cons_yes is_line_feed 10 after refl)
    ∙ ap (λ l. l ∷ lines_of after) (append-nil line)

-- ---- No line yet, and one line more

pub shows_boot : (frames : ℕ) (rows : List ℕ) (s : State) (image : Image) → rows ≡ changes None image → s ≡ open_with frames → StandsFor image s → Shows frames [] 0 rows s image
shows_boot frames rows s image told state stands = rw (told, state) (boots {image = image} (subst (StandsFor image) state stands))

pub tells_line : (frames : ℕ) (lines : List (List ℕ)) (bytes : List ℕ) (events : ℕ) (rows new_rows : List ℕ) (s : State) (image : Image) → Shows frames lines events rows s image → line_of bytes ≡ line.Skipped
    → new_rows ≡ rows ++ line_row bytes → Shows frames (lines ++ bytes ∷ []) events new_rows s image
tells_line frames lines bytes events rows new_rows s image shows is told = rw told (skips shows bytes is)

pub tells_event : (frames : ℕ) (lines : List (List ℕ)) (bytes : List ℕ) (event : Event) (events : ℕ) (rows new_rows : List ℕ) (s t : State) (before after : Image) → Shows frames lines events rows s before
    → line_of bytes ≡ line.Event event → new_rows ≡ rows ++ event_rows bytes (answer s event) before after → t ≡ next s event → StandsFor after (next s event)
    → Shows frames (lines ++ bytes ∷ []) (events + 1) new_rows t after
tells_event frames lines bytes event events rows new_rows s t before after shows is told state stands = rw (told, state) (steps shows bytes event is stands)

-- ---- The whole

pub whole_film : (frames : ℕ) (script text : List ℕ) (end : End) (recording : Recording) → Reaches frames script end recording → text ≡ frames_row frames ++ (recording.rows.items ++ end_row end) → IsFilm frames script text end
whole_film frames script text end recording reaches whole = record {
  shown = reaches.0;
  rest = reaches.1;
  lines = reaches.2;
  events = recording.events;
  rows = recording.rows.items;
  state = recording.core.state;
  image = recording.image;
  shows = reaches.3;
  ends = reaches.4;
  whole = whole;
}
