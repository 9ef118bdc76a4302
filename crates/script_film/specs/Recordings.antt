-- A film while it is recorded, and the result of recording a line.
use Rattle.std.specs.Prelude.{◌≡◌, ℕ, List, [], ◌∷◌, ◌++◌}
use Rattle.kernel_calls.specs.declared.calls.Event.{Event}
use Rattle.script_run.specs.declared.lines.Line.TheVariants as line
use Rattle.script_run.specs.Lines.{line_of}
use Rattle.script_run.specs.Script.{lines_of}
use Rattle.script_film.specs.declared.ends.End.{End}
use Rattle.script_film.specs.declared.recording.Recording.{Recording}
use Rattle.script_film.specs.declared.recording.Shot.{Shot}
use Rattle.script_film.specs.declared.recording.Shot.TheVariants.{Told, Malformed, TooMany}
use Rattle.script_film.specs.Film.{Shows, EndsAt, most_events}

-- it has told these lines
abbrev pub Records : ℕ → List (List ℕ) → Recording → Type 0
Records frames lines recording = Shows frames lines recording.events recording.rows.items recording.core.state recording.image

-- the line was recorded, or it is malformed, or it is an event beyond the most that a film shows
abbrev pub Follows : Shot → ℕ → List (List ℕ) → List ℕ → Recording → Type 0
Follows Told frames lines bytes recording = Records frames (lines ++ bytes ∷ []) recording
Follows Malformed frames lines bytes recording = Records frames lines recording × (line_of bytes ≡ line.Malformed)
Follows TooMany frames lines bytes recording = Records frames lines recording × (recording.events ≡ most_events) × ((event : Event) × (line_of bytes ≡ line.Event event))

-- the film of a script ends so: it has told all lines before the rest
abbrev pub Reaches : ℕ → List ℕ → End → Recording → Type 0
Reaches frames script end recording = (shown : List (List ℕ)) × (rest : List (List ℕ)) × (lines_of script ≡ shown ++ rest) × Records frames shown recording × EndsAt end shown recording.events rest
