-- The lines before the rest are told.
use Rattle.std.proofs.Common.{◌≡◌, ℕ, ◌+◌, ◌≤◌, ◌++◌, List, [], length}
use Rattle.script_run.specs.Script.{lines_of}
use Rattle.script_film.specs.Recordings.{Records}
use Rattle.script_film.proofs.FilmLemmas.{left_of, lines_left}
use Rattle.script_film.proofs.film.take_lines.Given as goal

abbrev pub invariant-loop-rest : goal.invariant-loop-rest
invariant-loop-rest l = record {
  events : l.recording.events ≤ 2000;
  lines : l.number + left_of l.rest ≤ length l.fn.script + 2;
  told : (frames : ℕ) → Records frames [] l.fn.recording → (shown : List (List ℕ)) × (length shown + 1 ≡ l.number) × (lines_of l.fn.script ≡ shown ++ lines_left l.rest) × Records frames shown l.recording;
}

abbrev pub decreases-loop-rest : goal.decreases-loop-rest
decreases-loop-rest l = left_of l.rest
