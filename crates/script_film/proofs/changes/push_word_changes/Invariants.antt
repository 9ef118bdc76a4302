use Rattle.std.proofs.Common.{◌≡◌, ◌++◌}
use Rattle.std.specs.List.{flat_map, range_with_len}
use Rattle.std.specs.Option.{option_map}
use Rattle.script_film.specs.Changes.{frame_changes}
use Rattle.script_film.proofs.changes.push_word_changes.Given as goal

abbrev pub invariant-loop-frame : goal.invariant-loop-frame
invariant-loop-frame l = l.text.items ≡ l.initial.text.items ++ flat_map (frame_changes (option_map (λ i. i.now) l.before) l.after) (range_with_len 0 l.frame)
