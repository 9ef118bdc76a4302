use Rattle.std.proofs.Common.{◌≡◌, ◌++◌}
use Rattle.std.specs.List.{flat_map, range_with_len}
use Rattle.std.specs.Option.{option_map}
use Rattle.script_film.specs.Changes.{word_change}
use Rattle.script_film.proofs.changes.push_frame_changes.Given as goal

abbrev pub invariant-loop-index : goal.invariant-loop-index
invariant-loop-index l = l.text.items ≡ l.initial.text.items ++ flat_map (word_change (option_map (λ i. i.now) l.before) l.after l.frame) (range_with_len 0 l.index)
