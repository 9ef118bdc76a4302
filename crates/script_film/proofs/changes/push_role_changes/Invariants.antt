use Rattle.std.proofs.Common.{◌≡◌, ◌++◌}
use Rattle.std.specs.List.{flat_map, range_with_len}
use Rattle.std.specs.Option.{option_map}
use Rattle.script_film.specs.Changes.{role_change}
use Rattle.script_film.proofs.changes.push_role_changes.Given as goal

abbrev pub invariant-loop-frame : goal.invariant-loop-frame
invariant-loop-frame l = l.text.items ≡ l.initial.text.items ++ flat_map (role_change (option_map (λ i. i.now) l.before) l.after) (range_with_len 0 l.frame)
