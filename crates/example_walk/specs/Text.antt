-- What the example writes of how a walk ends.
use Rattle.std.specs.Prelude.{ℕ, List, ◌++◌, Option, Some, None, Result, Ok, Err, codes, decimal}
use Rattle.table_walk.specs.declared.WalkEnd.{WalkEnd}
use Rattle.table_walk.specs.declared.WalkEnd.TheVariants.{Fault, Outside}

-- the line about the end of a walk
abbrev pub walk_text : Option (Result ℕ WalkEnd) → List ℕ
walk_text None = codes "walk: no such process"
walk_text (Some (Ok frame)) = codes "walk: frame " ++ decimal frame
walk_text (Some (Err (Fault fault))) = codes "walk: page fault, code " ++ decimal fault.code
walk_text (Some (Err Outside)) = codes "walk: outside memory"
