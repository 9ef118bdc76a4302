use Rattle.image_check.specs.Counts.{sum_range}
use Rattle.image_check.specs.Adds.{Adds, maps_first}
use Rattle.image_check.proofs.repeated_names.count_tables.Given as goal

abbrev pub invariant-loop-count : goal.invariant-loop-count
invariant-loop-count l = Adds l.fn.maps l.maps (λ f. sum_range (λ k. maps_first l.image l.fn.pid k f) 0 l.count)
