use Rattle.address_space.proofs.Prelude.{◌≡◌, map, range_with_len, counted_at}
use Rattle.address_space.proofs.restoring.counts_of.Given as goal

abbrev pub invariant-loop-place : goal.invariant-loop-place
invariant-loop-place l = l.counts.items ≡ map (counted_at l.memory l.roles) (range_with_len 0 l.place)
