use Rattle.std.proofs.Common.{◌≡◌}
use Rattle.std.specs.Prelude.{map, take}
use Rattle.map_jobs.specs.Films.{asks_film}
use Rattle.map_jobs.proofs.jobs.asks_film.Given as given

abbrev pub invariant-loop-place : given.invariant-loop-place
invariant-loop-place g l = l.asks ≡ asks_film (map g.S.AsStr.text (take l.place l.words))
