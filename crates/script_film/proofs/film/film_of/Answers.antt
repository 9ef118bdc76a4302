use Rattle.std.proofs.Common.{arith}
use Rattle.script_run.specs.Script.{limit}
use Rattle.script_film.proofs.film.film_of.Goals as goal

pub returns-then-script-gt-SCRIPT_BYTES-clause-fault : goal.returns-then-script-gt-SCRIPT_BYTES-clause-fault
unfolding limit
returns-then-script-gt-SCRIPT_BYTES-clause-fault c = omega arith
