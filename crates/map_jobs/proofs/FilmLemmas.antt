-- That the command line of a film is one whose faults clap finds exactly.
use Rattle.std.proofs.Common.{◌≡◌, true, refl}
use Rattle.clap.specs.Faults.{is_simple_and_free}
use Rattle.clap.proofs.OnLiterals.{clap_on_literals}
use Rattle.map_jobs.specs.Films.{film_app}

pub film_is_free : is_simple_and_free film_app ≡ true
unfolding clap_on_literals
film_is_free = refl
