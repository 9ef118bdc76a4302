-- Which subcommands a command line may name.
use Rattle.std.proofs.Common.{◌≡◌, true, [], ◌∷◌, refl}
use Rattle.clap.specs.Kinds.{Kinds, or_else}
use Rattle.clap.specs.Simple.{is_simple}
use Rattle.clap.specs.Faults.{is_simple_and_free}
use Rattle.clap.proofs.OnLiterals.{clap_on_literals}
use Rattle.tower_cli.specs.Jobs.{tower_app}

pub tower_is_simple : is_simple tower_app ≡ true
unfolding clap_on_literals
tower_is_simple = refl

pub tower_is_free : is_simple_and_free tower_app ≡ true
unfolding clap_on_literals
tower_is_free = refl

-- ---- No fault in either part

pub first_none : (a b : Kinds) → or_else a b ≡ [] → a ≡ []
first_none [] b none = refl
first_none (k ∷ ks) b none = cc

pub second_none : (a b : Kinds) → or_else a b ≡ [] → b ≡ []
second_none [] b none = none
second_none (k ∷ ks) b none = cc
