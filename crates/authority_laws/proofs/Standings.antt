-- The parts of how a process stands.
use Rattle.authority_laws.proofs.Prelude.{ℕ, Bool, Standing}

abbrev pub live_in : Standing → Bool
live_in x = x.live

abbrev pub quota_in : Standing → ℕ
quota_in x = x.quota

abbrev pub given_in : Standing → ℕ
given_in x = x.given

abbrev pub children_in : Standing → ℕ
children_in x = x.children
