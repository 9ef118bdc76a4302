use Rattle.std.proofs.Common.{refl}
use Rattle.integrity_checker.proofs.Finding.{nothing_found, none_at}
use Rattle.integrity_checker.proofs.findings.nothing.Goals as goal

pub returns : goal.returns
returns c = nothing_found _ _ _ _ refl (λ p low. none_at 64 p) c.requires.names c.requires.maps
