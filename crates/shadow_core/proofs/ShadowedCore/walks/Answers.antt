use Rattle.std.proofs.Common.{subst}
use Rattle.shadow_core.specs.Paired.{TranslationsAreRead, AccessesAreServed, AccessesAreKept}
use Rattle.shadow_core.proofs.ShadowedCore.walks.Goals as goal

pub returns-clause-read : goal.returns-clause-read
returns-clause-read c = subst TranslationsAreRead c.self.view_is c.walks.ensures.read

pub returns-clause-accesses : goal.returns-clause-accesses
returns-clause-accesses c = subst AccessesAreServed c.self.view_is c.walks.ensures.accesses

pub returns-clause-steps : goal.returns-clause-steps
returns-clause-steps c = subst AccessesAreKept c.self.view_is c.walks.ensures.steps
