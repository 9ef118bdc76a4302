use Rattle.kernel_calls.specs.declared.translations.Ended.TheVariants as end
use Rattle.shadow_core.proofs.Pairing.{shadowed_left}
use Rattle.shadow_core.proofs.ShadowedCore.forget_process.Goals as goal

pub invariant_of-self : goal.invariant_of-self
invariant_of-self c =
    shadowed_left c.self.inside.core c.self.inside.shadow c.forget_process.new.self (end.Space c.args.pid) c.self.invariant
    c.forget_process.ensures.translations c.forget_process.ensures.fixed.size
