use Rattle.shadow_core.proofs.Pairing.{shadowed_after}
use Rattle.shadow_core.proofs.pairs.carry_out.Goals as goal

pub returns-clause-kept : goal.returns-clause-kept
returns-clause-kept c =
    shadowed_after c.args.core.now c.step_ending-told.new.self c.args.shadow.now c.forget.new.shadow c.step_ending-told.result.1 c.requires
    c.step_ending-told.ensures.ends c.forget.ensures.translations c.forget.ensures.fixed.size
