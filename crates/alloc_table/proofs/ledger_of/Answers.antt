use Rattle.std.proofs.Common.{◌≡◌, ◌-◌, ap, ◌∙◌, arith}
use Rattle.alloc_table.proofs.Freeing.{free_above, free_above-before, free_above-all}
use Rattle.alloc_table.proofs.ledger_of.Goals as goal

pub put_back_free-requires-clause-in_use : goal.put_back_free-requires-clause-in_use
put_back_free-requires-clause-in_use c =
    grind (arith, free_above-before, c.loop-frame.invariant.free, c.loop-frame-test.true)

pub returns-clause-ledger : goal.returns-clause-ledger
returns-clause-ledger c =
    let first : c.loop-frame.frame ≡ 1 = omega (arith, c.loop-frame-test.false, c.loop-frame.invariant.first) in
    c.loop-frame.invariant.free ∙ ap (λ frame. free_above frame c.args.roles.now) first ∙ free_above-all c.args.roles.now c.requires.reserved
