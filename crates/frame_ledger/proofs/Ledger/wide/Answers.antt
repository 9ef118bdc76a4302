use Rattle.std.proofs.Common.{◌≡◌, ◌-◌, ap, ◌∙◌, arith}
use Rattle.frame_ledger.proofs.Chains.{free_from, free_from-opening, contains-free_from}
use Rattle.frame_ledger.proofs.Ledger.wide.Goals as goal

pub put_back-requires-clause-in_use : goal.put_back-requires-clause-in_use
put_back-requires-clause-in_use c =
    grind (arith, contains-free_from, c.loop-frame.invariant.free, c.loop-frame-test.true)

pub returns-clause-ledger : goal.returns-clause-ledger
returns-clause-ledger c =
    let first : c.loop-frame.frame ≡ 1 = omega (arith, c.loop-frame-test.false, c.loop-frame.invariant.first) in
    c.loop-frame.invariant.free ∙ ap (λ frame. free_from frame c.args.frames) first ∙ free_from-opening c.args.frames
