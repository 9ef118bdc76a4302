use Rattle.std.proofs.Common.{◌<◌, length, subst, arith}
use Rattle.locked_core.proofs.CatchingUp.{takes_next}
use Rattle.locked_core.proofs.published_report.absorb_from.Goals as goal

pub loop-place-preserved : goal.loop-place-preserved
loop-place-preserved c =
    let inside : c.loop-place.place < length c.args.log.now.entries = subst (λ n. c.loop-place.place < n) c.len-place-end.ensures.length c.loop-place-test.true in (
      omega arith,
      λ frames legal start. takes_next c.args.log.now.entries c.loop-place.place c.at.result.now c.loop-place.report c.absorb.new.self inside c.at.ensures c.absorb.ensures frames legal (c.loop-place.invariant.1 frames legal start),
    )
