use Rattle.std.proofs.Common.{◌∙◌, arith}
use Rattle.tower_c.specs.Holders.{holder_of}
use Rattle.tower_c.proofs.Listed.{one_more_of}
use Rattle.tower_c.proofs.holders.list.Goals as goal

pub loop-i-preserved : goal.loop-i-preserved
loop-i-preserved c =
    let here = c.loop-i-test.true in
    let same = c.requires in
    let long = c.loop-i.auto.lost in
    record {
      told = one_more_of holder_of c.loop-i.lost c.args.holders.now c.loop-i.i c.holder_from.result c.index-holders-i.result (omega (arith, here, same, long)) here
          (c.holder_from.ensures ∙ c.index-holders-i.is) c.loop-i.invariant.told;
    }
