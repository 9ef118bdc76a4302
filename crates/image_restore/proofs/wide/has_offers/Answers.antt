use Rattle.std.proofs.Common.{arith}
use Rattle.wide_image.proofs.Passing.{few_offers}
use Rattle.image_restore.proofs.wide.has_offers.Goals as goal

pub returns-clause-few : goal.returns-clause-few
returns-clause-few c =
    let f = few_offers 0 c.args.image.now.offers (omega arith) c.within.ensures.fields.offers.pending c.within.ensures.fields.offers.rise in
    omega (arith, f)

pub returns-clause-rise : goal.returns-clause-rise
returns-clause-rise c = c.within.ensures.fields.offers.rise
