use Rattle.wide_image.proofs.GatherLemmas.{valid_offers}
use Rattle.wide_image.proofs.gathering.are_valid.Goals as goal

pub returns : goal.returns
returns c = valid_offers c.args.core.now.state c.stands.ensures.well_formed
