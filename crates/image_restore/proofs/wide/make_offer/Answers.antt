use Rattle.image_restore.proofs.Places.{offer_stays}
use Rattle.process_table.specs.Image.{memory_of}
use Rattle.image_restore.proofs.wide.make_offer.Goals as goal

pub returns-clause-stay : goal.returns-clause-stay
returns-clause-stay c = offer_stays c.args.core.now.state c.args.offer.now (memory_of c.args.core.now) (memory_of c.step.new.self) c.step.ensures.stay
