use Rattle.std.proofs.Common.{take}
use Rattle.address_space.specs.Stays.{FramesStay, none_goes}
use Rattle.process_table.specs.Image.{memory_of}
use Rattle.image_restore.proofs.OfferLemmas.{AreMade}
use Rattle.image_restore.proofs.wide.make_offers.Given as goal

abbrev pub invariant-loop-place : goal.invariant-loop-place
invariant-loop-place l = AreMade l.fn.core.state l.core.state (take l.place l.offers)
    × FramesStay none_goes (memory_of l.fn.core) (memory_of l.core)
