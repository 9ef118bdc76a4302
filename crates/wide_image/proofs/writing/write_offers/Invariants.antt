-- What is not written yet are the offers from the next one on.
use Rattle.std.proofs.Common.{drop}
use Rattle.std.specs.List.{flat_map}
use Rattle.text_output.specs.Output.{LeavesUnwritten}
use Rattle.wide_image.specs.Offers.{offer_bytes}
use Rattle.wide_image.proofs.writing.write_offers.Given as goal

abbrev pub invariant-loop-place : goal.invariant-loop-place
invariant-loop-place g l = LeavesUnwritten (g.W.Write.contents l.fn.writer) (g.W.Write.contents l.writer) (flat_map offer_bytes l.offers) (flat_map offer_bytes (drop l.place l.offers))
