use Rattle.std.proofs.Common.{rules, arith}
use Rattle.std.specs.List.{flat_map}
use Rattle.text_output.specs.Output.{AppendsFront}
use Rattle.text_output.proofs.OutputLemmas.{wrote_next, cut_next}
use Rattle.wide_image.specs.Offers.{offer_bytes}
use Rattle.wide_image.proofs.writing.write_offers.Goals as goal

pub loop-place-preserved : goal.loop-place-preserved
loop-place-preserved g c = wrote_next offer_bytes c.args.offers.now _ _ _ c.loop-place.place c.index-offers-place.result (omega arith) c.index-offers-place.is c.loop-place.invariant c.in_ok-write_offer.ensures.ok

pub returns-in_err-write_offer-clause-err : goal.returns-in_err-write_offer-clause-err
returns-in_err-write_offer-clause-err g c =
    let front : AppendsFront (g.W.Write.contents c.args.writer.now) (g.W.Write.contents c.write_offer.new.writer) (flat_map offer_bytes c.args.offers.now) =
    cut_next offer_bytes c.args.offers.now _ _ _ c.loop-place.place c.index-offers-place.result (omega arith) c.index-offers-place.is c.loop-place.invariant c.in_err-write_offer.ensures.err in
    search rules
