use Rattle.std.proofs.Common.{sym, ◌∙◌, ap}
use Rattle.core_handover.proofs.Adding.{adds_moves}
use Rattle.core_handover.specs.Histories.{given}
use Rattle.core_handover.proofs.history.exchange.Goals as goal

pub compare_exchange-found-requires : goal.compare_exchange-found-requires
compare_exchange-found-requires c =
    let h = c.requires.head in
    let offer = c.plain-offer.ensures in
    let pen = c.no_pen-pen.ensures in
    let here = sym (ap (λ w. w.book) h) in (
      ap (λ w. w.tracked) h,
      here,
      pen.0 ∙ here,
      offer.0,
      rw (ap (λ w. w.key) h, pen.1, offer.1, offer.3) (adds_moves c.args.seen.now.log (given c.args.core.now) c.args.count c.requires.seen),
    )
