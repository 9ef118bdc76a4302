use Rattle.std.proofs.Common.{◌≤◌, sym, ◌∙◌, ap, length, subst}
use Rattle.locked_core.proofs.Adding.{claims_moves}
use Rattle.locked_core.proofs.turn.Turn.take.Goals as goal
use Rattle.locked_core.specs.Moments.{moment}
use Rattle.locked_core.specs.Names.{no_core}

pub compare_exchange-found-requires : goal.compare_exchange-found-requires
compare_exchange-found-requires g c =
    let h = c.requires.word in
    let offer = c.plain-offer.ensures in
    let pen = c.no_pen-pen.ensures in
    let book = ap (λ s. s.book) c.again-seen.ensures in
    let here = book ∙ (c.requires.seen.1 ∙ sym (ap (λ w. w.book) h)) in (
      ap (λ w. w.tracked) h,
      here,
      pen.0 ∙ here,
      offer.0,
      rw (ap (λ w. w.key) h, pen.1, offer.3) (claims_moves c.again-seen.result.log (moment c.no_entry.result no_core) c.args.count (subst (λ n. c.args.count ≤ n) (sym (ap (λ s. length s.log) c.again-seen.ensures)) c.requires.seen.0)),
    )
