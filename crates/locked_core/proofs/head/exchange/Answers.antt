use Rattle.std.proofs.Common.{◌≡◌, ◌+◌, sym, ◌∙◌, ap}
use Rattle.locked_core.proofs.Adding.{adds_moves}
use Rattle.locked_core.proofs.Moments.{entries_long}
use Rattle.locked_core.specs.Moments.{moment}
use Rattle.locked_core.proofs.head.exchange.Goals as goal
use Rattle.logbook.specs.Pages.{nib, may_write}

pub compare_exchange-requires : goal.compare_exchange-requires
compare_exchange-requires g c =
    let h = c.requires.word in
    let offer = c.plain-offer.ensures in
    let turn = c.into_pen-pen.ensures in
    let here = c.requires.seen.1 ∙ sym (ap (λ w. w.book) h) in
    let long = c.requires.seen.0 ∙ entries_long c.args.seen.now.log in
    let pen : c.into_pen-pen.result.nib ≡ nib may_write (c.args.count + 2) c.into_pen-pen.result.nib.value = λ i. nib (turn.1 i) ((turn.2 ∙ (c.requires.turn ∙ ap (λ n. n + 2) (sym long))) i) c.into_pen-pen.result.nib.value in (
      ap (λ w. w.tracked) h,
      here,
      turn.0 ∙ sym (ap (λ w. w.book) h),
      offer.0,
      rw (ap (λ w. w.key) h, pen, offer.1, offer.3) (adds_moves c.args.seen.now.log (moment c.args.done.now.entry.now c.args.done.now.core.now) c.args.count c.into_pen-pen.result.nib.value long),
    )
