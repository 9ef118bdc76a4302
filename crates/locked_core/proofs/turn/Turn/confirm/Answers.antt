use Rattle.std.proofs.Common.{◌≡◌, ◌+◌, sym, ◌∙◌, ap}
use Rattle.logbook.specs.Pages.{nib, may_write}
use Rattle.locked_core.proofs.Adding.{confirms_moves}
use Rattle.locked_core.proofs.turn.Turn.confirm.Goals as goal
use Rattle.locked_core.specs.Moments.{moment}
use Rattle.locked_core.specs.Names.{no_core}

pub compare_exchange-requires : goal.compare_exchange-requires
compare_exchange-requires g c =
    let h = c.requires.word in
    let offer = c.plain-offer.ensures in
    let book = ap (λ s. s.book) c.again-seen.ensures in
    let key : c.self.inside.pen.nib.key ≡ c.args.count + 2 = c.self.view_is ∙ c.requires.turn in
    let pen : c.self.inside.pen.nib ≡ nib may_write (c.args.count + 2) c.self.inside.pen.nib.value = λ i. nib (c.self.invariant.1 i) (key i) c.self.inside.pen.nib.value in (
      ap (λ w. w.tracked) h,
      book ∙ (c.requires.seen ∙ sym (ap (λ w. w.book) h)),
      c.self.invariant.0 ∙ sym (ap (λ w. w.book) h),
      offer.0,
      rw (ap (λ w. w.key) h, pen, offer.3) (confirms_moves c.again-seen.result.log (moment c.no_entry.result no_core) c.args.count c.self.inside.pen.nib.value),
    )
