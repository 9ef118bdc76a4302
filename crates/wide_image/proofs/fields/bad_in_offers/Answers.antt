use Rattle.std.proofs.Common.{◌+◌, sym, ap, ◌∙◌, arith}
use Rattle.std.specs.Prelude.{is_some}
use Rattle.wide_image.specs.Faults.{bad_offer}
use Rattle.wide_image.proofs.Loops.{offers_from, offers_begin, offers_go_on, offers_stop, offers_end}
use Rattle.wide_image.proofs.fields.bad_in_offers.Goals as goal

pub loop-number-init : goal.loop-number-init
loop-number-init c = offers_begin c.args.bytes.now c.args.count

pub loop-number-preserved : goal.loop-number-preserved
loop-number-preserved c =
    offers_go_on c.args.bytes.now c.args.count (bad_offer c.args.bytes.now 0 1556 c.args.count) c.loop-number.from c.loop-number.number (omega arith) c.loop-number.invariant (sym (c.is_some.ensures ∙ ap is_some c.bad_in_offer-bad.ensures) ∙ c.if-is_some.false)
    ∙ ap (λ k. offers_from c.args.bytes.now c.args.count k (c.loop-number.number + 1)) (sym (ap (λ k. k + 1) c.rank_at-from.ensures.is))

pub returns-then-is_some : goal.returns-then-is_some
returns-then-is_some c =
    offers_stop c.args.bytes.now c.args.count (bad_offer c.args.bytes.now 0 1556 c.args.count) c.bad_in_offer-bad.result c.loop-number.from c.loop-number.number (omega arith) c.loop-number.invariant c.bad_in_offer-bad.ensures (sym c.is_some.ensures ∙ c.if-is_some.true)

pub returns : goal.returns
returns c = offers_end c.args.bytes.now c.args.count (bad_offer c.args.bytes.now 0 1556 c.args.count) c.loop-number.from c.loop-number.number (omega arith) c.loop-number.invariant
