use Rattle.address_space.proofs.Prelude.{◌≡◌, ap, ◌∙◌, arith, pages_of, regions_of, spaces_in, bool_counted, counted}
use Rattle.address_space.proofs.costs.ChargeLemmas.{regions_below, regions_at_first, regions_next, regions_at_last}
use Rattle.address_space.proofs.charges.tables.Goals as goal

pub loop-slot-init : goal.loop-slot-init
loop-slot-init c = record { so_far = λ D R p stands live. regions_at_first D c.args.memory.now R p c.args.directory stands live; few = omega arith }

pub loop-slot-preserved : goal.loop-slot-preserved
loop-slot-preserved c = let bit = bool_counted c.has_table.result in record {
  so_far = λ D R p stands live. regions_next D c.args.memory.now R p c.args.directory stands live c.loop-slot.slot c.loop-slot.tables _
      c.loop-slot.auto.slot c.loop-slot-test.true (c.loop-slot.invariant.so_far D R p stands live) (bit.0 ∙ ap counted c.has_table.ensures);
  few = omega (arith, c.loop-slot.invariant.few, bit.1);
}

pub returns : goal.returns
returns c D R p stands live =
    let end : c.loop-slot.slot ≡ 960 = omega arith in
    c.loop-slot.invariant.so_far D R p stands live ∙ ap (regions_below (regions_of (pages_of (spaces_in D c.args.memory.now) p))) end
    ∙ regions_at_last D c.args.memory.now R p c.args.directory stands live
