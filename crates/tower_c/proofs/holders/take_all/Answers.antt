use Rattle.std.proofs.Common.{◌≡◌, ◌≤◌, ◌+◌, ◌++◌, ◌-◌, ◌∙◌, ℕ, List, length, map, take, refl, sym, subst, arith}
use Rattle.address_space.specs.Spaces.{Slot, at_page}
use Rattle.process_table.specs.View.{View}
use Rattle.kernel_acts.specs.TakenBack.{Taking}
use Rattle.kernel_acts.specs.declared.taking.Holder.{Holder}
use Rattle.kernel_acts.proofs.TakenTwice.{taking_none, taking_then, info_later}
use Rattle.std.proofs.lemmas.List.{map-append}
use Rattle.tower_c.specs.Holders.{holder_of}
use Rattle.tower_c.specs.declared.holders.TowerHolder.{TowerHolder}
use Rattle.tower_c.proofs.Listed.{part_take, part_long, part_rest}
use Rattle.tower_c.proofs.holders.take_all.Goals as goal

-- the slots of a part are taken after those before it
on : (v w u : View) (own : Slot) (xs ys zs : List TowerHolder) → zs ≡ xs ++ ys → Taking v w own (map holder_of xs) → Taking w u own (map holder_of ys) → Taking v u own (map holder_of zs)
on v w u own xs ys zs is a b =
    subst (λ (l : List TowerHolder). Taking v u own (map holder_of l)) (sym is)
    (subst (λ (l : List Holder). Taking v u own l) (sym (map-append holder_of xs ys))
    (taking_then v w u own (map holder_of xs) (map holder_of ys) a b))

pub loop-count-init : goal.loop-count-init
loop-count-init c = record {
  shown = c.requires.shown;
  taken = taking_none c.args.core.now (at_page c.args.pid c.args.page);
  most = omega arith;
  rest = refl;
}

pub returns-then-more-places-clause-taken : goal.returns-then-more-places-clause-taken
returns-then-more-places-clause-taken c =
    let count : ℕ = c.loop-count.count in
    let more : ℕ = c.take_some-more.result in
    let k : ℕ = count + c.min-places.result - count in
    let xs = c.loop-count.lost in
    let part = c.take_some-more.new.lost in
    let most = c.take_some-more.ensures.most in
    let long = c.take_some-more.auto.lost in
    on c.args.core.now c.loop-count.core c.take_some-more.new.core (at_page c.args.pid c.args.page) (take count xs) (take more part) _
    (part_take xs c.args.lost.now part count k more c.loop-count.invariant.most (omega (arith, most, long))) c.loop-count.invariant.taken c.take_some-more.ensures.taken

pub returns-then-more-places-clause-rest : goal.returns-then-more-places-clause-rest
returns-then-more-places-clause-rest c =
    let count : ℕ = c.loop-count.count in
    let more : ℕ = c.take_some-more.result in
    let k : ℕ = count + c.min-places.result - count in
    let most = c.take_some-more.ensures.most in
    let long = c.take_some-more.auto.lost in
    part_rest c.loop-count.lost c.args.lost.now c.take_some-more.new.lost count k more c.loop-count.invariant.most (omega (arith, most, long)) c.loop-count.invariant.rest long c.take_some-more.ensures.rest

pub loop-count-preserved : goal.loop-count-preserved
loop-count-preserved c =
    let count : ℕ = c.loop-count.count in
    let more : ℕ = c.take_some-more.result in
    let k : ℕ = count + c.min-places.result - count in
    let xs = c.loop-count.lost in
    let part = c.take_some-more.new.lost in
    let i = c.loop-count.invariant in
    let e = c.take_some-more.ensures in
    let most = e.most in
    let long = c.take_some-more.auto.lost in
    let within : more ≤ length part = omega (arith, most, long) in
    record {
      shown = info_later c.loop-count.core.state c.take_some-more.new.core.state c.args.pid c.args.page (map holder_of (take more part)) e.taken.taken ∙ i.shown;
      taken = on c.args.core.now c.loop-count.core c.take_some-more.new.core (at_page c.args.pid c.args.page) (take count xs) (take more part) _
          (part_take xs c.args.lost.now part count k more i.most within) i.taken e.taken;
      most = part_long xs c.args.lost.now part count k more i.most within;
      rest = part_rest xs c.args.lost.now part count k more i.most within i.rest long e.rest;
    }
