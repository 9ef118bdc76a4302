use Rattle.kernel_acts.proofs.Prelude.{rules, ◌≡◌, ◌<◌, ℕ, length, slice_set, arith, at_page, Holder}
use Rattle.std.proofs.Math.ListN.{length-set}
use Rattle.kernel_acts.proofs.Lists.{set_rest}
use Rattle.kernel_acts.proofs.Unmaps.{taking_on, clear_on, clear_up}
use Rattle.kernel_acts.proofs.taking.take_from.Goals as goal

pub loop-found-preserved : goal.loop-found-preserved
loop-found-preserved c =
    let w = c.loop-found.core in
    let u = c.unmap_beside.new.core in
    let own = at_page c.args.pid c.args.page in
    let found : ℕ = c.in-Some.found in
    let h : Holder = record { pid = c.args.holder; page = found } in
    let count : ℕ = c.loop-found.count in
    let lost = c.loop-found.lost in
    let i = c.loop-found.invariant in
    let ww = c.stands.ensures.well_formed in
    let l = c.unmap_beside.ensures.unmapped in
    let is = c.found.view_is in
    let within : c.loop-found.count < length c.loop-found.lost = search rules in
    let long : length (slice_set c.loop-found.lost c.loop-found.count h) ≡ length c.loop-found.lost = length-set c.loop-found.lost c.loop-found.count h in
    record {
      room = omega (arith, long, within);
      more = (let m = i.more in omega (arith, m));
      rest = set_rest lost c.args.lost.now count h i.rest;
      taking = λ v t. taking_on v w u own count lost h ww (i.taking v t) l within;
      clear = λ other down. clear_up w u own c.args.holder c.loop-found.at found ww l i.clear c.in-Some.ensures.least other (omega (arith, down, is));
      others = λ slot none. clear_on w u own h ww l slot (i.others slot none);
    }
