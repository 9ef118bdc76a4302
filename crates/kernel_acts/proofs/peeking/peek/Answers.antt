use Rattle.kernel_acts.proofs.Prelude.{◌+◌, ◌-◌, ◌≤◌, ℕ, refl, sym, length, arith}
use Rattle.kernel_acts.proofs.Peeked.{peeked_on, mapped_more}
use Rattle.kernel_acts.proofs.peeking.peek.Goals as goal

pub loop-done-preserved : goal.loop-done-preserved
loop-done-preserved c =
    let s = c.args.core.now.state in
    let i = c.loop-done.invariant in
    let done : ℕ = c.loop-done.done in
    let count : ℕ = c.count_in_page-count.result in
    let most = c.count_in_page-count.ensures.most in
    let within = i.within in
    let place = i.place in
    let at = c.at.view_is in
    let fits : done + count ≤ length c.loop-done.out = omega (arith, most, within) in
    let on = peeked_on s.spaces c.args.pid c.args.address c.loop-done.at done count (done + count - done) c.args.out.now c.loop-done.out c.peek_in_page.new.out place fits (omega arith)
    c.peek_in_page.auto.out i.bytes i.rest (c.if-not-peek_in_page.ensures.bytes refl) in
    let long = on.long in
    record {
      place = omega (arith, at, place);
      within = omega (arith, fits, long);
      bytes = on.bytes;
      rest = on.rest;
      mapped = mapped_more s c.args.pid c.args.address c.loop-done.at done count place (let w = c.count_in_page-count.ensures.within in w) (sym c.if-not-peek_in_page.ensures.mapped) i.mapped;
    }
