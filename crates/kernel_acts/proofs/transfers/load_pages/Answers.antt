use Rattle.kernel_acts.proofs.Prelude.{◌+◌, ◌-◌, ◌≤◌, ◌∙◌, ap, arith, length, refl, stays_then, View, answer, load_byte}
use Rattle.kernel_acts.proofs.TransferLemmas.{read_whole, read_stopped, read_on, mid_same}
use Rattle.kernel_acts.proofs.transfers.load_pages.Goals as goal

pub returns-in-Some-clause-read : goal.returns-in-Some-clause-read
returns-in-Some-clause-read c =
    let t = c.loop-done.core.state in
    let p = c.args.pid in
    let i = c.loop-done.invariant in
    let long = c.loop-done.auto.out in
    let less = c.loop-done-test.true in
    let done = c.loop-done.done in
    let count = c.count_in_page-count.result in
    let kept = c.in-Some.ensures.kept refl in
    let r = read_stopped c.args.core.now.state t p c.args.address done c.args.out.now c.loop-done.out c.in-Some.reply i.loaded i.rest (omega (arith, less, long))
    (c.in-Some.ensures.told ∙ ap (λ k. answer t (load_byte p k)) i.place) c.in-Some.ensures.stops in
    rw c.stopped_at.ensures (record {
      count = r.count;
      stop = r.stop;
      bytes = mid_same c.loop-done.out c.load_in_page.new.out done (done + count - done) kept.1 ∙ r.bytes;
      state = ap (λ (v : View). v.state) kept.0 ∙ r.state;
    })

pub loop-done-preserved : goal.loop-done-preserved
loop-done-preserved c =
    let s = c.args.core.now.state in
    let t = c.loop-done.core.state in
    let u = c.load_in_page.new.core.state in
    let p = c.args.pid in
    let a = c.args.address in
    let i = c.loop-done.invariant in
    let done = c.loop-done.done in
    let count = c.count_in_page-count.result in
    let most = c.count_in_page-count.ensures.most in
    let some = c.count_in_page-count.ensures.some in
    let within = i.within in
    let place = i.place in
    let at = c.at.view_is in
    let fits : done + count ≤ length c.loop-done.out = omega (arith, most, within) in
    let on = read_on s t u p a c.loop-done.at done count (done + count - done) c.args.out.now c.loop-done.out c.load_in_page.new.out place fits (omega arith) c.load_in_page.auto.out i.loaded i.rest
    (c.in_default.ensures.loaded refl) in
    let long = on.long in
    record {
      place = omega (arith, at, place);
      within = omega (arith, fits, long);
      loaded = on.loaded;
      rest = on.rest;
      stay = stays_then i.stay c.load_in_page.ensures.stay;
      still = λ none. absurd (omega (arith, none, some));
    }

pub returns-clause-read : goal.returns-clause-read
returns-clause-read c =
    let i = c.loop-done.invariant in
    let long = c.loop-done.auto.out in
    let within = i.within in
    let ended = c.loop-done-test.false in
    read_whole c.args.core.now.state c.loop-done.core.state c.args.pid c.args.address c.loop-done.done c.args.out.now c.loop-done.out i.loaded i.rest (omega (arith, long, within, ended))
