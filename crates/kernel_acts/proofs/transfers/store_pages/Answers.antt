use Rattle.kernel_acts.proofs.Prelude.{◌≡◌, ◌+◌, ◌-◌, ◌≤◌, ◌∙◌, ap, arith, length, take, drop, refl, slice_index, page_number, stays_then, stays_more, View, answer, store_byte}
use Rattle.kernel_acts.proofs.TransferSteps.{part_goes, more_goes}
use Rattle.kernel_acts.proofs.TransferLemmas.{written_whole, written_stopped, written_on}
use Rattle.kernel_acts.proofs.transfers.store_pages.Goals as goal

pub returns-in-Some-clause-written : goal.returns-in-Some-clause-written
returns-in-Some-clause-written c =
    let t = c.loop-done.core.state in
    let p = c.args.pid in
    let bytes = c.args.bytes.now in
    let i = c.loop-done.invariant in
    let done = c.loop-done.done in
    let count = c.count_in_page-count.result in
    let same : done + count - done ≡ count = omega arith in
    let w = written_stopped c.args.core.now.state t p c.args.address done count bytes c.in-Some.reply i.stored c.loop-done-test.true c.count_in_page-count.ensures.some
    (c.in-Some.ensures.told ∙ (λ k. answer t (store_byte p (i.place k) (slice_index (take (same k) (drop done bytes)) 0)))) c.in-Some.ensures.stops in
    rw c.stopped_at.ensures (record { count = w.count; stop = w.stop; state = ap (λ (v : View). v.state) (c.in-Some.ensures.kept refl) ∙ w.state })

pub loop-done-preserved : goal.loop-done-preserved
loop-done-preserved c =
    let i = c.loop-done.invariant in
    let done = c.loop-done.done in
    let count = c.count_in_page-count.result in
    let most = c.count_in_page-count.ensures.most in
    let some = c.count_in_page-count.ensures.some in
    let within = i.within in
    let place = i.place in
    let at = c.at.view_is in
    let fits : done + count ≤ length c.args.bytes.now = omega (arith, most, within) in
    record {
      place = omega (arith, at, place);
      within = fits;
      stored = written_on c.args.core.now.state c.loop-done.core.state c.store_in_page.new.core.state c.args.pid c.args.address c.loop-done.at done count (done + count - done) c.args.bytes.now
          place fits (omega arith) i.stored (c.in_default.ensures.stored refl);
      stay = stays_then (stays_more (λ slot f. more_goes c.args.pid c.args.address done (done + count) slot f (omega arith)) i.stay)
          (stays_more (λ slot f. part_goes c.args.pid c.args.address (done + count) done (page_number c.loop-done.at) slot f (ap page_number place) (omega (arith, some))) c.store_in_page.ensures.stay);
      still = λ none. absurd (omega (arith, none, some));
    }

pub returns-clause-written : goal.returns-clause-written
returns-clause-written c =
    let i = c.loop-done.invariant in
    let within = i.within in
    let ended = c.loop-done-test.false in
    written_whole c.args.core.now.state c.loop-done.core.state c.args.pid c.args.address c.loop-done.done c.args.bytes.now i.stored (omega (arith, within, ended))
