use Rattle.kernel_acts.proofs.Prelude
use Prelude.{◌≡◌, ◌∙◌, ap, sym, length, true, answer, completes, load_byte, stays_then, stays_more}
use Rattle.kernel_acts.proofs.TransferSteps.{first_loads, load_goes}
use Rattle.kernel_acts.proofs.transfers.load_first.Goals as goal

pub returns-clause-loaded : goal.returns-clause-loaded
returns-clause-loaded c = λ _.
    let s = c.args.core.now.state in
    let t = c.step-reply.new.core.state in
    let p = c.args.pid in
    let a = c.args.address in
    let told : c.step-reply.result ≡ answer s (load_byte p a) = c.step-reply.ensures.reply in
    let done : completes (answer s (load_byte p a)) ≡ true = sym (ap completes told) ∙ sym c.completes.ensures ∙ c.if-not-completes.false in
    let f = first_loads s t p a (length c.args.out.now) done c.step-reply.ensures.state c.requires.some c.requires.within in
    let m = c.load_mapped.ensures.mapped f.user ∙ f.there in
    f.loaded c.load_mapped.new.self.state c.load_mapped.new.out (c.load_mapped.ensures.bytes m) (c.load_mapped.ensures.state m)

pub returns-clause-stay : goal.returns-clause-stay
returns-clause-stay c =
    let s = c.args.core.now.state in
    stays_then
    (stays_more (λ slot f _. load_goes s c.args.pid c.args.address slot f) c.step-reply.ensures.stay)
    c.load_mapped.ensures.stay
