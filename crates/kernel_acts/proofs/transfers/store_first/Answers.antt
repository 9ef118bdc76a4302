use Rattle.kernel_acts.proofs.Prelude.{◌≡◌, ◌+◌, ◌-◌, ◌∙◌, ℕ, List, ap, sym, subst, arith, length, take, drop, length-drop, true, slice_index, take_all, page_number, IsUserPage, takes_stores, slot_at, memory_of, stays_then, stays_more, stays_most, gone_by, answer, next, completes, store_byte, event_of}
use Rattle.kernel_acts.proofs.TransferSteps.{first_stored, rest_taken, rest_stores, store_goes}
use Rattle.kernel_acts.proofs.transfers.store_first.Goals as goal

pub returns-then-part-gt1-clause-stored : goal.returns-then-part-gt1-clause-stored
returns-then-part-gt1-clause-stored c = λ _.
    let s = c.args.core.now.state in
    let v = c.step-reply.new.core in
    let p = c.args.pid in
    let a = c.args.address in
    let part : List ℕ = c.args.part.now in
    let b : ℕ = slice_index part 0 in
    let told : c.step-reply.result ≡ answer s (store_byte p a b) = c.step-reply.ensures.reply ∙ ap (λ x. answer s (event_of p x)) c.store_byte.ensures in
    let done : completes (answer s (store_byte p a b)) ≡ true = sym (ap completes told) ∙ sym c.completes.ensures ∙ c.if-not-completes.false in
    let f = first_stored s v.state p a b done (c.step-reply.ensures.state ∙ ap (λ x. next s (event_of p x)) c.store_byte.ensures) in
    let more = c.if-part-gt1.true in
    let within = c.requires.within in
    let r = rest_taken s v p a b f c.stands.ensures.core (omega (arith, more, within)) in
    let x : ℕ = c.address.inside.0 + 1 in
    let is : x ≡ a + 1 = ap (λ k. k + 1) c.address.view_is in
    let user : IsUserPage (page_number x) = subst (λ k. IsUserPage (page_number k)) (sym is) r.user in
    let taken : takes_stores v.state.spaces (memory_of v) (slot_at p x) ≡ true = ap (λ k. takes_stores v.state.spaces (memory_of v) (slot_at p k)) is ∙ r.taken in
    let size = length-drop 1 part in
    let rest : take (length part - 1) (drop 1 part) ≡ drop 1 part = take_all (length part - 1) (drop 1 part) (omega (arith, size)) in
    rest_stores s c.store_taken.new.self.state v p a x part (take (length part - 1) (drop 1 part)) f is rest more within (λ i. (c.type_inv.part i).fits) user taken
    (c.store_taken.ensures.state (c.store_taken.ensures.done user ∙ taken))

pub returns-then-part-gt1-clause-stay : goal.returns-then-part-gt1-clause-stay
returns-then-part-gt1-clause-stay c =
    let s = c.args.core.now.state in
    let b : ℕ = slice_index c.args.part.now 0 in
    stays_then
    (stays_more (λ slot f stays. ap (λ x. gone_by s (event_of c.args.pid x) slot f) c.store_byte.ensures ∙ store_goes s c.args.pid c.args.address b slot f stays) c.step-reply.ensures.stay)
    (stays_most c.store_taken.ensures.stay)

pub returns-clause-stay : goal.returns-clause-stay
returns-clause-stay c =
    let s = c.args.core.now.state in
    let b : ℕ = slice_index c.args.part.now 0 in
    stays_more (λ slot f stays. ap (λ x. gone_by s (event_of c.args.pid x) slot f) c.store_byte.ensures ∙ store_goes s c.args.pid c.args.address b slot f stays) c.step-reply.ensures.stay
