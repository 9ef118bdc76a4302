use Rattle.fault_handler.proofs.Prelude.{◌≡◌, ◌∙◌, ℕ, true, false, IfSome, sym, ap, subst, stays_most, Ok, takes_at}
use Rattle.fault_handler.proofs.Settled.{complete_takes}
use Rattle.fault_handler.proofs.Walked.{taken}
use Rattle.fault_handler.proofs.accesses.access_over.Goals.{else-takes-via-then-takes+else-takes-2, else-takes-via-else-takes}
use Rattle.fault_handler.proofs.accesses.access_over.Goals as goal

pub returns-then-takes-2-clause-result : goal.returns-then-takes-2-clause-result
returns-then-takes-2-clause-result c =
    let T : ℕ → Type 0 = λ page. takes_at c.args.processes.now c.args.pid c.args.access page ≡ true in
    ap Ok c.access_at.ensures.value
    ∙ sym (taken c.args.processes.now c.args.pid c.args.address c.args.size c.args.access c.requires.within (
      subst T c.page_of-page.ensures.value (sym c.takes.ensures.takes ∙ c.if-takes.true),
      subst (λ x. IfSome x T) (sym c.requires.second) (sym c.takes-then-takes.ensures.takes ∙ c.if-takes-2.true),
    ) (c.takes.ensures.live c.if-takes.true))

pub returns-then-takes-2-clause-stay : goal.returns-then-takes-2-clause-stay
returns-then-takes-2-clause-stay c = stays_most c.access_at.ensures.stay

pub returns-clause-frames : goal.returns-clause-frames
returns-clause-frames c = λ ends.
    let T : ℕ → Type 0 = λ page. takes_at c.args.processes.now c.args.pid c.args.access page ≡ true in
    let each = complete_takes c.args.processes.now c.args.pid c.args.address c.args.size c.args.access ends in
    elim c.else-takes.branch [
      | else-takes-via-then-takes+else-takes-2 w ↦ (let e : false ≡ true = sym w.if-takes-2.false ∙ w.takes-then-takes.ensures.takes ∙ subst (λ x. IfSome x T) c.requires.second each.1 in cc)
      | else-takes-via-else-takes w ↦ (let e : false ≡ true = sym w.if-takes.false ∙ c.takes.ensures.takes ∙ subst T (sym c.page_of-page.ensures.value) each.0 in cc)
    ]
