use Rattle.fault_handler.proofs.Prelude.{◌≡◌, ◌∙◌, true, refl, sym, subst, takes_stores, at_page, Write, memory_of, is_mapped, and_parts}
use Rattle.fault_handler.proofs.Walked.{completes_at_once}
use Rattle.fault_handler.proofs.accesses.try_store.Goals as goal

pub returns-clause-plan : goal.returns-clause-plan
returns-clause-plan c =
    let v = c.args.processes.now in
    let p = c.args.pid in
    let takes = subst (λ n. takes_stores v.state.spaces (memory_of v) (at_page p n) ≡ true) c.page_of-page.ensures.value
    (sym c.tells.ensures.takes ∙ sym c.takes_stores.ensures ∙ c.if-not-takes_stores.false) in
    let mapped = (and_parts (is_mapped v.state (at_page p (c.page_of-page.result))) _
    (sym c.tells.ensures.takes ∙ sym c.takes_stores.ensures ∙ c.if-not-takes_stores.false)).0 in (
      λ h. completes_at_once v p c.args.address c.args.size Write c.requires.within c.requires.user
          (subst (λ n. is_mapped v.state (at_page p n) ≡ true) c.page_of-page.ensures.value mapped) (λ h. takes),
      λ h. refl,
    )
