use Rattle.fault_handler.proofs.Prelude.{◌≡◌, ◌∙◌, true, refl, sym, subst, at_page, Read, is_mapped}
use Rattle.fault_handler.proofs.Walked.{completes_at_once}
use Rattle.fault_handler.proofs.accesses.try_load.Goals as goal

pub returns-then-is_mapped-clause-plan : goal.returns-then-is_mapped-clause-plan
returns-then-is_mapped-clause-plan c =
    let v = c.args.processes.now in
    let mapped = subst (λ n. is_mapped v.state (at_page c.args.pid n) ≡ true) c.page_of-page.ensures.value
    (sym c.tells.ensures.mapped ∙ sym c.is_mapped.ensures ∙ c.if-is_mapped.true) in
    (λ h. completes_at_once v c.args.pid c.args.address c.args.size Read c.requires.within c.requires.user mapped (λ h. cc), λ h. refl)
