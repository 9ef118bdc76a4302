use Rattle.std.proofs.Common.{◌≡◌, ◌∷◌, [], ◌++◌, List, All, ap, ◌∙◌, sym, subst}
use Rattle.std.specs.Option.{option_to_list}
use Rattle.integrity_checker.specs.Steps.{IsOf}
use Rattle.integrity_checker.specs.Held.{Helping}
use Rattle.integrity_checker.proofs.Sums.{every_last, every_push}
use Rattle.image_tests.proofs.audit_tests.round.Goals as goal

pub loop-helper-preserved : goal.loop-helper-preserved
loop-helper-preserved c =
    let kept = c.loop-helper.invariant in
    let P : Helping → Type 0 = λ h. IsOf c.args.audit.now h in
    let cut : c.loop-helper.helpers.items ≡ c.pop.new.self.items ++ c.in-Some.helper ∷ [] = c.pop.ensures.items ∙ ap (λ o. c.pop.new.self.items ++ option_to_list o) c.in-Some.is in
    let owns = every_last P c.pop.new.self.items c.in-Some.helper (subst (λ (hs : List Helping). All P hs) cut kept.0) in
    let grown : c.push.new.self.items ≡ c.loop-helper.back.items ++ c.steps.result ∷ [] = c.in_ok-push.ensures.items in
    (owns.1, subst (λ (hs : List Helping). All P hs) (sym grown) (every_push P c.loop-helper.back.items c.steps.result kept.1 c.steps.ensures))
