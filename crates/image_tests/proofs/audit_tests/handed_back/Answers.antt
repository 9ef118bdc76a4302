use Rattle.std.proofs.Common.{◌≡◌, ◌∷◌, [], ◌++◌, List, All, ap, ◌∙◌, sym, subst}
use Rattle.std.specs.Option.{option_to_list}
use Rattle.integrity_checker.specs.Steps.{IsOf}
use Rattle.integrity_checker.specs.Held.{Helping}
use Rattle.image_tests.specs.declared.audit_tests.Answers.{Answers}
use Rattle.integrity_checker.proofs.Sums.{every_last, every_push}
use Rattle.image_tests.proofs.audit_tests.handed_back.Goals as goal

pub loop-one-preserved : goal.loop-one-preserved
loop-one-preserved c =
    let kept = c.loop-one.invariant in
    let P : Helping × Answers → Type 0 = λ r. IsOf c.args.audit.now r.0 in
    let Q : Helping → Type 0 = λ h. IsOf c.args.audit.now h in
    let cut : c.loop-one.done.items ≡ c.pop.new.self.items ++ c.in-Some.one ∷ [] = c.pop.ensures.items ∙ ap (λ o. c.pop.new.self.items ++ option_to_list o) c.in-Some.is in
    let owns = every_last P c.pop.new.self.items c.in-Some.one (subst (λ (rs : List (Helping × Answers)). All P rs) cut kept.0) in
    let grown : c.push.new.self.items ≡ c.loop-one.back.items ++ c.in-Some.one.0 ∷ [] = c.in_ok-push.ensures.items in
    (owns.1, subst (λ (hs : List Helping). All Q hs) (sym grown) (every_push Q c.loop-one.back.items c.in-Some.one.0 kept.1 owns.0))
