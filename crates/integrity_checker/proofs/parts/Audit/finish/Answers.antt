use Rattle.std.proofs.Common.{rules, ◌≡◌, ℕ, ◌∷◌, [], ◌++◌, List, true, ap, ◌∙◌, subst, All, sum_by, ◌+◌, arith}
use Rattle.std.specs.Option.{option_to_list}
use Rattle.integrity_checker.specs.Drawn.{once_below}
use Rattle.image_check.specs.Draws.{times}
use Rattle.integrity_checker.specs.Steps.{IsOf}
use Rattle.integrity_checker.specs.Held.{Helping}
use Rattle.integrity_checker.proofs.Sums.{every_last, all_done, sum_last}
use Rattle.integrity_checker.proofs.parts.Audit.finish.Goals as goal

pub join_all-findings-requires-clause-own : goal.join_all-findings-requires-clause-own
join_all-findings-requires-clause-own c =
    let P : Helping → Type 0 = λ h. IsOf c.args.self h in
    let cut : c.args.helpers.items ≡ c.pop.new.self.items ++ c.unwrap-first.result ∷ [] = c.pop.ensures.items ∙ ap (λ o. c.pop.new.self.items ++ option_to_list o) c.unwrap-first.ensures in
    every_last P c.pop.new.self.items c.unwrap-first.result (subst (λ (hs : List Helping). All P hs) cut c.requires)

pub join_all-findings-requires-clause-ended : goal.join_all-findings-requires-clause-ended
join_all-findings-requires-clause-ended c =
    let P : Helping → Type 0 = λ h. h.done ≡ true in
    let cut : c.args.helpers.items ≡ c.pop.new.self.items ++ c.unwrap-first.result ∷ [] = c.pop.ensures.items ∙ ap (λ o. c.pop.new.self.items ++ option_to_list o) c.unwrap-first.ensures in
    every_last P c.pop.new.self.items c.unwrap-first.result (subst (λ (hs : List Helping). All P hs) cut (all_done c.args.helpers.items (search rules)))

pub returns-clause-all : goal.returns-clause-all
returns-clause-all c = λ x.
    let f : Helping → ℕ = λ h. times x h.answered in
    let cut : c.args.helpers.items ≡ c.pop.new.self.items ++ c.unwrap-first.result ∷ [] = c.pop.ensures.items ∙ ap (λ o. c.pop.new.self.items ++ option_to_list o) c.unwrap-first.ensures in
    let a : sum_by f c.args.helpers.items ≡ sum_by f c.pop.new.self.items + f c.unwrap-first.result = ap (sum_by f) cut ∙ sum_last f c.pop.new.self.items c.unwrap-first.result in
    let b : f c.unwrap-first.result + sum_by f c.pop.new.self.items ≡ once_below x 64 = c.join_all-findings.ensures.all x in
    let k₁ : ℕ = sum_by f c.args.helpers.items in
    let k₂ : ℕ = sum_by f c.pop.new.self.items in
    let k₃ : ℕ = f c.unwrap-first.result in
    let k₄ : ℕ = once_below x 64 in
    omega (arith, a, b)
