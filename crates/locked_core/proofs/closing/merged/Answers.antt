use Rattle.std.proofs.Common.{rules, ◌≡◌, ◌∙◌, ℕ, List, All, [], ◌∷◌, ◌++◌, length, ap, sym, subst, arith}
use Rattle.std.proofs.lemmas.List.Elements.{All-nil, All-push}
use Rattle.locked_core.proofs.Closed.{calls_push, length_push}
use Rattle.locked_core.specs.Makers.{IsOfOne, IsTallied, Maker, calls_of_all}
use Rattle.locked_core.proofs.closing.merged.Goals as goal

-- the CPU that was merged, and those that are left
pub loop-cpu-preserved : goal.loop-cpu-preserved
loop-cpu-preserved g c =
    let P : Maker → Type 0 = λ m. IsOfOne c.args.front.now m in
    let Q : Maker → Type 0 = λ m. IsTallied c.args.tally.now m in
    let left : List Maker = c.pop.new.self.items in
    let whole : c.loop-cpu.others.items ≡ left ++ c.in-Some.cpu ∷ [] = search rules in
    let tallied : Q c.in-Some.cpu = subst (λ (tally : List ℕ). IsTallied tally c.in-Some.cpu) c.loop-cpu.invariant.2 c.share_of.ensures.tallied in (
      (let l = ap length whole ∙ length_push left c.in-Some.cpu in let m = c.merge.ensures.parts in let one = c.share_of.ensures.share.0 in let had = c.loop-cpu.invariant.0 in omega arith),
      (let l = ap calls_of_all whole ∙ calls_push left c.in-Some.cpu in let m = c.merge.ensures.amount in let one = c.share_of.ensures.share.1 in let had = c.loop-cpu.invariant.1 in omega arith),
      c.share_of.ensures.tally ∙ c.loop-cpu.invariant.2,
      λ all. c.loop-cpu.invariant.3 (subst (All P) (sym whole) (All-push P left c.in-Some.cpu all c.share_of.ensures.one)),
      λ all. c.loop-cpu.invariant.4 (subst (All Q) (sym whole) (All-push Q left c.in-Some.cpu all tallied)),
    )

-- once none is left
pub returns-clause-one : goal.returns-clause-one
returns-clause-one g c =
    let P : Maker → Type 0 = λ m. IsOfOne c.args.front.now m in
    let none : c.loop-cpu.others.items ≡ [] = search rules in
    (c.share_of-all.ensures.one, c.loop-cpu.invariant.3 (subst (All P) (sym none) (All-nil P)))

pub returns-clause-tallied : goal.returns-clause-tallied
returns-clause-tallied g c =
    let Q : Maker → Type 0 = λ m. IsTallied c.args.tally.now m in
    let none : c.loop-cpu.others.items ≡ [] = search rules in
    (c.share_of-all.ensures.tallied, c.loop-cpu.invariant.4 (subst (All Q) (sym none) (All-nil Q)))
