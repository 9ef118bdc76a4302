use Rattle.std.proofs.Common.{◌≡◌, ℕ, ◌+◌, ◌*◌, ◌<◌, ◌≤◌, length, get_or, take, sym, subst, below_more, arith}
use Rattle.script_run.specs.Operands.{IsWorth}
use Rattle.script_run.proofs.FirstNumbers.{worth_step, worth_fits, worth_grows}
use Rattle.script_run.proofs.TokenLemmas.{token_ends, token_goes_on}
use Rattle.script_run.proofs.numbers.short_token.Goals as goal

pub returns-then-ends_at-clause-end : goal.returns-then-ends_at-clause-end
returns-then-ends_at-clause-end c = token_ends c.args.line.now c.loop-place.place c.loop-place.invariant.within c.loop-place.invariant.visible (c.ends_at.ensures.ends c.if-ends_at.true)

pub overflow_add-value : goal.overflow_add-value
overflow_add-value c = omega (arith, worth_fits c.loop-place.value c.worth_of.result c.loop-place.place c.loop-place-test.true c.loop-place.invariant.small c.worth_of.ensures.bound)

pub loop-place-preserved : goal.loop-place-preserved
loop-place-preserved c =
    let here = c.ends_at.ensures.goes_on c.if-ends_at.false in
    let step = worth_step c.args.line.now c.loop-place.place c.loop-place.value here.0 c.loop-place.invariant.worth in record {
      within = omega (arith, here.0);
      visible = below_more _ _ c.loop-place.invariant.visible here.1;
      worth = subst (λ (w : ℕ). IsWorth (take (c.loop-place.place + 1) c.args.line.now) (c.loop-place.value * 16 + w)) (sym c.worth_of.ensures.value) step;
      small = worth_grows c.loop-place.value c.worth_of.result c.loop-place.place c.loop-place.invariant.small c.worth_of.ensures.bound;
    }

pub returns-then-ends_at-2-clause-end : goal.returns-then-ends_at-2-clause-end
returns-then-ends_at-2-clause-end c =
    let eight : c.loop-place.place ≡ 8 = omega (arith, c.loop-place-test.false, c.loop-place.auto.place-end) in
    let within : 8 ≤ length c.args.line.now = subst (λ (n : ℕ). n ≤ length c.args.line.now) eight c.loop-place.invariant.within in
    let visible = subst (λ (n : ℕ). (k : ℕ) → k < n → get_or c.args.line.now k 0 ≡ 32 → ⊥) eight c.loop-place.invariant.visible in
    token_ends c.args.line.now 8 within visible (c.ends_at-2.ensures.ends c.if-ends_at-2.true)

pub returns-then-ends_at-2-clause-worth : goal.returns-then-ends_at-2-clause-worth
returns-then-ends_at-2-clause-worth c =
    let eight : c.loop-place.place ≡ 8 = omega (arith, c.loop-place-test.false, c.loop-place.auto.place-end) in
    subst (λ (n : ℕ). IsWorth (take n c.args.line.now) c.loop-place.value) eight c.loop-place.invariant.worth

pub returns-else-ends_at-2-clause-long : goal.returns-else-ends_at-2-clause-long
returns-else-ends_at-2-clause-long c =
    let eight : c.loop-place.place ≡ 8 = omega (arith, c.loop-place-test.false, c.loop-place.auto.place-end) in
    let visible = subst (λ (n : ℕ). (k : ℕ) → k < n → get_or c.args.line.now k 0 ≡ 32 → ⊥) eight c.loop-place.invariant.visible in
    let here = c.ends_at-2.ensures.goes_on c.if-ends_at-2.false in
    token_goes_on c.args.line.now 8 visible here.0 here.1
