use Rattle.std.proofs.Common.{ℕ, ◌+◌, ◌*◌, take, sym, subst, arith}
use Rattle.script_run.specs.Operands.{IsWorth}
use Rattle.script_run.proofs.FirstNumbers.{worth_step, worth_fits, worth_grows}
use Rattle.script_run.proofs.numbers.worth_in_front.Goals as goal

pub overflow_add-value : goal.overflow_add-value
overflow_add-value c = omega (arith, worth_fits c.loop-place.value c.worth_of.result c.loop-place.place (omega arith) c.loop-place.invariant.small c.worth_of.ensures.bound)

pub overflow_mul-value : goal.overflow_mul-value
overflow_mul-value c = omega (arith, worth_fits c.loop-place.value 0 c.loop-place.place (omega arith) c.loop-place.invariant.small (omega arith))

pub loop-place-preserved : goal.loop-place-preserved
loop-place-preserved c =
    let step = worth_step c.args.line.now c.loop-place.place c.loop-place.value (omega arith) c.loop-place.invariant.worth in record {
      worth = subst (λ (w : ℕ). IsWorth (take (c.loop-place.place + 1) c.args.line.now) (c.loop-place.value * 16 + w)) (sym c.worth_of.ensures.value) step;
      small = worth_grows c.loop-place.value c.worth_of.result c.loop-place.place c.loop-place.invariant.small c.worth_of.ensures.bound;
    }
