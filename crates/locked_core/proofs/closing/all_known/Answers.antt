use Rattle.std.proofs.Common.{arith, refl, sym, ◌∙◌, true≢false}
use Rattle.locked_core.proofs.Keeping.{each_cpu, each_entry}
use Rattle.locked_core.specs.Makers.{IsOneOf}
use Rattle.locked_core.proofs.closing.all_known.Goals as goal

-- a number that is of none of the CPUs has an entry
pub returns-then-not-is_known : goal.returns-then-not-is_known
returns-then-not-is_known g c = (
  λ t. absurd (true≢false (sym t)),
  λ all. sym c.if-not-is_known.true ∙ c.is_known.ensures.1 (each_cpu (IsOneOf c.args.cpus.now) c.args.log.now.entries c.loop-number.number all),
)

-- each number below 8 was looked at
pub returns : goal.returns
returns g c = (
  λ t. each_entry (IsOneOf c.args.cpus.now) c.args.log.now.entries c.small_numbers.ensures (λ n small some. c.loop-number.invariant n (let ended = c.loop-number-test.false in omega arith) some),
  λ all. refl,
)
