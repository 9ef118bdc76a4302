use Rattle.std.proofs.Common.{arith}
use Rattle.memory_image.specs.Reading.{process_in}
use Rattle.memory_image.proofs.FillLemmas.{filled_to}
use Rattle.memory_image.proofs.reading.processes_in.Goals as goal

pub returns : goal.returns
returns c = filled_to (process_in c.args.bytes.now) 64 c.loop-number.processes c.loop-number.invariant.0 (λ p low. c.loop-number.invariant.1 p (omega (arith, low)))
