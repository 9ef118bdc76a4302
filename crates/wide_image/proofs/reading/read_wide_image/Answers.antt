use Rattle.std.proofs.Common.{sym, ap, ◌∙◌}
use Rattle.wide_image.specs.Faults.{fault_of}
use Rattle.wide_image.proofs.Whole.{no_reason}
use Rattle.wide_image.proofs.reading.read_wide_image.Goals as goal

pub returns-in-Some-clause-read : goal.returns-in-Some-clause-read
returns-in-Some-clause-read c image fields is = absurd (let a = sym (no_reason image fields) ∙ sym (ap fault_of is) ∙ sym c.fault_in.ensures ∙ c.in-Some.is in cc)
