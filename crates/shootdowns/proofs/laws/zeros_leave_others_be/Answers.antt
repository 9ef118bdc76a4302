use Rattle.shootdowns.proofs.Shadowed.{uses_come_after_zeros}
use Rattle.shootdowns.proofs.laws.zeros_leave_others_be.Goals as goal

pub returns : goal.returns
returns c = uses_come_after_zeros
