-- The law of machines in long mode.
use Rattle.shootdowns.proofs.InOrder.{shootdowns_make_events}
use Rattle.long_mode_machine.specs.Moves.{LongModeMakesSteps}
use Rattle.long_mode_machine.proofs.Simulation.{makes_steps_by}

pub long_mode_makes_steps : LongModeMakesSteps
long_mode_makes_steps = makes_steps_by shootdowns_make_events
