use Rattle.kernel_laws.specs.OwnEvents.{EventsLeaveToOthers}
use Rattle.kernel_calls.proofs.Writings.{events_write_their_own, ended_takes, tables_stay, directories_stay, pages_stay, zero_stays}
use Rattle.kernel_laws.proofs.laws.events_write_their_own.Goals as goal

events_leave_to_others : EventsLeaveToOthers
events_leave_to_others v w e before later state ends = record {
  zero = zero_stays v w e before later state ends;
  pages = pages_stay v w e before later state ends;
  tables = tables_stay v w e before later state ends;
  directories = directories_stay v w e before later state ends;
  ended = ended_takes v e;
}

pub returns-clause-frames : goal.returns-clause-frames
returns-clause-frames c = events_write_their_own

pub returns-clause-others : goal.returns-clause-others
returns-clause-others c = events_leave_to_others
