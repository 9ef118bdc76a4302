use Rattle.shootdowns.proofs.InOrder.{shootdowns_make_events}
use Rattle.shootdowns.proofs.Rows as row
use Rattle.shootdowns.proofs.laws.shootdowns_make_events.Goals as goal

pub returns : goal.returns
returns c = record {
  steps = shootdowns_make_events;
  stale = row.stale_stores_come_first;
  clean = row.clean_stores_come_first;
  loads = row.stale_loads_come_first;
  walks = row.walks_come_first;
  kept = row.others_are_read;
  nothing = row.others_end_nothing;
}
