use Rattle.process_table.proofs.Lemmas.{well_formed-open, well_formed-unmap, well_formed-spawn, well_formed-exit, root-spawn, root-exit, total-within, well_formed-fork, root-fork, well_formed-map, well_formed-load, well_formed-store, well_formed-protect, well_formed-offer, well_formed-withdraw, well_formed-accept}
use Rattle.process_table.proofs.laws.calls_keep_states_well_formed.Goals as goal

pub returns : goal.returns
returns c = record {
  opening = well_formed-open;
  map = well_formed-map;
  unmap = well_formed-unmap;
  protect = well_formed-protect;
  offer = λ s p page target write w _ allowed. well_formed-offer s p page target write w allowed;
  withdraw = well_formed-withdraw;
  accept = well_formed-accept;
  spawn = well_formed-spawn;
  fork = well_formed-fork;
  exit = well_formed-exit;
  load = well_formed-load;
  store = well_formed-store;
  root = (root-spawn, root-fork, root-exit);
  total = total-within;
}
