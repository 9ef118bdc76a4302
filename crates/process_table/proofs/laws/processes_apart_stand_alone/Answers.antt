use Rattle.process_table.proofs.Prelude.{arith}
use Rattle.process_table.proofs.Apart.{mapped_alike, cost_alike, given_alike, no_room_alike, lacks_room_alike, cell_alike, group_alike, loaded_alike, map_refusal_alike, unmap_refusal_alike, protect_refusal_alike, withdraw_refusal_alike, exit_refusal_alike, map_alike, protect_alike, load_alike, store_alike, unmap_alike, withdraw_alike}
use Rattle.process_table.proofs.ApartOthers.{load_leaves, store_leaves, map_leaves, unmap_leaves, protect_leaves, offer_leaves, withdraw_leaves, accept_leaves, spawn_leaves, fork_leaves, exit_leaves, spawn_alike, fork_alike}
use Rattle.process_table.proofs.laws.processes_apart_stand_alone.Goals as goal

pub returns : goal.returns
returns c = record {
  refusals = (
    λ page s t p q a. map_refusal_alike s t p q a page,
    λ page s t p q a. unmap_refusal_alike s t p q a page,
    λ page write s t p q a. protect_refusal_alike s t p q a page write,
    λ page target s t p q a. withdraw_refusal_alike s t p q a page target,
    λ s t p q a. exit_refusal_alike s t p q a,
    λ page s t p q a. mapped_alike s t p q a page,
    λ page s t p q a. no_room_alike s t p q a page,
    λ addr size s t p q a. lacks_room_alike s t p q a addr size,
  );
  values = grind (arith, cell_alike, group_alike, loaded_alike, cost_alike, given_alike);
  calls = (
    λ addr size s t p q a. load_alike s t p q addr size a,
    λ addr size value s t p q a. store_alike s t p q addr size value a,
    λ page write s t p q a. map_alike s t p q a page write,
    λ page s t p q a. unmap_alike s t p q page a,
    λ page write s t p q a. protect_alike s t p q a page write,
    λ page target s t p q a. withdraw_alike s t p q page target a,
  );
  others = (
    λ addr size s p q w a d live allowed. load_leaves s p q w a d addr size,
    λ addr size value s p q w a d live allowed. store_leaves s p q w a d addr size value,
    λ page write s p q w a d live allowed. map_leaves s p q w a d page write,
    λ page s p q w a d live allowed. unmap_leaves s p q w a d page,
    λ page write s p q w a d live allowed. protect_leaves s p q w a d page write,
    λ page target write s p q w a d live allowed. offer_leaves s p q w a d page target write,
    λ page target s p q w a d live allowed. withdraw_leaves s p q w a d page target,
    λ giver giver_page page s p q w a d live allowed. accept_leaves s p q giver giver_page page w a d allowed,
    λ quota s p q w a d live allowed. spawn_leaves s p q quota a d allowed,
    λ quota s p q w a d live allowed. fork_leaves s p q quota a d allowed,
    λ s p q w a d live allowed. exit_leaves s p q a d live,
  );
  children = (spawn_alike, fork_alike);
}
