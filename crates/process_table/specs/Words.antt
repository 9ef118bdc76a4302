-- The definitions that the clauses of this crate name, passed on from one place. Declares nothing.
pub use Rattle.process_table.specs.ApartLaws.{CallsKeepAlike, CallsLeaveOthers, ChildrenBeginAlone, RefusalsAlike, ValuesAlike}
pub use Rattle.process_table.specs.Calls.{access_value, after_accept, after_access, after_exit, after_fork, after_load, after_map, after_offer, after_protect, after_spawn, after_store, after_unmap, after_withdraw, exit_refusal, loaded, map_refusal, offer_refusal, protect_refusal, unmap_refusal, withdraw_refusal}
pub use Rattle.process_table.specs.Image.{IsSoundImage, StandsFor, StandsForOne, image_of, memory_of}
pub use Rattle.process_table.specs.Laws.{AcceptKeeps, ExitKeeps, ForkKeeps, LoadKeeps, MapKeeps, OfferKeeps, OpeningIsWellFormed, ProtectKeeps, RootStays, SpawnKeeps, StoreKeeps, TotalIsWithin, UnmapKeeps, WithdrawKeeps}
pub use Rattle.process_table.specs.Parts.{after_loads, after_stores}
pub use Rattle.process_table.specs.Places.{access_places, place_at}
pub use Rattle.process_table.specs.Restored.{RootIsItsParent, image_in}
pub use Rattle.process_table.specs.State.{container_of, is_live, is_mapped, open_with, overdrawn, room}
pub use Rattle.process_table.specs.TestAnswers.{accept_answer, done_unless, exit_answer, first_cause, for_copy, fork_answer, map_answer, number_unless, offer_answer, protect_answer, spawn_answer, translated, unmap_answer, withdraw_answer}
pub use Rattle.process_table.specs.View.{IsProcesses}
pub use Rattle.process_table.specs.WellFormed.{IsWellFormed, total}
