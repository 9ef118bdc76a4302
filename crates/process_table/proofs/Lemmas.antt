-- The lemmas that the upper files of proofs cite, passed on from one place. Declares nothing.
pub use Rattle.process_table.proofs.BookLaws.{next_free, parents_in, retained, root-exit, root-spawn, spawn_allowed, total-within, well_formed-exit, well_formed-open, well_formed-spawn, well_formed-unmap}
pub use Rattle.process_table.proofs.CellLaws.{get-inserted, get-inserted_other}
pub use Rattle.process_table.proofs.Charged.{charged-exit, charged-one, charged-same, differ, room-for, used-container}
pub use Rattle.process_table.proofs.Forks.{fork-by, fork-ok, fork-spawns, may_fork, root-fork, well_formed-fork}
pub use Rattle.process_table.proofs.ImageStanding.{charge-stands, given-range, image_stands}
pub use Rattle.process_table.proofs.Keeping.{keeps-accept, keeps-exit, keeps-map, keeps-store_in_page, whole, whole-access}
pub use Rattle.process_table.proofs.Overdrawn.{extra_new, extra_page, extra_touched}
pub use Rattle.process_table.proofs.Placed.{has_place, page_is_user, placed_second, takes_mapped, takes_real}
pub use Rattle.process_table.proofs.Ranges.{found, sum-same, total-book}
pub use Rattle.process_table.proofs.Refusals.{may_accept, may_be, may_map, may_protect, no_cause, test_accept}
pub use Rattle.process_table.proofs.SharingLaws.{giver_mapped, mapped_user, touched_user, well_formed-accept, well_formed-offer, well_formed-protect, well_formed-withdraw}
pub use Rattle.process_table.proofs.Sizes.{cost-no_pages}
pub use Rattle.process_table.proofs.SpaceLaws.{cleaned_state, new_fits, well_formed-cleaned, well_formed-load, well_formed-map, well_formed-part, well_formed-read_at, well_formed-store}
