-- The definitions of other crates that this crate names, passed on from one place. Declares nothing.
pub use Rattle.address_space.specs.ByWalk.{after_walked_load, after_walked_store, finds, number_found, with_walked}
pub use Rattle.address_space.specs.Image.{LeavesRoom, directory_at, is_lazy_at, page_frame, table_at, takes_stores, word_of}
pub use Rattle.address_space.specs.Kept.{is_marked, number_at, written_at}
pub use Rattle.address_space.specs.Shown.{shown}
pub use Rattle.address_space.specs.Spaces.{Cell, Slot, at_page, byte_at, bytes_of, cell_or_fresh, cost, is_of, is_slot, need, slot_at, value_of, zeros}
pub use Rattle.address_space.specs.Stays.{FramesStay, Gone, LooseStay, WaysAgree, none_goes, of_lazy, of_page, of_process}
pub use Rattle.address_space.specs.View.{directory_of}
pub use Rattle.address_space.specs.Walks.{WalksAgree}
pub use Rattle.alloc_table.specs.declared.Role.{Role}
pub use Rattle.alloc_table.specs.declared.Role.TheVariants.{Directory, Free, Page, Reserved, Table}
pub use Rattle.fault_handler.specs.Fills.{lazy_touched}
pub use Rattle.fault_handler.specs.Plans.{at_once, goes_on, plan_at, plan_of, takes_no_frame}
pub use Rattle.fault_handler.specs.declared.plans.Plan.{Plan}
pub use Rattle.page_sharing.specs.Offers.{offer_key, offer_number}
pub use Rattle.page_words.specs.Addresses.{EachTouched, IsUserPage, byte_count, covered, index_number, offset_number, page_number, second_page, slot_number}
pub use Rattle.page_words.specs.FiniteMap.{Map, nat_order}
pub use Rattle.page_words.specs.Words.{frame_number, is_present, is_user, is_writable}
pub use Rattle.page_words.specs.declared.addresses.Pid.{Pid}
pub use Rattle.page_words.specs.declared.addresses.Size.{Size}
pub use Rattle.phys_memory.specs.Bytes.{frame_bytes, word_at, word_place}
pub use Rattle.process_table.specs.Apart.{FirstPage, alone_with, pages_held}
pub use Rattle.process_table.specs.Calls.{accept_refusal, after_accept, after_exit, after_fork, after_load, after_map, after_offer, after_protect, after_spawn, after_store, after_unmap, after_withdraw, exit_refusal, fork_refusal, loaded, map_refusal, offer_refusal, protect_refusal, spawn_refusal, unmap_refusal, withdraw_refusal}
pub use Rattle.process_table.specs.Image.{IsSoundImage, StandsFor, image_of, memory_of}
pub use Rattle.process_table.specs.Parts.{after_loads, after_stores}
pub use Rattle.process_table.specs.Places.{access_places}
pub use Rattle.process_table.specs.Restored.{RootIsItsParent, image_in}
pub use Rattle.process_table.specs.State.{State, child_of, container_of, is_live, is_mapped, open_with}
pub use Rattle.process_table.specs.View.{View}
pub use Rattle.process_table.specs.WellFormed.{IsWellFormed, total}
pub use Rattle.process_table.specs.declared.causes.Cause.{Cause}
pub use Rattle.quota_tree.specs.Book.{Member, given, is_child, number_of_children, quota_of}
pub use Rattle.quota_tree.specs.declared.Container.{Container}
pub use Rattle.table_walk.specs.Walk.{first_that_applies, is_outside, is_write, not_allowed, not_present, walk_of}
pub use Rattle.table_walk.specs.declared.Access.{Access}
pub use Rattle.table_walk.specs.declared.Access.TheVariants.{Read, Write}
pub use Rattle.table_walk.specs.declared.WalkEnd.{WalkEnd}
pub use Rattle.table_walk.specs.declared.WalkEnd.TheVariants.{Outside}
