-- The definitions of other crates that this crate names, passed on from one place. Declares nothing.
pub use Rattle.address_space.specs.Image.{is_lazy_at, takes_stores}
pub use Rattle.address_space.specs.Places.{found_of, place_in}
pub use Rattle.address_space.specs.Spaces.{Slot, at_page, cell_or_fresh, cost, page_need, slot_at, with_page}
pub use Rattle.address_space.specs.Stays.{FramesStay, Gone, none_goes, of_lazy}
pub use Rattle.page_words.specs.Addresses.{IsUserPage, covered, is_user_page, page_number, second_page, slot_number, start_number, touched}
pub use Rattle.page_words.specs.declared.addresses.Size.{Size}
pub use Rattle.process_table.specs.Calls.{access_value, after_access, after_load, after_store, loaded}
pub use Rattle.process_table.specs.Image.{memory_of}
pub use Rattle.process_table.specs.Places.{access_places, place_at}
pub use Rattle.process_table.specs.State.{State, container_of, extra_cost, is_live, is_mapped, overdrawn}
pub use Rattle.process_table.specs.View.{View}
pub use Rattle.process_table.specs.declared.causes.Cause.TheVariants.{NoProcess, Quota}
pub use Rattle.quota_tree.specs.declared.Container.{Container}
pub use Rattle.table_walk.specs.Walk.{is_write, page_fault}
pub use Rattle.table_walk.specs.declared.Access.{Access}
pub use Rattle.table_walk.specs.declared.Access.TheVariants.{Read, Write}
