-- The definitions of other crates that this crate names, passed on from one place. Declares nothing.
pub use Rattle.address_space.specs.ByWalk.{finds_at}
pub use Rattle.address_space.specs.Image.{is_lazy_at, page_frame, takes_stores}
pub use Rattle.address_space.specs.Spaces.{Cell, Slot, Spaces, at_page, byte_at, bytes_at, cell_or_fresh, is_of, is_slot, need, slot_at, with_holders, without}
pub use Rattle.address_space.specs.Stays.{FramesStay, Gone, none_goes, of_lazy, way_of}
pub use Rattle.kernel_calls.specs.Along.{CarriesOut, EndAlong}
pub use Rattle.kernel_calls.specs.Cleaned.{EndsMarks, info_of_page, is_dirty_at}
pub use Rattle.kernel_calls.specs.Gone.{gone_by}
pub use Rattle.kernel_calls.specs.Machine.{answer, answers, completes, end_of, next}
pub use Rattle.kernel_calls.specs.Processors.{IsCore}
pub use Rattle.kernel_calls.specs.Translations.{Ends, ended_by, of_call}
pub use Rattle.kernel_calls.specs.Written.{MayWrite, TakesLazy}
pub use Rattle.kernel_calls.specs.declared.calls.Call.{Call}
pub use Rattle.kernel_calls.specs.declared.calls.Event.{Event}
pub use Rattle.kernel_calls.specs.declared.calls.Reply.{Reply}
pub use Rattle.kernel_calls.specs.declared.translations.Ended.{Ended}
pub use Rattle.page_words.specs.Addresses.{IsUserPage, is_user_page, offset_number, page_number, slot_number}
pub use Rattle.phys_memory.specs.Bytes.{frame_bytes}
pub use Rattle.process_table.specs.Calls.{after_protect}
pub use Rattle.process_table.specs.Image.{StandsFor, image_of, memory_of}
pub use Rattle.process_table.specs.Parts.{after_stores}
pub use Rattle.process_table.specs.State.{State, extra_cost, is_live, is_mapped, overdrawn}
pub use Rattle.process_table.specs.TestAnswers.{done_unless}
pub use Rattle.process_table.specs.View.{View}
pub use Rattle.process_table.specs.declared.causes.Cause.{Cause}
pub use Rattle.quota_tree.specs.Book.{Member, given}
pub use Rattle.table_walk.specs.Walk.{is_write}
pub use Rattle.table_walk.specs.declared.Access.{Access}
