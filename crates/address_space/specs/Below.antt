-- The definitions of other crates that this crate names, passed on from one place. Declares nothing.
pub use Rattle.alloc_table.specs.Roles.{CanBeTaken, IsInUse, IsPageBelow, IsReleased, IsTaken, frames_in_use, frames_weight, free_frames, opening_roles}
pub use Rattle.alloc_table.specs.declared.Role.{Role}
pub use Rattle.alloc_table.specs.declared.Role.TheVariants.{Directory, Free, Page, Reserved, Table}
pub use Rattle.page_map.specs.Entries.{Frames, IsPageMap, dir_word, entry_at, is_lazy_entry, table_of, with_entry, with_table, word_entry}
pub use Rattle.page_map.specs.Pages.{count_range}
pub use Rattle.page_map.specs.declared.PageEntry.{PageEntry}
pub use Rattle.page_words.specs.Addresses.{EachTouched, IsUserPage, byte_count, covered, index_number, offset_number, page_number, second_page, slot_number, start_number, touched}
pub use Rattle.page_words.specs.Codes.{map_code, set_code}
pub use Rattle.page_words.specs.FiniteMap.{Map, Order, collect, nat_order, same}
pub use Rattle.page_words.specs.FiniteSet.{Set}
pub use Rattle.page_words.specs.Words.{IsKernelDirWord, IsKernelTableWord, NamesPage, flag, frame_number, has_may, is_accessed, is_dirty, is_granted, is_lazy, is_present, is_user, is_writable, with_flag}
pub use Rattle.page_words.specs.declared.addresses.Size.{Size}
pub use Rattle.phys_memory.specs.Bytes.{blank_bytes, frame_bytes, with_frame, with_frame_bytes, with_word, word_at, word_in, word_place}
pub use Rattle.table_walk.specs.Marks.{marked}
pub use Rattle.table_walk.specs.Walk.{is_write, not_allowed, not_present, table_word, walk_of}
pub use Rattle.table_walk.specs.declared.Access.{Access}
pub use Rattle.table_walk.specs.declared.Access.TheVariants.{Read, Write}
