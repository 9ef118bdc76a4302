-- The names that the proofs of this crate cite from elsewhere, passed on from one place. Declares nothing.
pub use Rattle.std.proofs.Common.{Bool, List, None, Option, Some, ap, arith, cond, false, inl, inr, is_some, length, refl, replicate, subst, suc, sym, true, zero, ℕ, ◌*◌, ◌+◌, ◌-◌, ◌/◌, ◌<◌, ◌^◌, ◌||◌, ◌∙◌, ◌≡◌, ◌≢◌, ◌≤◌}
pub use Rattle.std.proofs.lemmas.Bool.{cases_eq, cases_lt}
pub use Rattle.std.proofs.lemmas.List.{length-replicate}
pub use Rattle.std.proofs.lemmas.Nat.{and_le_l, or_lt}
pub use Rattle.std.specs.Option.{option_and_then}
pub use Rattle.std.specs.Prelude.{if◌then◌else◌, max, not, ◌&&◌, ◌⊎◌}
pub use Rattle.page_map.specs.Entries.{Frames, HasOtherEntry, IsCleared, IsForeign, IsFreshTable, IsKernelEntry, IsLastEntry, IsPageMap, TablesApart, dir_word, entry_at, entry_from, entry_word, lets_writes, link_word, table_of, walked_word, with_entry, with_table, word_entry, word_table}
pub use Rattle.page_map.specs.Pages.{counted, is_mapped}
unfoldable pub use Rattle.page_map.specs.Pages.{count_range, entries_of, user_pages}
pub use Rattle.page_map.specs.declared.PageEntry.{PageEntry}
pub use Rattle.page_words.proofs.MapLemmas.{get-collect, get-insert, len-insert, same_map}
pub use Rattle.page_words.specs.Addresses.{IsUserPage, index_number, page_number, slot_number}
pub use Rattle.page_words.specs.Words.{IsKernelDirWord, IsKernelTableWord, NamesPage, NamesTable, flag, frame_number, has_may, is_accessed, is_dirty, is_granted, is_lazy, is_present, is_writable, with_flag, word_with_frame}
pub use Rattle.phys_memory.proofs.Frames.{frames-with_frame_bytes, frames-with_word, length-frame, length-with_word_in, with_frame-other, with_frame-same, word_in-frame, word_in-zeros, word_in_other, word_in_same}
pub use Rattle.phys_memory.specs.Bytes.{frame_bytes, with_frame, with_word, with_word_in, word_at, word_in, word_place}
pub use Rattle.table_walk.specs.declared.Access.{Access}
pub use Rattle.page_map.specs.Laws.{BlankFramesAreMaps, BlankFramesMapNothing, MarksTouchEntries, TouchesEntry, WalksReadEntries, end_at_entry, touched_entry, with_touched_words}
pub use Rattle.page_words.proofs.Flags.{flag-with_flag_other, flag-with_flag_same, flag-with_frame, frame-with_flag, frame-with_frame, same_from_fields, set_flag_frame, set_flag_other}
pub use Rattle.page_words.proofs.SetLemmas.{get-remove, same_cases}
pub use Rattle.page_words.specs.FiniteMap.{Map, nat_order, same}
unfoldable pub use Rattle.table_walk.specs.Walk.{walk_of}
pub use Rattle.table_walk.specs.Walk.{is_outside, not_present, table_word}
