-- The names that the proofs of this crate cite from elsewhere, passed on from one place. Declares nothing.
pub use Rattle.std.proofs.Common.{Bool, List, None, Option, Some, [], ap, append_assoc, arith, cond, drop, drop-drop, false, get_or, inl, inr, length, length-append, length-drop, length-set, map, not, refl, replicate, set-set, subst, suc, sym, take, true, zero, ℕ, ◌%◌, ◌*◌, ◌++◌, ◌+◌, ◌-◌, ◌/◌, ◌<◌, ◌==◌, ◌^◌, ◌||◌, ◌∙◌, ◌∷◌, ◌≡◌, ◌≢◌, ◌≤◌}
pub use Rattle.std.proofs.Math.Bool.{and-false, and-true, or-true}
pub use Rattle.std.proofs.lemmas.Bool.{and_parts, cases_eq, cases_lt, ne_eqb, not-true, or_right}
pub use Rattle.std.proofs.lemmas.Bool.Decides.{nat_tests}
pub use Rattle.std.proofs.lemmas.List.{append-nil, drop-take, get_or-drop, get_or_default, length-map, length-replicate, length-take-le, map-append, set_split, take-append-drop}
pub use Rattle.std.proofs.lemmas.List.Folds.{list_any-append}
pub use Rattle.std.proofs.lemmas.List.FromFn.{length-range_with_len}
pub use Rattle.std.proofs.lemmas.List.Sums.{sum_by-cons}
pub use Rattle.std.proofs.lemmas.Option.{slice_get-get_or, slice_get_within}
pub use Rattle.std.specs.Cmp.{both_ways, eq_by_cmp_equiv, nat_eq_equiv, tied_then, unsigned_tied}
pub use Rattle.std.specs.FinMap.Entries.{is_some-find, where_key}
pub use Rattle.std.specs.List.{All, list_any, range_with_len, slice_range, splice}
pub use Rattle.std.specs.Option.{option_and_then, option_map, unwrap_or}
pub use Rattle.std.specs.Prelude.{Err, IfSome, IsOk, IsTrue, MatchBool, Ok, Result, if◌then◌else◌, is_some, nat_le, nat_lt, slice_get, slice_index, slice_set, sum_by, ◌&&◌, ◌↔◌, ◌⊎◌}
pub use Rattle.std.specs.Result.{is_ok}
pub use borrow.Author.Tests.{eq-eqb, eqb-true}
pub use Rattle.address_space.specs.ByWalk.{after_walked_load, after_walked_store, byte_place, finds, finds_at, walked_word, with_walked}
pub use Rattle.address_space.specs.Cells.{Entries, cell_of, group_of, holders_of, lazy_count, names, nothing, spaces_of}
pub use Rattle.address_space.specs.Changes.{CopiedBelow, CopyIn, DirectoryDropped, DroppedBelow, EntryGone, EntryLeft, EntryPut, IsCopying, IsEmptySpace, PageAdded, PageCopied, PageFilled, PagesCopied, SlotAdded, SlotCopied, SlotJoined, SlotRemoved, SpaceAdded, TableFreed, TableGiven, Touched, table_need, takes_stores_through, words_left}
pub use Rattle.address_space.specs.Counts.{AlwaysMapsAlike, AreCountedSpaces, IsCounted, KeepsCounts, MapsAlike, MapsOneMore, pages_by, pages_under, region_pages}
pub use Rattle.address_space.specs.Finds.{BytesStored, CountedUp, EntryCopied, EntryIs, FrameGiven, LiesIn, TableGot, TableReady, TakesPage, entry_found, found_by, found_in, lazy_found}
pub use Rattle.address_space.specs.Image.{CellStands, Image, IsCount, IsOneGroup, IsSoundImage, LeavesRoom, SlotStands, StandsFor, StandsForOne, directory_at, image_from, image_of, is_lazy_at, is_user_slot, named_by, page_frame, page_word, present_word, table_at, takes_stores, word_of}
pub use Rattle.address_space.specs.ImageWords.{own_frame}
pub use Rattle.address_space.specs.Kept.{LeadTo, is_marked, kept_place, written_at}
pub use Rattle.address_space.specs.Places.{PlacesTell, cell_flags, entry_flags, found_of, need_of, place_by, place_in, place_there, table_of_place, takes_place}
pub use Rattle.address_space.specs.Restored.{HasRoom, counted_at, words_by, words_where}
pub use Rattle.address_space.specs.Shown.{shown}
pub use Rattle.address_space.specs.Slots.{slots_below}
unfoldable pub use Rattle.address_space.specs.Slots.{user_slots}
pub use Rattle.address_space.specs.Sound.{HoldsPage, InUse, InUseAt, Inside, IsAlone, IsShared, IsSound, IsSpaces, Names, Pages, Tables, weight_in}
pub use Rattle.address_space.specs.Spaces.{Cell, Slot, Spaces, access_need, accessed, all_accessed, all_stored, at_page, byte_at, bytes_at, bytes_of, cell_or_fresh, copied, copied_at, copy_of, cost, cost_of, fresh, is_of, is_slot, join_in, joined, missing, need, number_of, page_need, pages_of, protected, regions_of, set_bytes, set_holders, slot_at, slot_cmp, slot_order, store_in, stored, value_of, with_bytes, with_holders, with_page, with_pages, without, write_at, zeros}
pub use Rattle.address_space.specs.Stays.{EntriesStay, FramesStay, Gone, LooseStay, PlacesStay, WaysAgree, entry_frame, none_goes, of_lazy, of_page, slot_table, way_of}
pub use Rattle.address_space.specs.View.{Directories, Roles, View, directory_of, entry_in, live_cost, table_in}
unfoldable pub use Rattle.address_space.specs.View.{entries_in, spaces_in, total_cost}
pub use Rattle.address_space.specs.Walks.{FindsBytes, WalkEndsBy, WalksAgree}
pub use Rattle.address_space.specs.declared.Spaces.TheInside.{Inside as Inner}
pub use Rattle.address_space.specs.declared.place.Found.{Found}
pub use Rattle.address_space.specs.declared.place.Place.{Place}
pub use Rattle.alloc_table.proofs.RoleLemmas.{free-by-weight, get-set_other, get-set_same, in-use-and-reserved, weight-set, weight-taken}
pub use Rattle.alloc_table.specs.Roles.{IsHeld, IsInUse, IsPageBelow, IsReleased, IsTaken, frames_weight, free_frames, released, weight}
unfoldable pub use Rattle.alloc_table.specs.Roles.{opening_roles}
pub use Rattle.alloc_table.specs.declared.Role.{Role}
pub use Rattle.alloc_table.specs.declared.Role.TheVariants.{Directory, Free, Page, Reserved, Table}
pub use Rattle.page_map.proofs.LawProofs.{walks_read_entries}
pub use Rattle.page_map.proofs.PageLemmas.{bool_counted, count-no_table, count-table, count_range-add, count_range-le, count_range-none, count_range-same, get-entries_other, get-entries_user, mapped_in_table, user_cases}
pub use Rattle.page_map.proofs.WordLaws.{entry_from-entry_word, entry_word-lt, entry_word-names, entry_word-present, link_word-lt, link_word-names, with_flag_lt, word_entry-entry_word, word_table-link_word}
pub use Rattle.page_map.specs.Entries.{Frames, IsCleared, IsKernelEntry, IsPageMap, dir_word, entry_at, entry_from, entry_word, is_lazy_entry, lets_writes, link_word, table_of, with_entry, with_table, without_entry, without_table, word_entry, word_table}
pub use Rattle.page_map.specs.Laws.{end_at_entry, touched_entry}
pub use Rattle.page_map.specs.Pages.{counted, entries_of, is_mapped}
unfoldable pub use Rattle.page_map.specs.Pages.{count_range}
pub use Rattle.page_map.specs.declared.PageEntry.{PageEntry}
pub use Rattle.page_words.proofs.Accesses.{crosses, page_next, page_stays, range_split, some_bytes, stays}
pub use Rattle.page_words.proofs.Flags.{flag-with_flag_other, frame-with_flag, table_words_by_fields}
pub use Rattle.page_words.proofs.MapLemmas.{contains-from_list, contains-insert, contains-retain, get-collect, get-insert, get-map_values, get-retain_keys, len-change_each, len-insert, list_any-map, list_any-put, retain-insert, retain-insert_other, same-true, same_itself, same_map, same_or_not, same_set}
pub use Rattle.page_words.proofs.OptionLemmas.{is_some-map, no_value, some_value}
pub use Rattle.page_words.proofs.SetLemmas.{same_apart, same_cases}
pub use Rattle.page_words.specs.Addresses.{EachTouched, IsUserPage, byte_count, covered, index_number, offset_number, page_and, page_number, second_page, slot_number, start_number, touched}
pub use Rattle.page_words.specs.FiniteMap.{Map, Order, change_each, collect, nat_order, put_some, same}
pub use Rattle.page_words.specs.FiniteSet.{Set}
pub use Rattle.page_words.specs.Words.{IsKernelDirWord, IsKernelTableWord, NamesPage, NamesTable, frame_number, is_lazy, is_present, with_flag}
pub use Rattle.page_words.specs.declared.addresses.Size.{Size}
pub use Rattle.phys_memory.proofs.Frames.{by_frame, byte-frame, frame-blank, frames-with_byte, frames-with_frame_bytes, frames-with_part, frames-with_word, frames-with_word_at, length-frame, length-with_word_in, part-frame, with_frame-other, with_frame-same, word_at-frame, word_in-frame, word_in-zeros, word_in_other, word_in_same}
pub use Rattle.phys_memory.specs.Bytes.{frame_bytes, with_frame, with_frame_bytes, with_word_in, word_in, word_place}
unfoldable pub use Rattle.phys_memory.specs.Bytes.{blank_bytes, with_word, word_at}
pub use Rattle.table_walk.specs.Walk.{is_outside, is_write, not_allowed, table_word, walk_of}
pub use Rattle.table_walk.specs.declared.Access.{Access}
pub use Rattle.table_walk.specs.declared.Access.TheVariants.{Read, Write}
pub use Rattle.table_walk.specs.declared.WalkEnd.{WalkEnd}
pub use Rattle.table_walk.specs.declared.WalkEnd.TheVariants.{Outside}
pub use Rattle.std.proofs.Math.Nat.{add-mul, mul_assoc, mul_comm, pow-zero}
pub use Rattle.page_map.proofs.Counting.{another_one, count_none, count_some, one_alone, table_mapped}
unfoldable pub use Rattle.table_walk.specs.Marks.{marked}
pub use Rattle.table_walk.specs.Marks.{CanBeMarked, accessed_word, touched_word}
