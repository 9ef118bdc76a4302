-- The names that the proofs of this crate cite from elsewhere, passed on from one place. Declares nothing.
pub use Rattle.std.proofs.Common.{Bool, List, None, Option, Some, [], ap, arith, cond, eq-eqb, eqb-true, false, inl, inr, is_some, length, length-set, refl, rules, subst, suc, sym, true, unwrap_or, zero, ℕ, ◌%◌, ◌*◌, ◌++◌, ◌+◌, ◌/◌, ◌<◌, ◌==◌, ◌^◌, ◌||◌, ◌∙◌, ◌∷◌, ◌≡◌, ◌≢◌, ◌≤◌}
pub use Rattle.std.proofs.lemmas.Bool.{cases_eq, ne_eqb}
pub use Rattle.std.proofs.lemmas.Option.{slice_get_within}
pub use Rattle.std.specs.Option.{option_and_then, option_map}
pub use Rattle.std.specs.Prelude.{IfSome, IsOk, IsTrue, MatchBool, Ok, if◌then◌else◌, nat_le, nat_lt, not, slice_get, slice_index, slice_set, sum_by, ◌&&◌, ◌↔◌, ◌⊎◌}
pub use Rattle.address_space.proofs.costs.MapFirst.{IsThere, with_touched-same}
pub use Rattle.address_space.proofs.standing.FramesStand.{way_parts, way_whole}
pub use Rattle.address_space.proofs.standing.Restored.{from_map, from_then}
pub use Rattle.address_space.proofs.standing.TablesStand.{own_is, owned}
pub use Rattle.address_space.proofs.steps.Bytes.{each_byte}
pub use Rattle.address_space.proofs.steps.Finding.{found_at, found_each, found_fits, same_each}
pub use Rattle.address_space.proofs.steps.Stores.{byte_is_write, found, get_user}
pub use Rattle.address_space.specs.ByWalk.{after_walked_store, byte_place, finds, finds_at, with_walked}
pub use Rattle.address_space.specs.Image.{CellStands, Image, IsCount, SlotStands, directory_at, image_from, is_lazy_at, is_user_slot, named_by, page_frame, page_word, present_word, table_at, takes_stores, word_of}
pub use Rattle.address_space.specs.ImageWords.{IsTableWord, is_lazy_word, own_frame}
pub use Rattle.address_space.specs.Kept.{kept_place, number_at, written_at}
pub use Rattle.address_space.specs.Spaces.{Cell, Slot, Spaces, accessed, all_accessed, all_stored, at_page, byte_at, bytes_of, cell_or_fresh, fresh, is_of, is_slot, joined, protected, set_bytes, slot_at, slot_order, stored, value_of, with_bytes, with_holders, with_pages, without, write_at, zeros}
pub use Rattle.address_space.specs.Stays.{FramesStay, LooseStay, none_goes, way_of}
pub use Rattle.address_space.specs.View.{directory_of, table_in}
pub use Rattle.address_space.specs.Walks.{FindsBytes, WalkEndsBy, lacks_right}
pub use Rattle.alloc_table.specs.declared.Role.{Role}
pub use Rattle.alloc_table.specs.declared.Role.TheVariants.{Directory, Free, Page, Reserved, Table}
pub use Rattle.fault_handler.proofs.Settled.{each_page}
pub use Rattle.fault_handler.proofs.Walked.{walk_completes}
pub use Rattle.fault_handler.specs.Plans.{plan_at, plan_of, takes_no_frame}
pub use Rattle.kernel_calls.proofs.CommutingGone.{bytes_gone, fewer, get_gone}
pub use Rattle.kernel_calls.proofs.CoreMemory.{spaces, walks_of, ways_of}
pub use Rattle.kernel_calls.proofs.Decided.{goes-call, next-goes, next-stays}
pub use Rattle.kernel_calls.proofs.Flags.{has}
pub use Rattle.kernel_calls.proofs.KeptAccesses.{Touched, kept_find, kept_reply, leads, live, loaded_same, small_page}
pub use Rattle.kernel_calls.proofs.Leaving.{left_read, nothing_ends}
pub use Rattle.kernel_calls.proofs.LeftByProcessors.{marks_leave_cores, stores_leave_cores, walks_leave_cores}
pub use Rattle.kernel_calls.proofs.Linked.{mapped_way, tables_map}
pub use Rattle.kernel_calls.proofs.MixedRuns.{among_read, one, read_at, read_with, serves_call}
pub use Rattle.kernel_calls.proofs.Runs.{kept-next, not-refused}
pub use Rattle.kernel_calls.proofs.Translated.{has_right, walk_finds, walk_takes}
pub use Rattle.kernel_calls.proofs.WalkedReplies.{answered, each_found, goes_frameless, lives, page_mapped, page_takes, told_planned}
pub use Rattle.kernel_calls.specs.Gone.{gives_back, gone_by, gone_of_call}
pub use Rattle.kernel_calls.specs.Kept.{IsLoad, IsStore, Serves, ServesCall, ServesEvent, bytes_kept, reply_kept}
pub use Rattle.kernel_calls.specs.Lazy.{LeavesLazy}
pub use Rattle.kernel_calls.specs.Machine.{after, answer, answer_of, answers, completes, end_of, next}
pub use Rattle.kernel_calls.specs.Processors.{AllAreRead, AreAmong, IsCore, IsLeft, IsLoaded, IsMarked, IsWalked, LetCall, LetsThrough, Processors, with_kept}
pub use Rattle.kernel_calls.specs.Translations.{AreRead, Ends, IsGiven, IsRead, Kept, Translation, WalkGives, directory_entry, ended_by, if_lazy, is_ended, is_invalidated, left_by, of_call, of_pages, translation}
pub use Rattle.kernel_calls.specs.Walked.{bytes_accessed, finds_call, finds_event, reply_found}
pub use Rattle.kernel_calls.specs.declared.calls.Call.{Call}
pub use Rattle.kernel_calls.specs.declared.calls.Event.{Event}
pub use Rattle.kernel_calls.specs.declared.calls.Reply.{Reply}
pub use Rattle.kernel_calls.specs.declared.translations.Ended.{Ended}
pub use Rattle.page_words.proofs.Flags.{flag-with_flag_other, flag-with_flag_same, set_flag_frame, set_flag_other}
pub use Rattle.page_words.proofs.MapLemmas.{contains-insert, contains-retain, get-insert, get-map_values, same-true, same_itself, same_map, same_or_not}
pub use Rattle.page_words.proofs.OptionLemmas.{is_some-map, some_value}
pub use Rattle.page_words.specs.Addresses.{EachTouched, byte_count, index_number, offset_number, page_and, page_number, second_page, slot_number, start_number, touched}
pub use Rattle.page_words.specs.FiniteMap.{nat_order, same}
pub use Rattle.page_words.specs.FiniteSet.{Set}
pub use Rattle.page_words.specs.Words.{IsKernelDirWord, NamesPage, flag, frame_number, is_accessed, is_lazy, is_present, with_flag}
pub use Rattle.page_words.specs.declared.addresses.Size.{Size}
pub use Rattle.phys_memory.proofs.Frames.{byte-frame, frames-with_byte, frames-with_word, length-frame, with_frame-other, with_frame-same, word_in-frame, word_in_other, word_in_same}
pub use Rattle.phys_memory.proofs.Words.{length-with_word, word_at-with_word_same}
unfoldable pub use Rattle.phys_memory.specs.Bytes.{frame_bytes, with_word, word_at}
pub use Rattle.phys_memory.specs.Bytes.{IsInside, with_frame, with_word_in, word_in, word_place}
pub use Rattle.process_table.proofs.CellLaws.{both_true, get-inserted}
pub use Rattle.process_table.proofs.SharingLaws.{touched_user}
pub use Rattle.process_table.specs.Calls.{accept_refusal, after_store, offered}
pub use Rattle.process_table.specs.Image.{Account, IsCharge, IsSoundImage, account_of, image_of, memory_of, quota_from}
pub use Rattle.process_table.specs.State.{State, is_live, is_mapped, open_with}
pub use Rattle.process_table.specs.View.{View}
pub use Rattle.process_table.specs.WellFormed.{IsWellFormed}
pub use Rattle.quota_tree.specs.Book.{given}
pub use Rattle.shootdowns.specs.Shadows.{ComeAfter, LeavesZeros, Uses, UsesComeAfterZeros}
pub use Rattle.shootdowns.specs.Windows.{Acknowledged, Begins, CleanStoresComeFirst, IsStale, IsStaleClean, KeepsNone, LetStore, LetsWrite, Moment, OthersAreRead, OthersEndNothing, ShootdownsMakeEvents, StaleLoadsComeFirst, StaleStoresComeFirst, Stands, Step, Steps, WalksComeFirst, acknowledged, all_dirty, begun, ended_in, first, forgotten, invalidated, loaded, marked, may_end, memory_in, nobody, none, only_takes, ordered, refilled, settled, state_of, stored_clean, takes_right, told, under_way, usable, usual, walked, with_dirty, with_one}
pub use Rattle.shootdowns.specs.Worked.{WorkedProtect, WorkedWindow, WorkedZeros, accept_it, ask_it, first_store, fork_it, load_copy, load_it, map_it, none_kept, offer_it, protect_it, second_store, spawn_it, store_copy, store_it, unmap_it}
unfoldable pub use Rattle.table_walk.specs.Walk.{walk_of}
pub use Rattle.table_walk.specs.Walk.{dir_place, dir_word, not_allowed, table_place}
pub use Rattle.table_walk.specs.declared.Access.{Access}
pub use Rattle.table_walk.specs.declared.Access.TheVariants.{Read, Write}
