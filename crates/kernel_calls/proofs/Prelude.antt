-- The names that the proofs of this crate cite from elsewhere, passed on from one place. Declares nothing.
pub use Rattle.std.proofs.Common.{Bool, Err, List, None, Option, Some, [], add-one, ap, append_assoc, arith, cond, drop, false, filter, get_or, get_or-set_other, get_or-set_same, inl, inr, is_err, is_some, length, map, not, refl, rules, subst, suc, sym, take, true, unwrap_or, zero, ℕ, ◌%◌, ◌&&◌, ◌*◌, ◌++◌, ◌+◌, ◌-◌, ◌/◌, ◌<◌, ◌==◌, ◌^◌, ◌||◌, ◌∙◌, ◌∷◌, ◌≡◌, ◌≢◌, ◌≤◌}
pub use Rattle.std.proofs.lemmas.Bool.{and_parts, cases_eq, eqb-false, ne_eqb, not-false, not-true}
pub use Rattle.std.proofs.lemmas.Bool.Decides.{nat_tests}
pub use Rattle.std.proofs.lemmas.List.{append-nil, drop_all, drop_more, get_or_default, same_lists, take_all, take_more_set}
pub use Rattle.std.proofs.lemmas.List.Elements.{All-head, All-tail}
pub use Rattle.std.proofs.lemmas.Option.{same_Some, slice_get_within}
pub use Rattle.std.specs.List.{range_with_len}
pub use Rattle.std.specs.Option.{option_and_then, option_map}
pub use Rattle.std.specs.Prelude.{IfSome, IsErr, IsOk, IsTrue, MatchBool, Ok, Result, find, if◌then◌else◌, nat_lt, slice_get, slice_index, ◌⊎◌}
pub use Rattle.address_space.proofs.costs.AccessCosts.{cost-same, kept}
pub use Rattle.address_space.proofs.costs.Copied.{copied-other}
pub use Rattle.address_space.proofs.costs.Costs.{same_pages}
pub use Rattle.address_space.proofs.costs.MapFirst.{AreThere, IsThere, bytes_there, first_there, key-all_accessed, key-all_stored, rest_there, touched-there, with_page-keeps, with_touched-same}
pub use Rattle.address_space.proofs.costs.Totals.{cost-protected_of}
pub use Rattle.address_space.proofs.entries.Refinement.{insert_there}
pub use Rattle.address_space.proofs.standing.FramesStand.{frames_stay, stays_more, stays_most, stays_same, way_parts, way_whole}
pub use Rattle.address_space.proofs.standing.Restored.{from_map, from_then, stands, user_named}
pub use Rattle.address_space.proofs.standing.Standing.{image_stands, stands_for_one}
pub use Rattle.address_space.proofs.standing.TablesStand.{own_is, owned}
pub use Rattle.address_space.proofs.standing.WaysStand.{walks_agree, ways_agree}
pub use Rattle.address_space.proofs.steps.Bytes.{each_byte}
pub use Rattle.address_space.proofs.steps.Departures.{get-without, left}
pub use Rattle.address_space.proofs.steps.DirWords.{dir_word_walked}
pub use Rattle.address_space.proofs.steps.Finding.{finds_live, found_at, same_each}
pub use Rattle.address_space.proofs.steps.Steps.{inside}
pub use Rattle.address_space.proofs.steps.Stores.{byte_is_write, length-bytes_of}
pub use Rattle.address_space.proofs.steps.Touches.{spaces_touched}
pub use Rattle.address_space.proofs.steps.WalkSteps.{walk_named}
pub use Rattle.address_space.proofs.steps.WalkedPages.{finds_first, finds_second, load_walked, store_kept, store_walked}
pub use Rattle.address_space.specs.ByWalk.{byte_place, finds, finds_at, number_found, walked_word, with_walked}
pub use Rattle.address_space.specs.Changes.{Touched}
pub use Rattle.address_space.specs.Image.{CellStands, Image, SlotStands, directory_at, is_lazy_at, is_user_slot, named_by, page_frame, page_word, present_word, table_at, takes_stores, word_of}
pub use Rattle.address_space.specs.ImageWords.{IsTableWord, own_frame}
pub use Rattle.address_space.specs.Kept.{LeadTo, is_marked, kept_place}
pub use Rattle.address_space.specs.Places.{place_in}
pub use Rattle.address_space.specs.Restored.{HasRoom}
pub use Rattle.address_space.specs.Sound.{IsSpaces}
pub use Rattle.address_space.specs.Spaces.{Cell, Slot, Spaces, accessed, all_accessed, all_stored, at_page, byte_at, bytes_of, cell_or_fresh, copied, cost, fresh, is_of, is_slot, joined, protected, set_bytes, set_holders, slot_at, slot_order, stored, value_of, with_bytes, with_holders, with_page, with_pages, without, write_at}
pub use Rattle.address_space.specs.Stays.{FramesStay, Gone, WaysAgree, none_goes, of_lazy, way_of}
pub use Rattle.address_space.specs.View.{directory_of, spaces_in, total_cost}
pub use Rattle.address_space.specs.Walks.{FindsBytes, WalkEndsBy, WalksAgree}
pub use Rattle.alloc_table.specs.declared.Role.{Role}
pub use Rattle.alloc_table.specs.declared.Role.TheVariants.{Directory, Free, Page, Reserved, Table}
pub use Rattle.fault_handler.proofs.Settled.{Goes, all_user, each_page, ready, same_cells, same_stops}
pub use Rattle.fault_handler.proofs.Walked.{walk_completes}
pub use Rattle.fault_handler.specs.Fills.{lazy_second, lazy_touched, lazy_written}
pub use Rattle.fault_handler.specs.Plans.{access_result, goes_on, is_read_only, plan_at, plan_of, planned_by, settled, step_at, step_of, takes_no_frame}
pub use Rattle.fault_handler.specs.declared.plans.PageStep.{PageStep}
pub use Rattle.fault_handler.specs.declared.plans.Plan.{Plan}
pub use Rattle.fault_handler.specs.declared.plans.Stop.{Stop}
pub use Rattle.kernel_calls.specs.Along.{CarriesOut, EndsInOrder, KeptThroughRuns}
pub use Rattle.kernel_calls.specs.Cleaned.{EndsMarks, EventsEndMarks, cleaned}
pub use Rattle.kernel_calls.specs.Decisions.{call_of, charge_after, charge_in, child_told, done_told, judged_of, plan_of_call, plan_of_event, planned, refused_plan, reply_to, spawned, tested}
pub use Rattle.kernel_calls.specs.Effects.{CompletesByKind, IsCovered, Maps, SlotsCome, Tells}
pub use Rattle.kernel_calls.specs.Gone.{gone_by, gone_of_call}
pub use Rattle.kernel_calls.specs.Integrity.{ChangesAreRightful, Flags, Integrity, IsStoreInto, byte_in, flags_at, flags_of, is_child_of, shares, shown_of}
pub use Rattle.kernel_calls.specs.Isolation.{Exchange, InvolvesNobody, IsIsolated, OthersMakeNoDifference, RunsAreIsolated, calls_of, events_in, exchanges, involves_others, is_exit, own, pages_given, quota_asked, replies_of, solo}
pub use Rattle.kernel_calls.specs.Kept.{IsLoad, IsStore, KeptFind, KeptLoads, KeptReply, KeptStores, Serves, ServesCall, ServesEvent, StoresMarked, bytes_kept, reply_kept}
pub use Rattle.kernel_calls.specs.Laws.{RunsStayWellFormed}
pub use Rattle.kernel_calls.specs.Lazy.{LeavesLazy}
pub use Rattle.kernel_calls.specs.Machine.{after, answer, answer_of, answers, completes, end_of, info_of, next, none_completes, planned_or, refused_or}
pub use Rattle.kernel_calls.specs.Processors.{AllAreRead, AreAmong, AreTheEvents, CoresAreWalked, EntriesLeadThere, IsCore, IsLeft, LetCall, LetsThrough, MarksLeaveCores, Processors, ProcessorsMakeEvents, Step, Steps, StoresLeaveCores, WalksKeepContainers, WalksLeaveCores, WalksTakeNoFrame, all_left_by, carried, first, forgotten, marked, none, refilled, walk_from, walked, with_kept}
pub use Rattle.kernel_calls.specs.Replied.{IsReplied}
pub use Rattle.kernel_calls.specs.Translations.{AreRead, DirectoriesStay, Ends, EndsFound, EndsNoMore, FindsFrame, FlagsStay, IsGiven, IsRead, Keeping, Keeps, Kept, KeptAreGiven, MapsInRegion, SlotsStay, TablesMap, TablesStay, Translation, TranslationsStay, change, directory_entry, ended_by, ends_in_region, if_lazy, is_all_of, is_ended, is_invalidated, left_by, nothing, of_call, of_pages, onward, translation, walk}
pub use Rattle.kernel_calls.specs.Walked.{bytes_accessed, finds_call, finds_event, reply_found}
pub use Rattle.kernel_calls.specs.Written.{EventsWriteTheirOwn, HasNone, IsSameButAccessed, StandsAsBefore, TakesLazy, WritesItsOwn}
pub use Rattle.kernel_calls.specs.declared.calls.Call.{Call}
pub use Rattle.kernel_calls.specs.declared.calls.Event.{Event}
pub use Rattle.kernel_calls.specs.declared.calls.Reply.{Reply}
pub use Rattle.kernel_calls.specs.declared.translations.Ended.{Ended}
pub use Rattle.page_sharing.specs.Offers.{OfferKey, Offers, offer_key, offer_order}
pub use Rattle.page_words.proofs.Accesses.{crosses, some_bytes}
pub use Rattle.page_words.proofs.Flags.{table_words_by_fields}
pub use Rattle.page_words.proofs.MapLemmas.{contains-insert, contains-retain, get-insert, get-map_values, get-retain_keys, same-true, same_itself, same_map, same_or_not}
pub use Rattle.page_words.proofs.OptionLemmas.{is_some-map, no_value, some_value}
pub use Rattle.page_words.proofs.SetLemmas.{get-remove_other, get-removed, same_apart, same_cases}
pub use Rattle.page_words.specs.Addresses.{EachTouched, IsUserPage, byte_count, index_number, offset_number, page_and, page_number, second_page, slot_number, start_number, touched}
pub use Rattle.page_words.specs.FiniteMap.{Order, nat_order, same}
pub use Rattle.page_words.specs.FiniteSet.{Set}
pub use Rattle.page_words.specs.Words.{IsKernelDirWord, NamesPage, frame_number, is_lazy, is_present}
pub use Rattle.page_words.specs.declared.addresses.Pid.{Pid}
pub use Rattle.page_words.specs.declared.addresses.Size.{Size}
pub use Rattle.phys_memory.proofs.Frames.{byte-frame, word_in-frame}
pub use Rattle.phys_memory.proofs.Words.{length-with_word}
unfoldable pub use Rattle.phys_memory.specs.Bytes.{word_at}
pub use Rattle.phys_memory.specs.Bytes.{frame_bytes, word_place}
pub use Rattle.process_table.proofs.Apart.{cell_alike, cost_alike, given_alike, lacks_room_alike, load_alike, loaded_alike, map_alike, map_refusal_alike, mapped_alike, protect_alike, store_alike, unmap_alike, withdraw_alike}
pub use Rattle.process_table.proofs.ApartOthers.{accept_leaves, child_free, exit_leaves, fork_alike, fork_free, fork_leaves, holders_stored, live_differ, load_leaves, map_leaves, no_page, offer_leaves, protect_leaves, spawn_alike, spawn_leaves, store_leaves, unmap_leaves, withdraw_leaves}
pub use Rattle.process_table.proofs.BookLaws.{parents_in, root-exit, root-spawn, total-within, well_formed-exit, well_formed-open, well_formed-spawn, well_formed-unmap}
pub use Rattle.process_table.proofs.CellLaws.{get-inserted, get-inserted_other, without-stays, without-was}
pub use Rattle.process_table.proofs.Charged.{used-container}
pub use Rattle.process_table.proofs.Forks.{fork-cost, may_fork, root-fork, well_formed-fork}
pub use Rattle.process_table.proofs.Keeping.{container-access}
pub use Rattle.process_table.proofs.Placed.{has_place, place_known, placed_second}
pub use Rattle.process_table.proofs.Ranges.{total-book}
pub use Rattle.process_table.proofs.Refusals.{may_accept, may_map, may_protect, may_unmap}
pub use Rattle.process_table.proofs.SharingLaws.{giver_mapped, touched_user, well_formed-accept, well_formed-offer, well_formed-protect, well_formed-withdraw}
pub use Rattle.process_table.proofs.SpaceLaws.{well_formed-bytes, well_formed-load, well_formed-map, well_formed-store, well_formed-touched}
pub use Rattle.process_table.specs.Apart.{AreAlike, IsApart, alone_with, pages_held}
pub use Rattle.process_table.specs.Calls.{accept_refusal, access_value, after_accept, after_access, after_exit, after_fork, after_load, after_map, after_offer, after_protect, after_spawn, after_store, after_unmap, after_withdraw, fork_refusal, loaded, map_refusal, offered, protect_refusal, spawn_refusal}
pub use Rattle.process_table.specs.Image.{StandsFor, as_account, image_of, memory_of}
pub use Rattle.process_table.specs.Places.{place_at}
pub use Rattle.process_table.specs.State.{State, as_container, child_of, container_of, is_live, is_mapped, open_with}
pub use Rattle.process_table.specs.TestAnswers.{child_unless, done_unless, first_cause, fork_answer, map_answer, number_unless, offer_answer, protect_answer, spawn_answer}
pub use Rattle.process_table.specs.View.{View}
pub use Rattle.process_table.specs.WellFormed.{IsWellFormed, total}
pub use Rattle.process_table.specs.declared.causes.Cause.{Cause}
pub use Rattle.process_table.specs.declared.places.Places.{Places}
pub use Rattle.quota_tree.proofs.BookFacts.{child_no, contains_key-insert, get-insert_other}
pub use Rattle.quota_tree.proofs.Sums.{given-insert, given-remove, number-insert, number-remove}
pub use Rattle.quota_tree.specs.Book.{Member, given, is_child, number_of_children, quota_of}
unfoldable pub use Rattle.table_walk.specs.Walk.{walk_of}
pub use Rattle.table_walk.specs.Walk.{dir_word, is_outside, is_write, not_allowed}
pub use Rattle.table_walk.specs.declared.Access.{Access}
pub use Rattle.table_walk.specs.declared.Access.TheVariants.{Read, Write}
pub use Rattle.table_walk.specs.declared.PageFault.{PageFault}
pub use borrow.Author.Tests.{eq-eqb, eqb-true}
