-- The names that the proofs of this crate cite from elsewhere, passed on from one place. Declares nothing.
pub use Rattle.std.proofs.Common.{Bool, Err, List, None, Option, Some, T, [], ap, append_assoc, arith, cond, drop, false, filter, inl, inr, is_some, length, length-drop, map, not, refl, rules, set, slice_set, subst, suc, sym, take, true, unwrap_or, zero, ℕ, ◌%◌, ◌&&◌, ◌*◌, ◌++◌, ◌+◌, ◌-◌, ◌<◌, ◌==◌, ◌^◌, ◌||◌, ◌∙◌, ◌∷◌, ◌≡◌, ◌≢◌, ◌≤◌}
pub use Rattle.std.proofs.Math.Bool.{and-false, and-true, or-false, or-true}
pub use Rattle.std.proofs.lemmas.Bool.{and_parts, cases_Bool, cases_eq, cases_lt, eqb-false, le-ltb, leb-true, ltb-false, ne_eqb}
pub use Rattle.std.proofs.lemmas.List.{append-nil, drop-drop, drop-set-lt, drop_at, get_or-append-add, get_or-append_right, get_or-drop, get_or-replicate, get_or-take, get_or_append_left, length-append, length-take-le, map-append, take-append-drop, take_all, take_at, take_more_set}
pub use Rattle.std.proofs.lemmas.List.Elements.{All-append, All-cons, All-get_or, All-weaker}
pub use Rattle.std.proofs.lemmas.List.Folds.{list_any-append}
pub use Rattle.std.proofs.lemmas.Option.{same_Some}
pub use Rattle.std.specs.List.{All, list_all, range_with_len}
pub use Rattle.std.specs.Option.{option_and_then, option_map}
pub use Rattle.std.specs.Prelude.{IfErr, IsOk, IsTrue, MatchBool, Ok, Result, if◌then◌else◌, nat_le, nat_lt, slice_get, slice_index, ◌↔◌, ◌⊎◌}
pub use borrow.Author.Tests.{eq-eqb, eqb-true}
pub use borrow.Rule.Slice.PartMut.{put_mid}
pub use Rattle.address_space.proofs.costs.AccessCosts.{cost-same, kept, key-insert, key-stored}
pub use Rattle.address_space.proofs.costs.AccessNeeds.{cost-with_page, need-beside, need-in_one}
pub use Rattle.address_space.proofs.standing.FramesStand.{stays_more, stays_most, stays_then, way_parts}
pub use Rattle.address_space.proofs.standing.TablesStand.{own_is, owned}
pub use Rattle.address_space.proofs.steps.Departures.{get-without, left}
pub use Rattle.address_space.specs.Image.{CellStands, directory_at, is_lazy_at, page_frame, page_word, table_at, takes_stores}
pub use Rattle.address_space.specs.Spaces.{Cell, Slot, Spaces, accessed, all_accessed, at_page, byte_at, bytes_at, cell_or_fresh, cost, fresh, is_of, is_slot, need, page_need, protected, regions_of, set_bytes, slot_at, slot_cmp, slot_order, store_in, stored, with_bytes, with_holders, with_page, with_pages, without, write_at, zeros}
pub use Rattle.address_space.specs.Stays.{FramesStay, Gone, none_goes, of_lazy, way_of}
pub use Rattle.address_space.specs.Walks.{WalkEndsBy}
pub use Rattle.alloc_table.specs.declared.Role.TheVariants.{Directory, Free, Page, Reserved, Table}
pub use Rattle.fault_handler.proofs.Settled.{Goes, all_user, each_right, mapped_right, ready, same_cells}
pub use Rattle.fault_handler.specs.Plans.{outside, plan_of, step_of}
pub use Rattle.kernel_calls.specs.Integrity.{is_child_of, shares}
pub use Rattle.kernel_calls.specs.Cleaned.{EndsMarks, info_of_page, is_dirty_at}
pub use Rattle.kernel_calls.specs.Gone.{gone_by}
pub use Rattle.kernel_calls.specs.Machine.{answer, answer_of, answers, completes, end_of, next, planned_or, refused_or}
pub use Rattle.kernel_calls.specs.Processors.{IsCore}
pub use Rattle.kernel_calls.specs.Along.{CarriesOut, EndAlong}
pub use Rattle.kernel_calls.specs.Translations.{Ends, ended_by, if_lazy, is_all_of, is_ended, of_call, of_pages}
pub use Rattle.kernel_calls.specs.declared.calls.Event.{Event}
pub use Rattle.kernel_calls.specs.declared.calls.Reply.{Reply}
pub use Rattle.kernel_calls.specs.declared.translations.Ended.{Ended}
pub use Rattle.page_sharing.specs.Offers.{OfferKey, without_page, without_process}
pub use Rattle.page_words.proofs.Accesses.{first_by_page, page_stays, range_split}
pub use Rattle.page_words.proofs.MapLemmas.{contains-insert, contains-retain, get-insert, get-map_values, get-retain_keys, same-true, same_itself, same_map, same_or_not, same_set}
pub use Rattle.page_words.proofs.OptionLemmas.{no_value, some_value}
pub use Rattle.page_words.proofs.SetLemmas.{get-remove, get-remove_other, same_apart, same_cases, same_sym}
pub use Rattle.page_words.specs.Addresses.{IsUserPage, is_user_page, offset_number, page_and, page_number, second_page, slot_number, start_number, touched}
pub use Rattle.page_words.specs.FiniteMap.{nat_order, same}
pub use Rattle.page_words.specs.FiniteSet.{Set}
pub use Rattle.phys_memory.proofs.Frames.{frame_past, part-frame}
pub use Rattle.phys_memory.specs.Bytes.{frame_bytes}
pub use Rattle.process_table.proofs.CellLaws.{both_true, get-inserted, get-inserted_other}
pub use Rattle.process_table.proofs.Placed.{page_is_user}
pub use Rattle.process_table.specs.Calls.{after_exit, after_protect, after_unmap}
pub use Rattle.process_table.specs.Image.{StandsFor, image_of, memory_of}
pub use Rattle.process_table.specs.Parts.{after_loads, after_stores}
pub use Rattle.process_table.specs.State.{State, container_of, extra_cost, is_live, is_mapped, overdrawn}
pub use Rattle.process_table.specs.View.{View}
pub use Rattle.process_table.specs.WellFormed.{IsWellFormed}
pub use Rattle.quota_tree.proofs.Sums.{given-remove, number-remove}
pub use Rattle.quota_tree.specs.Book.{Book, Member, given, is_child, number_of_children, quota_of}
unfoldable pub use Rattle.table_walk.specs.Walk.{walk_of}
pub use Rattle.table_walk.specs.declared.Access.TheVariants.{Read, Write}
pub use Rattle.kernel_acts.specs.Acts.{ChildrenFirst, Descends, EndsFamily, all_done, child, exit_of, exits, is_among, itself, spaces_of_all, ungrouped, without_processes}
pub use Rattle.kernel_acts.specs.Installed.{Installs, IsNotOpened, IsOpened, IsRunTo, closed, installed, is_writable_at, map_of, opening, protect_of, store_run}
pub use Rattle.kernel_acts.specs.Loaded.{IsLastThere, Loads, load_refusal, may_at, no_page, page_more, pages_under}
pub use Rattle.kernel_acts.specs.TakenBack.{Leads, TakesBack, Taking, Unmapped, is_beside, is_held, unmap_of, without_slots}
pub use Rattle.kernel_acts.specs.Transfers.{AreLoaded, AreStored, Reads, Writes, carried, load_byte, loads, of_lazy_pages, stop_of, store_byte, stores, value_in, values}
pub use Rattle.kernel_acts.specs.declared.taking.Holder.{Holder}
pub use Rattle.kernel_acts.specs.declared.transfers.Transfer.{Transfer}
pub use Rattle.std.specs.Cmp.{nat_cmp_total, unsigned_tied}
pub use Rattle.std.specs.FinMap.Entries.{below_all, find, is_sorted, length_without}
pub use Rattle.address_space.proofs.steps.Bytes.{bytes_by_places, part_in_page, stored-flags, stored-stored, stored-write, write_at-nothing}
pub use Rattle.kernel_acts.specs.Steps.{event_of}
pub use Rattle.kernel_calls.proofs.Cleanings.{events_end_marks}
pub use Rattle.kernel_calls.proofs.Commuting.{group_at, group_stored}
pub use Rattle.kernel_calls.proofs.CoreMemory.{walks_of, ways_of}
pub use Rattle.kernel_calls.proofs.Decided.{next-goes, next-stays}
pub use Rattle.kernel_calls.proofs.Linked.{mapped_way, tables_map}
pub use Rattle.kernel_calls.proofs.Runs.{answers-append, end_of-append, went-on}
pub use Rattle.kernel_calls.proofs.Translated.{has_right, walk_finds, walk_takes, way_mapped}
pub use Rattle.page_words.specs.declared.addresses.Size.TheVariants.{One}
pub use Rattle.table_walk.specs.Walk.{is_write}
