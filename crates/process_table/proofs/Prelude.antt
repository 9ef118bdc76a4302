-- The names that the proofs of this crate cite from elsewhere, passed on from one place. Declares nothing.
pub use Rattle.std.proofs.Common.{Bool, Err, List, None, Ok, Option, Result, Some, T, [], ap, arith, cond, drop, false, filter, inl, inr, is_none, is_some, length, map, not, refl, rules, subst, suc, sum_by, sym, take, true, unwrap_or, zero, ℕ, ◌%◌, ◌&&◌, ◌*◌, ◌++◌, ◌+◌, ◌-◌, ◌/◌, ◌<◌, ◌==◌, ◌||◌, ◌∙◌, ◌∷◌, ◌≡◌, ◌≢◌, ◌≤◌}
pub use Rattle.std.proofs.lemmas.Bool.{and_parts, cases_eq, cases_lt, eqb-false, false_from_ne_true, le-ltb, ne_eqb, not-false, not-true, or_cases, or_right}
pub use Rattle.std.proofs.lemmas.List.{get_or_default, length-replicate}
pub use Rattle.std.proofs.lemmas.List.Sums.{sum_by-cons}
pub use Rattle.std.proofs.lemmas.Option.{same_Some, slice_get_within}
pub use Rattle.std.specs.Cmp.{tied_then, unsigned_tied}
pub use Rattle.std.specs.FinMap.Entries.{below_all, is_some-find, is_sorted, where_key}
pub use Rattle.std.specs.List.{All, find, list_any, range_with_len}
pub use Rattle.std.specs.Option.{option_and_then, option_map}
pub use Rattle.std.specs.Ordering.{nat_cmp}
pub use Rattle.std.specs.Prelude.{IfSome, IsOk, IsTrue, MatchBool, if◌then◌else◌, nat_lt, slice_index, ◌↔◌}
pub use borrow.Author.Tests.{eq-eqb, eqb-true}
pub use Rattle.address_space.proofs.costs.AccessCosts.{cost-same, kept}
pub use Rattle.address_space.proofs.costs.Copied.{copied-other, copied-own, cost-copied, cost-copied_other}
pub use Rattle.address_space.proofs.costs.CostSteps.{region_member, region_there, sum_one}
pub use Rattle.address_space.proofs.costs.Costs.{contains-pages_of, cost-insert, same_pages}
pub use Rattle.address_space.proofs.costs.MapFirst.{AreThere, IsThere, bytes_there, first_there, key-all_accessed, key-all_stored, load_in_page, rest_there, store_in_page, touched-there, with_touched-same}
pub use Rattle.address_space.proofs.costs.Totals.{cost-accessed_of, cost-insert_other, cost-joined, cost-joined_other, cost-protected_of, cost-stored_of, cost-without_other}
pub use Rattle.address_space.proofs.standing.Standing.{one_group, stands_for_one, word_names}
pub use Rattle.address_space.proofs.steps.Departures.{get-without, left, slot_of_process}
pub use Rattle.address_space.specs.Image.{CellStands, Image, IsCount, IsOneGroup, SlotStands, directory_at, image_from, image_of, is_lazy_at, named_by, page_frame, page_word, present_word, table_at, takes_stores, word_of}
pub use Rattle.address_space.specs.Places.{cell_flags, entry_flags, found_of, lazy_place, need_of, place_in, takes_place}
pub use Rattle.address_space.specs.Spaces.{Cell, Slot, Spaces, access_need, accessed, all_accessed, all_stored, at_page, bytes_of, cell_or_fresh, copied, copy_of, cost, cost_of, fresh, is_of, is_slot, join_in, joined, missing, need, page_need, pages_of, regions_of, set_bytes, set_holders, slot_at, slot_order, store_in, stored, value_of, with_bytes, with_holders, with_page, with_pages, without, write_at}
pub use Rattle.address_space.specs.Stays.{LooseStay}
pub use Rattle.address_space.specs.View.{directory_of, live_cost, spaces_in}
unfoldable pub use Rattle.address_space.specs.View.{total_cost}
pub use Rattle.alloc_table.specs.declared.Role.TheVariants.{Page, Table}
pub use Rattle.page_sharing.specs.Offers.{OfferKey, Offers, offer_key, offer_order, pending}
pub use Rattle.page_words.proofs.MapLemmas.{contains-insert, contains-retain, get-collect, get-insert, get-map_values, get-retain_keys, len-insert, retain-insert, retain-insert_other, same-true, same_itself, same_map, same_or_not, same_set}
pub use Rattle.page_words.proofs.OptionLemmas.{is_some-map, no_value, some_value}
pub use Rattle.page_words.proofs.SetLemmas.{get-remove, get-remove_other, same_apart, same_cases}
pub use Rattle.page_words.specs.Addresses.{EachTouched, IsUserPage, byte_count, covered, index_number, is_user_page, offset_number, page_and, page_number, second_page, slot_number, touched}
pub use Rattle.page_words.specs.FiniteMap.{Map, Order, nat_order, same}
pub use Rattle.page_words.specs.FiniteSet.{Set}
pub use Rattle.page_words.specs.declared.addresses.Size.{Size}
pub use Rattle.process_table.specs.Calls.{accept_refusal, after_accept, after_access, after_exit, after_fork, after_load, after_map, after_offer, after_protect, after_spawn, after_store, after_unmap, after_withdraw, exit_refusal, fork_refusal, loaded, map_refusal, offer_refusal, offered, protect_refusal, spawn_refusal, unmap_refusal, withdraw_refusal}
pub use Rattle.process_table.specs.Image.{Account, IsCharge, IsSoundImage, StandsFor, StandsForOne, account_of, as_account, memory_of, quota_from}
pub use Rattle.process_table.specs.Places.{access_places, place_at}
pub use Rattle.process_table.specs.State.{State, child_of, container_of, extra_cost, is_live, is_mapped, open_with, overdrawn, room}
pub use Rattle.process_table.specs.TestAnswers.{accept_answer, child_unless, done_unless, exit_answer, first_cause, for_copy, fork_answer, map_answer, number_unless, spawn_answer, translated}
pub use Rattle.process_table.specs.View.{IsProcesses, IsWhole, View, state_of}
pub use Rattle.process_table.specs.WellFormed.{IsCellAt, IsOfferIn, IsWellFormed, total}
pub use Rattle.process_table.specs.declared.causes.Cause.{Cause}
pub use Rattle.process_table.specs.declared.causes.Cause.TheVariants.{BadPage, BadQuota, HasChildren, Mapped, NoProcess, NotMapped, Quota, Rights, RootExit, TableFull}
pub use Rattle.quota_tree.proofs.BookFacts.{child_no, child_yes, contains_key-insert, get-insert_other}
pub use Rattle.quota_tree.specs.Book.{Book, Member, children, given, is_child, next_number, number_of_children, quota_of}
pub use Rattle.quota_tree.specs.Containers.{Containers, IsLive, after_close, after_split, fitting, opening, room_of, split_answer, total_used, used_of, with_used}
pub use Rattle.table_walk.specs.declared.Access.TheVariants.{Read, Write}
pub use Rattle.std.proofs.Math.Bool.{or-false}
pub use Rattle.std.specs.Result.{is_ok}
pub use Rattle.address_space.proofs.costs.AccessNeeds.{cost-with_page, cost-with_touched, need-in_one, need-in_two}
pub use Rattle.address_space.proofs.standing.FramesStand.{stays_most, stays_then}
pub use Rattle.address_space.proofs.standing.Restored.{from_map, from_then, some_of, user_named}
pub use Rattle.process_table.specs.Apart.{AreAlike, FirstPage, Held, IsApart, alone_with, first_cell, first_page, held_in, lone, pages_held}
pub use Rattle.process_table.specs.Restored.{RootIsItsParent, account_told, image_in}
pub use Rattle.quota_tree.proofs.Sums.{Parents, costs_within, given-insert, given-none, given-remove, lt_not_eq, number-insert, number-none, number-remove}
