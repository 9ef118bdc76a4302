-- The names that the proofs of this crate cite from elsewhere, passed on from one place. Declares nothing.
pub use Rattle.std.proofs.Common.{Bool, List, None, Option, Some, [], ap, arith, cond, drop, false, inl, inr, is_none, is_some, length, not, refl, replicate, subst, suc, sym, true, unwrap_or, zero, ℕ, ◌%◌, ◌&&◌, ◌++◌, ◌+◌, ◌-◌, ◌/◌, ◌<◌, ◌==◌, ◌^◌, ◌||◌, ◌∙◌, ◌∷◌, ◌≡◌, ◌≢◌, ◌≤◌}
pub use Rattle.std.proofs.Math.Bool.{or-true}
pub use Rattle.std.proofs.lemmas.Bool.{cases_eq, cases_lt, le-leb, leb-true, lt-ltb, ltb-true, ne_eqb, not-false}
pub use Rattle.std.proofs.lemmas.List.{get_or_default, same_lists}
pub use Rattle.std.proofs.lemmas.List.Elements.{All-cons, All-nil, All-tail}
pub use Rattle.std.proofs.lemmas.Option.{same_Some}
pub use Rattle.std.specs.List.{All, range_with_len}
pub use Rattle.std.specs.Option.{option_map}
pub use Rattle.std.specs.Prelude.{IfSome, IsTrue, find, if◌then◌else◌, nat_le, nat_lt, slice_index, ◌↔◌, ◌⊎◌}
pub use Rattle.address_space.proofs.costs.AccessCosts.{kept}
pub use Rattle.address_space.proofs.costs.Copied.{copied-other, get-copied}
pub use Rattle.address_space.proofs.costs.MapFirst.{AreThere, IsThere, bytes_there, first_there, rest_there, touched-there, with_page-keeps}
pub use Rattle.address_space.proofs.entries.Refinement.{insert_there}
pub use Rattle.address_space.proofs.steps.Bytes.{each_byte}
pub use Rattle.address_space.proofs.steps.Departures.{get-without, left}
pub use Rattle.address_space.proofs.steps.Stores.{length-bytes_of}
pub use Rattle.address_space.specs.Spaces.{Cell, Slot, Spaces, accessed, all_accessed, all_stored, at_page, bytes_of, cell_or_fresh, copied, copy_of, cost, fresh, is_of, is_slot, join_in, joined, set_bytes, set_holders, slot_at, slot_order, store_in, stored, with_bytes, with_holders, with_page, with_pages, without, write_at}
pub use Rattle.authority_laws.proofs.Consent.{sharing_by_consent}
pub use Rattle.authority_laws.proofs.Gone.{exits_end, offers_end, unmaps_end}
pub use Rattle.authority_laws.proofs.Outsiders.{outsiders_unseen}
pub use Rattle.authority_laws.proofs.OwnViews.{members_told_the_same}
pub use Rattle.authority_laws.proofs.SharingStays.{sharing_stays}
pub use Rattle.authority_laws.specs.Authority.{HaveTheSame, IsQuietCall, IsUnseen, LooksSame, Sees, found, is_offered}
pub use Rattle.fault_handler.proofs.Settled.{Goes, all_user, ready, same_cells}
pub use Rattle.fault_handler.specs.Plans.{fault_or, is_read_only, outside, plan_of, read_only, step_of}
pub use Rattle.fault_handler.specs.declared.plans.PageStep.{PageStep}
pub use Rattle.kernel_calls.proofs.Cleanings.{clean, get_clean, same_at, there}
pub use Rattle.kernel_calls.proofs.Commuting.{SameGroups, at_slot, back, group_at, group_set, group_stored, swap, two_slots}
pub use Rattle.kernel_calls.proofs.CommutingGone.{bytes_gone, fewer, get_gone}
pub use Rattle.kernel_calls.proofs.Decided.{next-goes, next-stays}
pub use Rattle.kernel_calls.proofs.Effects.{Touches, first_touched, second_touched}
pub use Rattle.kernel_calls.proofs.Leaving.{entry_left, through}
pub use Rattle.kernel_calls.proofs.RightfulChanges.{changes_are_rightful, marks_all_stored}
pub use Rattle.kernel_calls.proofs.Runs.{kept-next, not-refused, went-on}
pub use Rattle.kernel_calls.proofs.Tellings.{completes_by_kind}
pub use Rattle.kernel_calls.proofs.Untouched.{caller_live, integrity}
pub use Rattle.kernel_calls.proofs.UntouchedSlots.{many_bytes, new_in, none_in, own_byte, own_cell, still_there}
pub use Rattle.kernel_calls.specs.Cleaned.{EndsMarks, cleaned, info_of_page}
pub use Rattle.kernel_calls.specs.Effects.{IsCovered, Maps, Tells}
pub use Rattle.kernel_calls.specs.Integrity.{Flags, IsUntouched, byte_in, flags_at, flags_of, shares}
pub use Rattle.kernel_calls.specs.Machine.{after, answer, answer_of, completes, end_of, info_of, next, planned_or, refused_or}
pub use Rattle.kernel_calls.specs.Translations.{AreRead, IsGiven, IsRead, Kept, Translation, directory_entry, is_ended, is_invalidated, left_by, translation}
pub use Rattle.kernel_calls.specs.declared.calls.Call.{Call}
pub use Rattle.kernel_calls.specs.declared.calls.Event.{Event}
pub use Rattle.kernel_calls.specs.declared.calls.Reply.{Reply}
pub use Rattle.kernel_calls.specs.declared.translations.Ended.{Ended}
pub use Rattle.kernel_laws.specs.Beside.{AccessesBeside, InEitherOrder, OrdersEndTheSame, is_access, only}
pub use Rattle.kernel_laws.specs.Causes.{Applies, CompletesUnless, Faults, FaultsAtTheFirstByte, IsLowest, IsOutside, IsReadOnly, RefusedByTheFirst, asks_to_write, causes_of, frames_asked, key_of, own_page, target_of}
pub use Rattle.kernel_laws.specs.Cleaning.{CleaningIsNoEvent, CleaningIsUnseen, CleaningKeepsStates, CleaningShows, KeptAmongMarks, KeptThroughMarks}
pub use Rattle.kernel_laws.specs.Effects.{Does, DoneMeansDone, FlagsChange, IsStoredAt, IsTogether, SlotsGo}
pub use Rattle.kernel_laws.specs.OwnRuns.{AreOwn, IsOwn}
pub use Rattle.page_sharing.specs.Offers.{offer_key, pending}
pub use Rattle.page_words.proofs.MapLemmas.{contains-insert, contains-retain, get-insert, get-map_values, same-true, same_itself, same_map, same_or_not, same_set}
pub use Rattle.page_words.proofs.OptionLemmas.{no_value, some_value}
pub use Rattle.page_words.proofs.SetLemmas.{same_apart, same_cases}
pub use Rattle.page_words.specs.Addresses.{EachTouched, IsUserPage, byte_count, covered, is_user_page, offset_number, page_and, page_number, second_page, start_number, touched}
pub use Rattle.page_words.specs.FiniteMap.{same}
pub use Rattle.page_words.specs.FiniteSet.{Set}
pub use Rattle.page_words.specs.declared.addresses.Size.{Size}
pub use Rattle.process_table.proofs.Apart.{in_lone}
pub use Rattle.process_table.proofs.ApartOthers.{child_free, fork_free, live_differ, no_page}
pub use Rattle.process_table.proofs.CellLaws.{get-inserted, get-inserted_other}
pub use Rattle.process_table.proofs.Forks.{may_fork}
pub use Rattle.process_table.proofs.Placed.{page_is_user}
pub use Rattle.process_table.proofs.Refusals.{may_accept, may_map}
pub use Rattle.process_table.proofs.SpaceLaws.{user_page, well_formed-bytes, well_formed-cleaned, well_formed-touched}
pub use Rattle.process_table.specs.Calls.{accept_refusal, after_accept, after_load, after_store, fork_refusal, loaded, map_refusal, offered}
pub use Rattle.process_table.specs.State.{State, child_of, is_live, is_mapped, room}
pub use Rattle.process_table.specs.View.{View}
pub use Rattle.process_table.specs.WellFormed.{IsWellFormed}
pub use Rattle.process_table.specs.declared.causes.Cause.{Cause}
pub use Rattle.quota_tree.specs.Book.{Book, Member, given, next_number, number_of_children, quota_of}
pub use Rattle.table_walk.specs.Walk.{error_code}
pub use Rattle.table_walk.specs.declared.Access.{Access}
pub use Rattle.table_walk.specs.declared.Access.TheVariants.{Read, Write}
pub use borrow.Author.Tests.{eq-eqb, eqb-true}
