-- The names that the proofs of this crate cite from elsewhere, passed on from one place. Declares nothing.
pub use Rattle.std.proofs.Common.{Bool, List, None, Option, Some, [], ap, arith, cond, drop, false, filter, inl, inr, is_none, is_some, length, not, refl, subst, suc, sym, take, true, unwrap_or, zero, ℕ, ◌&&◌, ◌++◌, ◌+◌, ◌-◌, ◌==◌, ◌||◌, ◌∙◌, ◌∷◌, ◌≡◌, ◌≢◌, ◌≤◌}
pub use Rattle.std.proofs.Math.Bool.{or-true}
pub use Rattle.std.proofs.lemmas.Bool.{and_parts, cases_eq, ne_eqb, not-false, or_parts}
pub use Rattle.std.proofs.lemmas.Bool.Decides.{nat_tests}
pub use Rattle.std.proofs.lemmas.List.{ext_get_or}
pub use Rattle.std.proofs.lemmas.List.Elements.{All-head, All-tail}
pub use Rattle.std.proofs.lemmas.Option.{same_Some}
pub use Rattle.std.specs.List.{All}
pub use Rattle.std.specs.Option.{option_map}
pub use Rattle.std.specs.Prelude.{IsTrue, find, if◌then◌else◌, nat_le, nat_lt, slice_index, ◌⊎◌}
pub use Rattle.address_space.proofs.costs.Copied.{copied-other, copied-own}
pub use Rattle.address_space.proofs.costs.Costs.{same_pages}
pub use Rattle.address_space.proofs.steps.Departures.{get-without, left}
pub use Rattle.address_space.specs.Spaces.{Cell, Slot, Spaces, access_need, accessed, all_accessed, all_stored, at_page, bytes_of, cell_or_fresh, copied, copy_of, cost, cost_of, fresh, is_of, is_slot, joined, pages_of, set_bytes, set_holders, slot_at, slot_order, stored, with_bytes, with_holders, with_page, with_pages, without, write_at}
pub use Rattle.authority_laws.specs.Authority.{Along, AreOne, AskAlike, ChildrenAreTheirMakers, ExitsEnd, HasExited, HasLeft, HaveTheSame, Heard, IsAsBefore, IsConfined, IsDiscreet, IsJoin, IsLeave, IsQuiet, IsQuietCall, IsStranger, IsUnseen, KeepsWithin, LooksSame, MembersHearTheSame, MembersSeeTheSame, MembersToldTheSame, NobodyTakesBack, OffersByOfferer, OffersEnd, OffersStay, OutsidersHearNothing, OutsidersUnseen, OwnIsEnough, PlacesStay, RunsKeepBorders, Sees, Settles, SharingByConsent, SharingStays, Standing, UnmapsEnd, found, heard, is_offered, keeps_within, members_after, members_at_end, outside}
pub use Rattle.authority_laws.specs.Availability.{IsServed, Loses, OthersNeverRefuse, RunsNeverRefuse, lost}
pub use Rattle.authority_laws.specs.Families.{FamiliesEndTheSame, FamiliesHearTheirOwn, IsFamily, NewbornsAreFamilies}
pub use Rattle.fault_handler.proofs.Settled.{ready}
pub use Rattle.fault_handler.specs.Plans.{fault_or, forbidden, goes_on, is_read_only, plan_of, step_of}
pub use Rattle.fault_handler.specs.declared.plans.Plan.{Plan}
pub use Rattle.kernel_calls.proofs.Births.{IsBirth, birth_free, child_dead, maker_of, no_parent}
pub use Rattle.kernel_calls.proofs.Decided.{by_next, next-goes, next-stays}
pub use Rattle.kernel_calls.proofs.Isolated.{answer_at}
pub use Rattle.kernel_calls.proofs.RightfulChanges.{changes_are_rightful}
pub use Rattle.kernel_calls.proofs.Runs.{end_of-append, kept-next, kept-run, not-refused, went-on}
pub use Rattle.kernel_calls.proofs.Stays.{Keeps, keeps_accessed, keeps_new, keeps_pages, keeps_set, keeps_through, next_stays, rest_all_stored, rest_of}
pub use Rattle.kernel_calls.proofs.Untouched.{LeavesAll, caller_live, get_joined, integrity, joined_kept, leaves_all, widen}
pub use Rattle.kernel_calls.proofs.UntouchedSlots.{kept_shares, none_in}
pub use Rattle.kernel_calls.specs.Integrity.{Flags, IsStoreInto, Shown, byte_in, flags_at, flags_of, is_child_of, shares, shown_at, shown_of}
pub use Rattle.kernel_calls.specs.Isolation.{exchanges, quota_asked}
pub use Rattle.kernel_calls.specs.Machine.{after, answer, answer_of, answers, completes, end_of, next, planned_or, refused_or}
pub use Rattle.kernel_calls.specs.declared.calls.Call.{Call}
pub use Rattle.kernel_calls.specs.declared.calls.Event.{Event}
pub use Rattle.kernel_calls.specs.declared.calls.Reply.{Reply}
pub use Rattle.page_sharing.specs.Offers.{OfferKey, Offers, offer_key, offer_order, pending}
pub use Rattle.page_words.proofs.MapLemmas.{contains-insert, contains-retain, get-insert, get-map_values, get-retain_keys, len-insert, retain-insert_other, same-true, same_itself, same_map, same_set}
pub use Rattle.page_words.proofs.OptionLemmas.{is_some-map, no_value, some_value}
pub use Rattle.page_words.proofs.SetLemmas.{get-remove, get-remove_other, get-removed, same_apart, same_cases}
pub use Rattle.page_words.specs.Addresses.{byte_count, covered, is_user_page, offset_number, page_number, second_page, touched}
pub use Rattle.page_words.specs.FiniteMap.{Map, nat_order, same}
pub use Rattle.page_words.specs.FiniteSet.{Set}
pub use Rattle.page_words.specs.declared.addresses.Size.{Size}
pub use Rattle.process_table.proofs.Apart.{given_none, in_lone}
pub use Rattle.process_table.proofs.ApartOthers.{child_free, fork_alike, fork_free, live_differ, no_page, spawn_alike}
pub use Rattle.process_table.proofs.BookLaws.{next_free, parents_in, retained}
pub use Rattle.process_table.proofs.CellLaws.{get-inserted, get-inserted_other}
pub use Rattle.process_table.proofs.Forks.{may_fork}
pub use Rattle.process_table.proofs.Overdrawn.{extra_page, extra_touched}
pub use Rattle.process_table.proofs.Refusals.{MayAccept, may_accept, may_map, may_offer}
pub use Rattle.process_table.proofs.SharingLaws.{giver_mapped}
pub use Rattle.process_table.proofs.Sizes.{len-retain}
pub use Rattle.process_table.proofs.SpaceLaws.{not_less}
pub use Rattle.process_table.specs.Apart.{IsApart, lone}
pub use Rattle.process_table.specs.Calls.{accept_refusal, after_accept, after_exit, after_fork, after_load, after_map, after_offer, after_protect, after_spawn, after_store, after_unmap, after_withdraw, exit_refusal, fork_refusal, loaded, map_refusal, offer_refusal, offered, protect_refusal, spawn_refusal, unmap_refusal, withdraw_refusal}
pub use Rattle.process_table.specs.State.{State, child_of, extra_cost, is_live, is_mapped, overdrawn, room}
pub use Rattle.process_table.specs.WellFormed.{IsWellFormed}
pub use Rattle.process_table.specs.declared.causes.Cause.{Cause}
pub use Rattle.quota_tree.proofs.BookFacts.{get-insert_other}
pub use Rattle.quota_tree.proofs.Sums.{given-insert, given-none, given-remove, number-insert, number-none, number-remove}
pub use Rattle.quota_tree.specs.Book.{Book, Member, given, is_child, next_number, number_of_children, quota_of}
pub use Rattle.table_walk.specs.Walk.{is_write}
pub use Rattle.table_walk.specs.declared.Access.{Access}
pub use Rattle.table_walk.specs.declared.Access.TheVariants.{Read, Write}
pub use borrow.Author.Tests.{eq-eqb, eqb-true}
