-- The lemmas that the upper files of proofs cite, passed on from one place. Declares nothing.
pub use Rattle.address_space.proofs.Insides.{AreCountedInside, found_at, spaces_at, view_of}
pub use Rattle.address_space.proofs.costs.AccessCosts.{kept, key-insert, key-stored}
pub use Rattle.address_space.proofs.costs.CostSteps.{keys, need-least, need-most, need-one, need-two, region_member, region_there, sum_one, total-entry, total-insert}
pub use Rattle.address_space.proofs.costs.Costed.{Room, mapped, room_for_page, room_for_table}
pub use Rattle.address_space.proofs.costs.Costs.{contains-pages_of, cost-insert, pages-insert, regions-insert, same_pages}
pub use Rattle.address_space.proofs.costs.Relief.{cost_left, light_lacks, page_left, relief_alone, relief_shared}
pub use Rattle.address_space.proofs.costs.Sizes.{cost-within, len-subset}
pub use Rattle.address_space.proofs.costs.Totals.{key-joined}
pub use Rattle.address_space.proofs.entries.EntrySteps.{Loose, entries-remove, entry_by_table, entry_kept, get-entries_in, same_entries, tables-entry, tables_kept, with_word_at}
pub use Rattle.address_space.proofs.entries.Readings.{byte_in_frame, byte_read_in, get-spaces_in, mapped_read, need_read, word_read_in}
pub use Rattle.address_space.proofs.entries.Refinement.{alone_lazy, alone_real, cell_at, contains-holders_of, get-spaces_of, join_refines, leave_refines, lone_refines}
pub use Rattle.address_space.proofs.entries.Removal.{kept_other, put_back, removed}
pub use Rattle.address_space.proofs.entries.Staying.{entry_needs_table, places_by, places_more, places_ready, places_then, stay_removed, stay_same, stay_then}
pub use Rattle.address_space.proofs.entries.UserSlots.{in_user_slots}
pub use Rattle.address_space.proofs.frames.FewHolders.{count_few}
pub use Rattle.address_space.proofs.frames.FrameSteps.{here_or_not, loose-entries, loose-tables, tables-loose, tables-role, tables-unlinked, unlinked-entry, unlinked-others, unlinked-own, unlinked-table, use_loose}
pub use Rattle.address_space.proofs.frames.PageSteps.{holders-less, lazy-more, lazy-real, no_directory, no_free, no_table, pages-fresh, pages-join, pages-lazy, pages-role, same_bytes, unused}
pub use Rattle.address_space.proofs.standing.FramesStand.{frame_read, frames_stay, frames_stay_by, stays_then, way_parts, way_whole}
pub use Rattle.address_space.proofs.standing.Standing.{image_stands, lazy_slots, one_group, read_entry, same_entry, same_lazy, word_names}
pub use Rattle.address_space.proofs.standing.TablesStand.{own_is, past_end, same_table_by}
pub use Rattle.address_space.proofs.steps.Bytes.{bytes_by_places, each_byte, first_bytes, length-bytes, length-part, number_in_page, part_in_page, stored-flags, stored-none, stored_in_page, stored_two, two_parts, value_by_places, write_at-nothing}
pub use Rattle.address_space.proofs.steps.CountSteps.{alike_held, alike_left, alike_released, alike_taken, count_by_entries, count_fits, count_positive, count_there, counted_freed, counted_roles, counts_kept, one_inserted, one_less, opening_counted, page_counted, page_uncounted, region_more, table_count, table_counted, table_freed}
pub use Rattle.address_space.proofs.steps.Departures.{directory_removed, dropped_at_first, dropped_at_last, dropped_next, dropped_past, no_cell_outside, no_cell_unmapped, no_table_outside}
pub use Rattle.address_space.proofs.steps.FoundPages.{absent_cell, filled_found, filled_kept, filled_others, filled_real, filled_stay, found_below, found_bytes, found_cell, found_cleaned, found_filled, found_known, found_least, found_lies, found_loaded, found_long, found_mapped, found_named, found_part, found_protected, found_real, found_shown, found_stored, found_there, found_written, room_found}
pub use Rattle.address_space.proofs.steps.LooseFrames.{loose_gone, loose_released}
pub use Rattle.address_space.proofs.steps.Neighbours.{added_beside, filled_beside, loaded_beside, part_long, second_is, second_none, second_there, stored_beside}
pub use Rattle.address_space.proofs.steps.Openings.{cost_within, empty_cost, no_cell, opening_cost, opening_is_sound, opening_length, opening_spaces, room_for_directory, space_added}
pub use Rattle.address_space.proofs.steps.Placing.{place_found, place_mapped, place_table, places_tell}
pub use Rattle.address_space.proofs.steps.Steps.{IsReady, MapStays, entry_added, free_loose, holds_inside, inside, lazy_entry, live_small, map_kept, none_before, page_added, page_loose, page_map_of, present_by_table, role_other, role_own, sound_by, table_by_word, table_given, table_given_there, zeroed}
pub use Rattle.address_space.proofs.steps.Stores.{HasPage, byte_is_write, cell_read, entry_rules, flags_set, found, frame_written, get_user, length-write_at, named_entry, named_inside, page_held, page_of_name, page_stored, stored_place}
pub use Rattle.address_space.proofs.steps.Touches.{kept_touched}
