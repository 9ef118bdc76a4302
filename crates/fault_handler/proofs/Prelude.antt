-- The names that the proofs of this crate cite from elsewhere, passed on from one place. Declares nothing.
pub use Rattle.std.proofs.Common.{Bool, Err, List, None, Ok, Option, Some, [], ap, arith, cond, false, inl, inr, is_ok, is_some, nat_lt, not, refl, subst, sym, true, unwrap_or, ℕ, ◌&&◌, ◌+◌, ◌-◌, ◌==◌, ◌||◌, ◌∙◌, ◌∷◌, ◌≡◌, ◌≢◌, ◌≤◌}
pub use Rattle.std.proofs.lemmas.Bool.{and_parts, cases_Bool, false≢true, le-ltb, lt-ltb, not-false, not-true}
pub use Rattle.std.specs.Option.{option_and_then, option_map}
pub use Rattle.std.specs.Prelude.{IfSome, find, if◌then◌else◌}
pub use Rattle.address_space.proofs.costs.MapFirst.{touched-there, with_touched-same}
pub use Rattle.address_space.proofs.standing.FramesStand.{stays_more, stays_most, stays_then}
pub use Rattle.address_space.specs.Image.{Image, is_lazy_at, takes_stores}
pub use Rattle.address_space.specs.Spaces.{Cell, Slot, Spaces, access_need, at_page, cell_or_fresh, cost, need, page_need, pages_of, regions_of, slot_at, with_page, with_pages}
pub use Rattle.fault_handler.specs.Looks.{barred, fault_by, look_behind, look_of, need_by, planned_at, planned_by_looks}
pub use Rattle.fault_handler.specs.Plans.{access_result, at_once, fault_or, forbidden, goes_on, is_read_only, maps_page, outside, plan_at, planned_by, settled, step_at, takes_at, takes_no_frame}
pub use Rattle.fault_handler.specs.declared.plans.Plan.{Plan}
pub use Rattle.page_words.proofs.Accesses.{crosses, first_by_page}
pub use Rattle.page_words.proofs.OptionLemmas.{no_value}
pub use Rattle.page_words.specs.Addresses.{EachTouched, IsUserPage, covered, page_number, second_page, slot_number, start_number, touched}
pub use Rattle.page_words.specs.declared.addresses.Size.{Size}
pub use Rattle.process_table.proofs.Overdrawn.{extra_page, extra_touched}
pub use Rattle.process_table.proofs.Placed.{page_is_user}
pub use Rattle.process_table.specs.Calls.{access_value, after_access, map_refusal}
pub use Rattle.process_table.specs.Image.{memory_of}
pub use Rattle.process_table.specs.State.{State, container_of, extra_cost, is_live, is_mapped, overdrawn, room}
pub use Rattle.process_table.specs.View.{View}
pub use Rattle.process_table.specs.declared.causes.Cause.TheVariants.{BadPage, Mapped, NoProcess, Quota}
pub use Rattle.table_walk.specs.declared.Access.{Access}
pub use Rattle.table_walk.specs.declared.Access.TheVariants.{Read, Write}
pub use Rattle.address_space.proofs.costs.AccessNeeds.{cost-with_page, cost-with_touched, need-in_one, need-in_two, second_need}
pub use Rattle.process_table.proofs.SpaceLaws.{new_fits, not_less, user_page}
pub use Rattle.quota_tree.specs.declared.Container.{Container}
