-- The names that the proofs of this crate cite from elsewhere, passed on from one place. Declares nothing.
pub use Rattle.std.proofs.Common.{Bool, List, None, Option, Some, T, [], ap, arith, cond, drop, false, filter, get_or, inl, inr, is_some, length, length-set, not, refl, replicate, subst, suc, sum_by, sym, true, unwrap_or, zero, ℕ, ◌&&◌, ◌+◌, ◌-◌, ◌<◌, ◌==◌, ◌∙◌, ◌∷◌, ◌≡◌, ◌≢◌, ◌≤◌, ◌⊎◌}
pub use Rattle.std.proofs.lemmas.Bool.{cases_eq, cases_lt, ne_eqb}
pub use Rattle.std.proofs.lemmas.List.{drop_all, get_or-set_other, get_or-set_same, get_or_past, length-replicate}
pub use Rattle.std.proofs.lemmas.Option.{get_or_from_slice_get, same_Some, slice_get-get_or}
pub use Rattle.std.specs.List.{find, range_with_len}
pub use Rattle.std.specs.Option.{option_map}
pub use Rattle.std.specs.Prelude.{Err, IfSome, Ok, position, slice_get, slice_index_or, slice_set}
pub use borrow.Author.Tests.{eq-eqb, eqb-true}
pub use Rattle.page_words.proofs.MapLemmas.{get-insert, same_itself, same_map}
pub use Rattle.page_words.proofs.SetLemmas.{get-remove, get-remove_other, get-removed, put_back, same_apart, same_cases}
pub use Rattle.page_words.specs.FiniteMap.{Map, nat_order, same}
pub use Rattle.quota_tree.specs.Accounts.{Agree, account_at, book_in, container_in, containers_in, counts_child, member_in}
pub use Rattle.quota_tree.specs.Book.{Book, Member, given, is_child, next_number, number_of_children, quota_of}
pub use Rattle.quota_tree.specs.Collected.{collected_from}
unfoldable pub use Rattle.quota_tree.specs.Collected.{collected}
pub use Rattle.quota_tree.specs.Containers.{Containers, IsLive, after_close, after_split, as_container, charged_with, container_of, fitting, giver_after_close, giver_after_split, opened_container, opening, room_of, split_answer, total_used, used_of, with_used}
pub use Rattle.quota_tree.specs.Invariant.{HasRoot, IsBooked, IsQuotas, member_of, seen_as}
pub use Rattle.quota_tree.specs.declared.Container.{Container}
