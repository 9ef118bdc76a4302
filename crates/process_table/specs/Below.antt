-- The definitions of other crates that this crate names, passed on from one place. Declares nothing.
pub use Rattle.address_space.specs.ByWalk.{with_walked}
pub use Rattle.address_space.specs.Codes.{spaces_code}
pub use Rattle.address_space.specs.Image.{IsCount, LeavesRoom, directory_at, image_from, is_lazy_at, page_word, table_at, takes_stores}
pub use Rattle.address_space.specs.Places.{PlacesTell, cell_flags, entry_flags, found_of, lazy_place, need_of, place_in, takes_place}
pub use Rattle.address_space.specs.Spaces.{Cell, Slot, Spaces, accessed, all_accessed, all_stored, at_page, byte_at, bytes_of, cell_or_fresh, copied, cost, fresh, is_of, is_slot, joined, need, number_of, pages_of, protected, slot_at, slot_order, stored, with_pages, without}
pub use Rattle.address_space.specs.Stays.{FramesStay, LooseStay, WaysAgree, none_goes, of_lazy, of_page, of_process}
pub use Rattle.address_space.specs.View.{directory_of, role_code, total_cost}
pub use Rattle.address_space.specs.Walks.{WalksAgree}
pub use Rattle.address_space.specs.declared.place.Place.{Place}
pub use Rattle.alloc_table.specs.declared.Role.{Role}
pub use Rattle.page_sharing.specs.Offers.{OfferKey, Offers, offer_key, offers_code, pending, without_page, without_process}
pub use Rattle.page_words.specs.Addresses.{EachTouched, IsUserPage, byte_count, covered, is_user_page, offset_number, page_number, second_page, touched}
pub use Rattle.page_words.specs.FiniteMap.{Map, nat_order}
pub use Rattle.page_words.specs.FiniteSet.{Set}
pub use Rattle.page_words.specs.declared.addresses.Pid.{Pid}
pub use Rattle.page_words.specs.declared.addresses.Size.{Size}
pub use Rattle.quota_tree.specs.Accounts.{account_at}
pub use Rattle.quota_tree.specs.Book.{Book, Member, book_code, given, next_number, number_of_children, quota_of}
pub use Rattle.quota_tree.specs.Containers.{Containers, IsLive, opening, room_of, used_of, with_used}
pub use Rattle.quota_tree.specs.declared.Container.{Container}
pub use Rattle.quota_tree.specs.declared.QuotaFault.{QuotaFault}
pub use Rattle.table_walk.specs.declared.Access.{Access}
pub use Rattle.table_walk.specs.declared.Access.TheVariants.{Read, Write}
