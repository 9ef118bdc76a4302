-- The definitions that the clauses of this crate name, passed on from one place. Declares nothing.
pub use Rattle.address_space.specs.ByWalk.{walked_word, with_walked}
pub use Rattle.address_space.specs.Changes.{CopyIn, DroppedBelow, EntryGone, EntryLeft, IsCopying, IsEmptySpace, TableFreed, takes_stores_through, words_left}
pub use Rattle.address_space.specs.Finds.{BytesStored, CountedUp, EntryCopied, EntryIs, FrameGiven, LiesIn, TableGot, TakesPage, found_in}
pub use Rattle.address_space.specs.Image.{IsSoundImage, LeavesRoom, StandsFor, StandsForOne, image_from, image_of, is_lazy_at, takes_stores}
pub use Rattle.address_space.specs.Places.{PlacesTell, found_of, lazy_place, need_of, place_by, place_in, table_of_place, takes_place}
pub use Rattle.address_space.specs.Restored.{HasRoom, counted_at, view_from, words_by}
pub use Rattle.address_space.specs.Shown.{shown}
pub use Rattle.address_space.specs.Sound.{Inside, IsSpaces}
pub use Rattle.address_space.specs.Spaces.{Slot, access_need, accessed, all_accessed, all_stored, at_page, byte_at, bytes_at, bytes_of, cell_or_fresh, copied, cost, fresh, is_of, is_slot, joined, need, number_of, pages_of, protected, regions_of, slot_at, stored, value_of, without, write_at}
pub use Rattle.address_space.specs.Stays.{FramesStay, LooseStay, WaysAgree, none_goes, of_lazy, of_page, of_process}
pub use Rattle.address_space.specs.View.{View, directory_of, spaces_in, table_in, total_cost}
pub use Rattle.address_space.specs.Walks.{WalksAgree}
