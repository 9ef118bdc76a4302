-- What the place of a page says.
use Rattle.address_space.proofs.Prelude.{arith, ◌≡◌, ℕ, List, refl, ap, sym, ◌∙◌, Option, Some, None, is_some, option_and_then, option_map, slot_number, IsUserPage, frame_bytes, Frames, Found, takes_stores_through, need, at_page, directory_of, place_there, place_by, table_in, place_in, found_of, table_of_place, need_of, PlacesTell, entry_flags, cell_flags, found_in, entry_found, Inner}
use Rattle.address_space.specs.declared.place.Place.TheVariants.{Mapped}
use Rattle.address_space.proofs.Insides.{AreCountedInside, spaces_at, image_at, table_at, found_at}
use Rattle.address_space.proofs.steps.FoundPages.{absent_cell, need_without, need_with, found_mapped, found_takes, found_lazy, found_get}
use Rattle.page_words.specs.FiniteMap as map

-- what was found at a place is what is found by the page
pub place_found : (inner : Inner) (p page : ℕ) → found_of (place_in inner.directories inner.memory p page) ≡ found_at inner p page
place_found inner p page = grind (arith, table_at, frame_bytes, found_of, place_by, option_and_then)

there_need : (t : ℕ) (x : Option Found) → need_of (place_there t x) ≡ 1
there_need t x = grind arith

place_need : (inner : Inner) (p page : ℕ) → AreCountedInside inner → IsUserPage page → need_of (place_in inner.directories inner.memory p page) ≡ need (spaces_at inner) p page
place_need inner p page before user = by (table_at inner p page) refl
  where
    m : Frames
    m = frame_bytes inner.memory

    by : (x : Option ℕ) → table_at inner p page ≡ x → need_of (place_by m page x) ≡ need (spaces_at inner) p page
    by x is = grind (arith, need_without, there_need, m, need_with)

place_flags : (inner : Inner) (p page : ℕ) → AreCountedInside inner → IsUserPage page → (x : Option Found) → found_at inner p page ≡ x
    → option_map entry_flags (entry_found x) ≡ option_map cell_flags (map.get (spaces_at inner) (at_page p page))
place_flags inner p page before user None is = sym (ap (option_map cell_flags) (absent_cell inner p page before user is))
place_flags inner p page before user (Some f) is = sym (ap (option_map cell_flags) (found_get inner p page f before user is))

pub places_tell : (inner : Inner) → AreCountedInside inner → PlacesTell (image_at inner) (spaces_at inner)
places_tell inner before = record {
  mapped = λ p page user. ap is_some (place_found inner p page) ∙ found_mapped inner p page before user;
  flags = λ p page user. ap (λ x. option_map entry_flags (entry_found x)) (place_found inner p page) ∙ place_flags inner p page before user (found_at inner p page) refl;
  lazy = λ p page user. found_lazy inner p page before user (found_of (place_in inner.directories inner.memory p page)) (place_found inner p page);
  takes = λ p page user. ap (λ x. takes_stores_through (entry_found x)) (place_found inner p page) ∙ found_takes inner p page before user;
  need = λ p page user. place_need inner p page before user;
}

-- the table of a place is that of its region
pub place_table : (directories : List (Option ℕ)) (bytes : List ℕ) (p page : ℕ) → table_of_place (place_in directories bytes p page) ≡ table_in (directory_of directories) (frame_bytes bytes) p (slot_number page)
place_table directories bytes p page = grind arith

-- what is found at a page is its place
pub place_mapped : (directories : List (Option ℕ)) (bytes : List ℕ) (p page : ℕ) (f : Found) → found_in (directory_of directories) (frame_bytes bytes) p page ≡ Some f → place_in directories bytes p page ≡ Mapped f
place_mapped directories bytes p page f h = grind arith
