-- The place of a page of a process, found by one lookup.
use Rattle.std.specs.Prelude.{◌≡◌, ℕ, Bool, List, Option, Some, None, is_some, option_map}
use Rattle.address_space.specs.Below.{slot_number, IsUserPage, frame_bytes, Frames, PageEntry}
use Rattle.address_space.specs.declared.place.Found.{Found}
use Rattle.address_space.specs.declared.place.Place.{Place}
use Rattle.address_space.specs.declared.place.Place.TheVariants.{Bare, Open, Mapped}
use Rattle.address_space.specs.Changes.{takes_stores_through}
use Rattle.address_space.specs.Spaces.{Cell, Spaces, need, at_page}
use Rattle.address_space.specs.Image.{Image, is_lazy_at, takes_stores}
use Rattle.address_space.specs.View.{directory_of, table_in}
use Rattle.address_space.specs.Finds.{found_by, lazy_found, entry_found}
use Rattle.page_words.specs.FiniteMap as map

-- the place given by a table, and by what the table has at the page
abbrev pub place_there : ℕ → Option Found → Place
place_there t None = Open t
place_there t (Some f) = Mapped f

-- by the table of the page's region
abbrev pub place_by : Frames → ℕ → Option ℕ → Place
place_by m page None = Bare
place_by m page (Some t) = place_there t (found_by m page t)

-- the place of a page of a process, by directories and memory
abbrev pub place_in : List (Option ℕ) → List ℕ → ℕ → ℕ → Place
place_in directories bytes p page = place_by (frame_bytes bytes) page (table_in (directory_of directories) (frame_bytes bytes) p (slot_number page))

-- the place of a page of a process in an image
abbrev pub image_place : Image → ℕ → ℕ → Place
image_place image p page = place_by (frame_bytes image.bytes) page (table_in image.directories (frame_bytes image.bytes) p (slot_number page))

-- ---- What a place tells

-- where the page is mapped, what was found there
abbrev pub found_of : Place → Option Found
found_of Bare = None
found_of (Open t) = None
found_of (Mapped f) = Some f

-- the table of its region, where that has one
abbrev pub table_of_place : Place → Option ℕ
table_of_place Bare = None
table_of_place (Open t) = Some t
table_of_place (Mapped f) = Some f.table

-- whether the page is lazy
abbrev pub lazy_place : Place → Bool
lazy_place place = lazy_found (found_of place)

-- whether a store to the place succeeds immediately
abbrev pub takes_place : Place → Bool
takes_place place = takes_stores_through (entry_found (found_of place))

-- what one more page costs there
abbrev pub need_of : Place → ℕ
need_of Bare = 2
need_of (Open t) = 1
need_of (Mapped f) = 1

-- the four flags
pub record Flags : Type 0 where
  pub write : Bool
  pub may : Bool
  pub accessed : Bool
  pub dirty : Bool

-- the flags of an entry
abbrev pub entry_flags : PageEntry → Flags
entry_flags e = record { write = e.write; may = e.may; accessed = e.accessed; dirty = e.dirty }

-- the flags of a cell
abbrev pub cell_flags : Cell → Flags
cell_flags c = record { write = c.write; may = c.may; accessed = c.accessed; dirty = c.dirty }

-- the places of pages agree with the spaces
pub record PlacesTell (image : Image) (spaces : Spaces) : Type 0 where
  pub mapped : (p page : ℕ) → IsUserPage page → is_some (found_of (image_place image p page)) ≡ map.contains_key spaces (at_page p page)
  pub flags : (p page : ℕ) → IsUserPage page → option_map entry_flags (entry_found (found_of (image_place image p page))) ≡ option_map cell_flags (map.get spaces (at_page p page))
  pub lazy : (p page : ℕ) → IsUserPage page → lazy_place (image_place image p page) ≡ is_lazy_at image (at_page p page)
  pub takes : (p page : ℕ) → IsUserPage page → takes_place (image_place image p page) ≡ takes_stores spaces image (at_page p page)
  pub need : (p page : ℕ) → IsUserPage page → need_of (image_place image p page) ≡ need spaces p page
