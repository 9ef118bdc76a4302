-- How many pages each table maps, counted.
use Rattle.std.specs.Prelude.{◌≡◌, ◌≢◌, ℕ, ◌*◌, true, false, List, Option, slice_get, option_map}
use Rattle.address_space.specs.Below.{Role, Reserved, Free, Directory, Table, Page, count_range}
use Rattle.address_space.specs.Spaces.{Slot, Spaces, at_page}
use Rattle.address_space.specs.View.{spaces_in}
use Rattle.address_space.specs.Sound.{IsSpaces}
use Rattle.page_words.specs.FiniteMap as map

-- how many pages a process has mapped in a region of 1,024
abbrev pub region_pages : Spaces → ℕ → ℕ → ℕ
region_pages spaces p s = count_range (λ page. map.contains_key spaces (at_page p page)) (1024 * s) 1024

-- how many pages a frame of this role maps: the table of a region those of the region, any other frame none
abbrev pub pages_by : Spaces → Role → ℕ
pages_by spaces Reserved = 0
pages_by spaces Free = 0
pages_by spaces (Directory p) = 0
pages_by spaces (Table p s) = region_pages spaces p s
pages_by spaces (Page count) = 0

-- how many pages each frame maps
abbrev pub pages_under : Spaces → List Role → ℕ → Option ℕ
pages_under spaces roles f = option_map (pages_by spaces) (slice_get roles f)

-- the count of each frame is how many pages it maps
abbrev pub IsCounted : Spaces → List Role → List ℕ → Type 0
IsCounted spaces roles counts = (f : ℕ) → slice_get counts f ≡ pages_under spaces roles f

-- each frame maps as many pages under some roles as under others
abbrev pub MapsAlike : Spaces → List Role → List Role → Type 0
MapsAlike spaces roles roles' = (f : ℕ) → pages_under spaces roles' f ≡ pages_under spaces roles f

-- and so whatever is mapped
abbrev pub AlwaysMapsAlike : List Role → List Role → Type 0
AlwaysMapsAlike roles roles' = (spaces : Spaces) → MapsAlike spaces roles roles'

-- counts that were right still are
abbrev pub KeepsCounts : Spaces → List Role → Spaces → List Role → Type 0
KeepsCounts spaces roles spaces' roles' = (counts : List ℕ) → IsCounted spaces roles counts → IsCounted spaces' roles' counts

-- one slot more is mapped, and the others are as they were
pub record MapsOneMore (less : Spaces) (slot : Slot) (more : Spaces) : Type 0 where
  pub absent : map.contains_key less slot ≡ false
  pub present : map.contains_key more slot ≡ true
  pub others : (q : Slot) → q ≢ slot → map.contains_key more q ≡ map.contains_key less q

-- the invariant of spaces: memory, directories and roles are spaces, and the counts are theirs
pub record AreCountedSpaces (directories : List (Option ℕ)) (bytes : List ℕ) (roles : List Role) (counts : List ℕ) : Type 0 where
  pub spaces : IsSpaces directories bytes roles
  pub counted : IsCounted (spaces_in directories bytes) roles counts
