-- What the place of a page says, if there is one.
use Rattle.process_table.proofs.Prelude.{◌≡◌, ℕ, true, false, not, ap, ◌&&◌, ◌≤◌, Option, Some, None, arith, is_some, and_parts, not-true, if◌then◌else◌, IfSome, option_map, option_and_then, IsUserPage, is_user_page, Image, is_lazy_at, takes_stores, Spaces, Slot, at_page, cell_or_fresh, State, is_live, is_mapped, View, IsWellFormed, place_in, need_of, place_at, entry_flags, cell_flags}
use Rattle.address_space.specs.Finds.{entry_found}
use Rattle.address_space.specs.declared.place.Place.{Place}
use Rattle.address_space.specs.declared.place.Found.{Found}
use Rattle.process_table.proofs.SpaceLaws.{user_page}
use Rattle.page_words.specs.FiniteMap as map

-- a page of the user range has one
pub placed : (v : View) (p page : ℕ) → is_user_page page ≡ true → place_at v p page ≡ Some (place_in v.directories v.bytes p page)
placed v p page user = ap (λ b. if b then Some (place_in v.directories v.bytes p page) else None) user

-- one of the user range, as a test
pub page_is_user : (page : ℕ) → IsUserPage page → is_user_page page ≡ true
page_is_user page h = grind arith

pub has_place : (v : View) (p page : ℕ) → IsUserPage page → is_some (place_at v p page) ≡ true
has_place v p page user = ap is_some (placed v p page (page_is_user page user))

-- and no other
pub place_known : (v : View) (p page : ℕ) (place : Place) → place_at v p page ≡ Some place → IsUserPage page × (place ≡ place_in v.directories v.bytes p page)
place_known v p page place = grind (arith, user_page)

-- of a second page of the user range, where there is one
pub placed_second : (v : View) (p : ℕ) (x : Option ℕ) → IfSome x IsUserPage → option_and_then (place_at v p) x ≡ option_map (place_in v.directories v.bytes p) x
placed_second v p x user = grind (arith, placed, page_is_user)

-- ---- What the flags of a place are

-- a place needs one frame or two more
pub few_needed : (place : Place) → need_of place ≤ 2
few_needed place = grind arith

pub told_flags : (S : Spaces) (p page : ℕ) (found : Option Found) → option_map entry_flags (entry_found found) ≡ option_map cell_flags (map.get S (at_page p page))
    → IfSome found (λ f. entry_flags f.entry ≡ cell_flags (cell_or_fresh S (at_page p page)))
told_flags S p page found h = grind arith

pub told_write : (S : Spaces) (p page : ℕ) (found : Option Found) → option_map entry_flags (entry_found found) ≡ option_map cell_flags (map.get S (at_page p page))
    → IfSome found (λ f. f.entry.write ≡ (cell_or_fresh S (at_page p page)).write)
told_write S p page found h = grind (arith, told_flags)

pub told_may : (S : Spaces) (p page : ℕ) (found : Option Found) → option_map entry_flags (entry_found found) ≡ option_map cell_flags (map.get S (at_page p page))
    → IfSome found (λ f. f.entry.may ≡ (cell_or_fresh S (at_page p page)).may)
told_may S p page found h = grind (arith, told_flags)

-- a page that is mapped is one of a live process
pub mapped_live : (s : State) (slot : Slot) → IsWellFormed s → is_mapped s slot ≡ true → is_live s slot.pid ≡ true
mapped_live s slot w mapped = grind arith

-- ---- What takes a store

takes_parts : (S : Spaces) (image : Image) (slot : Slot) → takes_stores S image slot ≡ true
    → (map.contains_key S slot ≡ true) × (((cell_or_fresh S slot).write && not (is_lazy_at image slot)) ≡ true)
takes_parts S image slot takes = and_parts (map.contains_key S slot) ((cell_or_fresh S slot).write && not (is_lazy_at image slot)) takes

pub takes_mapped : (S : Spaces) (image : Image) (slot : Slot) → takes_stores S image slot ≡ true → map.contains_key S slot ≡ true
takes_mapped S image slot takes = (takes_parts S image slot takes).0

pub takes_real : (S : Spaces) (image : Image) (slot : Slot) → takes_stores S image slot ≡ true → is_lazy_at image slot ≡ false
takes_real S image slot takes = not-true (is_lazy_at image slot) (and_parts (cell_or_fresh S slot).write (not (is_lazy_at image slot)) (takes_parts S image slot takes).1).1
