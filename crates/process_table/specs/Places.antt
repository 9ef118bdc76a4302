-- The places of the pages of a call, each found by one lookup.
use Rattle.std.specs.Prelude.{ℕ, if◌then◌else◌, Option, Some, None, option_and_then}
use Rattle.process_table.specs.Below.{page_number, second_page, is_user_page, Size, Place, place_in}
use Rattle.process_table.specs.View.{View}
use Rattle.process_table.specs.declared.places.Places.{Places}

-- the place of a page of the user range
abbrev pub place_at : View → ℕ → ℕ → Option Place
place_at v p page = if is_user_page page then Some (place_in v.directories v.bytes p page) else None

-- those of the pages that an access touches, one or two
abbrev pub access_places : View → ℕ → ℕ → Size → Places
access_places v p address size = record { first = place_at v p (page_number address); second = option_and_then (place_at v p) (second_page address size) }
