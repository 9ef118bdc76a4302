-- Every slot of the user range.
use Rattle.std.specs.Prelude.{ℕ, zero, suc, List, [], ◌++◌, map}
use Rattle.std.specs.List.{range_with_len}
use Rattle.address_space.specs.Spaces.{Slot, at_page}

-- the slots of the processes below n at these pages
abbrev pub slots_below : ℕ → List ℕ → List Slot
slots_below zero pages = []
slots_below (suc n) pages = map (at_page n) pages ++ slots_below n pages

-- every slot of the user range
unfoldable pub user_slots : List Slot
user_slots = slots_below 64 (range_with_len 0x40000 0xb0000)
