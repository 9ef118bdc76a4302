-- The frames in use stay within the costs.
use Rattle.address_space.proofs.Prelude.{◌≡◌, ℕ, ◌+◌, ◌<◌, ◌≤◌, List, length, ap, sym, ◌∙◌, arith, inl, inr, Option, slot_number, frame_bytes, Role, free_frames, frames_weight, Spaces, need, directory_of, table_in, spaces_in, total_cost, IsSound, IsSpaces, table_need, TableGiven, SlotAdded, free-by-weight}
use Rattle.address_space.proofs.costs.CostSteps.{need-two, need-least}
use Rattle.address_space.proofs.frames.FrameSteps.{here_or_not}

-- a new page needs a table's frame too where the slot has none
need_table : (directories : List (Option ℕ)) (bytes : List ℕ) (p page : ℕ) → table_need (table_in (directory_of directories) (frame_bytes bytes) p (slot_number page)) + 1 ≤ need (spaces_in directories bytes) p page
unfolding spaces_in
need_table directories bytes p page = grind (arith, need-two, need-least)

abbrev pub Room : List (Option ℕ) → Spaces → List Role → ℕ → ℕ → Type 0
Room directories spaces roles p page = 1 + total_cost directories spaces + need spaces p page ≤ length roles

-- a sound list of roles has a free frame where it weighs less than it is long
pub free_where_light : (directories : List (Option ℕ)) (bytes : List ℕ) (roles : List Role) → IsSound directories bytes roles → length roles ≤ free_frames roles + frames_weight roles
free_where_light directories bytes roles s = free-by-weight roles (λ i c is. (s.pages.counts i c is).0)

-- where the costs leave room, a frame for the table is free
pub room_for_table : (directories : List (Option ℕ)) (bytes : List ℕ) (roles : List Role) (p page : ℕ) → IsSpaces directories bytes roles → Room directories (spaces_in directories bytes) roles p page
    → table_need (table_in (directory_of directories) (frame_bytes bytes) p (slot_number page)) ≤ free_frames roles
room_for_table directories bytes roles p page s room = grind (arith, need_table, free_where_light)

-- and then one for the page
pub room_for_page : (directories : List (Option ℕ)) (bytes bytes1 : List ℕ) (roles roles1 : List Role) (p page : ℕ) → IsSpaces directories bytes roles → Room directories (spaces_in directories bytes) roles p page
    → TableGiven directories p (slot_number page) bytes roles bytes1 roles1 → 0 < free_frames roles1
room_for_page directories bytes bytes1 roles roles1 p page s room given = grind (arith, need_table, free_where_light)

pub mapped : (directories : List (Option ℕ)) (bytes bytes1 bytes2 : List ℕ) (roles roles1 roles2 : List Role) (p page : ℕ) → IsSpaces directories bytes roles → Room directories (spaces_in directories bytes) roles p page
    → TableGiven directories p (slot_number page) bytes roles bytes1 roles1 → SlotAdded directories p page bytes1 roles1 bytes2 roles2 → IsSpaces directories bytes2 roles2
mapped directories bytes bytes1 bytes2 roles roles1 roles2 p page s room given added =
    let costs : total_cost directories (spaces_in directories bytes2) ≡ total_cost directories (spaces_in directories bytes) + need (spaces_in directories bytes) p page =
    added.cost ∙ ap (λ x. total_cost directories x + need x p page) given.spaces in
    let n : length roles2 ≡ length roles = added.length ∙ given.length in
    record {
      sound = added.sound;
      in_use = λ q r. elim (here_or_not p (slot_number page) q r) [
        | inl h ↦ λ t found. added.own t ((λ i. table_in (directory_of directories) (frame_bytes bytes2) (sym h.0 i) (sym h.1 i)) ∙ found)
        | inr n ↦ added.others q r n (given.others q r n (s.in_use q r))
      ];
      weighs = omega (arith, s.weighs, need_table directories bytes p page, given.weight, added.weight, costs);
      within = omega (arith, room, n, costs);
    }
