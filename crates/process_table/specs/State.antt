-- The machine's state: spaces, book and offers, what a process has room for, and what is known of it.
use Rattle.std.specs.Prelude.{ℕ, ◌-◌, Bool, nat_lt, List, Option, option_map, unwrap_or}
use Rattle.process_table.specs.Below.{Slot, Spaces, cost, with_pages, Book, Member, given, quota_of, number_of_children, next_number, Container, Offers}
use Rattle.page_words.specs.FiniteMap as map

-- the state: the spaces, the book and the offers
pub record State : Type 0 where
  pub spaces : Spaces
  pub book : Book
  pub offers : Offers

-- a machine of n frames as it boots: process 0 alone, with all frames but frame 0 as its quota
abbrev pub open_with : ℕ → State
open_with n = record { spaces = map.empty; book = map.insert map.empty 0 (record { parent = 0; quota = n - 1 }); offers = map.empty }

-- whether process p is live
abbrev pub is_live : State → ℕ → Bool
is_live s p = map.contains_key s.book p

-- whether a slot is mapped
abbrev pub is_mapped : State → Slot → Bool
is_mapped s slot = map.contains_key s.spaces slot

-- what is left of a process's quota after its own cost and what it gave away
abbrev pub room : State → ℕ → ℕ
room s p = quota_of s.book p - cost s.spaces p - given s.book p

-- what a process costs more once each of these pages is mapped
abbrev pub extra_cost : State → ℕ → List ℕ → ℕ
extra_cost s p pages = cost (with_pages s.spaces p pages) p - cost s.spaces p

-- whether that is more than the process has room for
abbrev pub overdrawn : State → ℕ → List ℕ → Bool
overdrawn s p pages = nat_lt (room s p) (extra_cost s p pages)

-- the number of the next child, where one is free
abbrev pub child_of : State → ℕ
child_of s = unwrap_or (next_number s.book) 0

-- what is known of a live process whose entry in the book this is
abbrev pub as_container : State → ℕ → Member → Container
as_container s p member = record {
  parent = member.parent;
  quota = member.quota;
  used = cost s.spaces p;
  given = given s.book p;
  children = number_of_children s.book p;
}

-- what is known of a process, where it is live
abbrev pub container_of : State → ℕ → Option Container
container_of s p = option_map (λ member. as_container s p member) (map.get s.book p)
