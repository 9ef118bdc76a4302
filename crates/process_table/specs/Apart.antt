-- Processes that have nothing to do with the others, and when two such have the same.
use Rattle.std.specs.Prelude.{◌≡◌, ◌≢◌, ℕ, Bool, false, IsTrue, List, map, Option, Some, option_map}
use Rattle.process_table.specs.Below.{Map, nat_order, Set, Slot, slot_order, Cell, pages_of, at_page, number_of_children, quota_of, OfferKey}
use Rattle.process_table.specs.State.{State, is_live}
use Rattle.page_words.specs.FiniteMap as map
use Rattle.page_words.specs.FiniteSet as set

-- what a process has at a mapped page, whoever shares it
pub record Held : Type 0 where
  pub write : Bool
  pub may : Bool
  pub accessed : Bool
  pub dirty : Bool
  pub bytes : List ℕ

-- what a process holds in a cell: all but the group
abbrev pub held_in : Cell → Held
held_in cell = record { write = cell.write; may = cell.may; accessed = cell.accessed; dirty = cell.dirty; bytes = cell.bytes }

-- what a process has at a page, where it is mapped
abbrev pub held : State → ℕ → ℕ → Option Held
held s p page = option_map held_in (map.get s.spaces (at_page p page))

-- the group of a slot that shares its page with no other
abbrev pub lone : Slot → Set slot_order
lone slot = set.insert set.empty slot

-- a live process other than the root that has no child, offers no page and shares none
pub record IsApart (s : State) (p : ℕ) : Type 0 where
  pub live : IsTrue (is_live s p)
  pub not_root : p ≢ 0
  pub childless : number_of_children s.book p ≡ 0
  pub offers_none : (key : OfferKey) (right : Bool) → map.get s.offers key ≡ Some right → key.offerer ≢ p
  pub shares_none : (page : ℕ) (cell : Cell) → map.get s.spaces (at_page p page) ≡ Some cell → cell.holders ≡ lone (at_page p page)

-- two such processes, each in its own state, that have the same at every page and the same quota
pub record AreAlike (s : State) (p : ℕ) (t : State) (q : ℕ) : Type 0 where
  pub one : IsApart s p
  pub other : IsApart t q
  pub pages : (page : ℕ) → held s p page ≡ held t q page
  pub quota : quota_of s.book p ≡ quota_of t.book q

-- ---- A process alone

-- a page that a process begins with
pub record FirstPage : Type 0 where
  pub bytes : List ℕ
  pub write : Bool
  pub may : Bool

-- its cell: neither flag is set, and it is in a group of its own
abbrev pub first_cell : Slot → FirstPage → Cell
first_cell slot page = record { write = page.write; may = page.may; accessed = false; dirty = false; bytes = page.bytes; holders = lone slot }

-- a page as a child begins with it that gets a copy
abbrev pub first_page : Cell → FirstPage
first_page cell = record { bytes = cell.bytes; write = cell.write; may = cell.may }

-- the pages of a process, as a child begins with copies of them
abbrev pub pages_held : State → ℕ → Map nat_order FirstPage
pages_held s p = map.collect (λ page. option_map first_page (map.get s.spaces (at_page p page))) (set.items (pages_of s.spaces p))

-- process 1 with that quota and these pages, under a root of any quota that has nothing else
abbrev pub alone_with : ℕ → ℕ → Map nat_order FirstPage → State
alone_with root quota pages = record {
  spaces = map.collect (λ slot. option_map (first_cell slot) (map.get pages slot.page)) (map (at_page 1) (map.keys pages));
  book = map.insert (map.insert map.empty 0 (record { parent = 0; quota = root })) 1 (record { parent = 0; quota = quota });
  offers = map.empty;
}
