-- A mapped page of a core: what a walk finds there, and what a processor may keep of it.
use Rattle.shootdowns.proofs.Prelude.{◌≡◌, ℕ, ◌<◌, ◌^◌, true, false, ap, ◌∙◌, arith, Bool, Some, page_number, frame_number, Access, Read, Write, walk_of, directory_at, page_word, is_lazy_at, Slot, Cell, at_page, way_of, way_parts, memory_of, View, IsCore, IsGiven, ways_of, has, walk_finds}
use Rattle.std.proofs.Common.{Ok}
use Rattle.page_words.specs.FiniteMap as map
use Rattle.shootdowns.proofs.Accesses.{word_mapped, way_at}
use Rattle.shootdowns.proofs.Onward.{stands_at}

-- a page that is dirty isn't lazy
pub dirty_real : (v : View) → IsCore v → (slot : Slot) (c : Cell) → map.get v.state.spaces slot ≡ Some c → c.dirty ≡ true → is_lazy_at (memory_of v) slot ≡ false
dirty_real v core slot c there dirty = grind (arith, word_mapped, ways_of, stands_at)

module _ (v : View) (core : IsCore v) (p page : ℕ) (c : Cell) (there : map.get v.state.spaces (at_page p page) ≡ Some c) where
  abbrev word : (n : ℕ) × (page_word (memory_of v) (at_page p page) ≡ Some n)
  word = word_mapped v core (at_page p page) c there

  abbrev way : (d : ℕ) × (way_of (memory_of v) (at_page p page) ≡ Some (d, frame_number word.0))
  way = way_at v (at_page p page) word.0 word.1

  abbrev pub given_frame : ℕ
  given_frame = frame_number word.0

  abbrev pub given_directory : ℕ
  given_directory = way.0

  pub given_live : directory_at (memory_of v) p ≡ Some given_directory
  given_live = (way_parts (memory_of v) (at_page p page) way.0 (frame_number word.0) way.1).live

  pub found : (access : Access) (a : ℕ) → a < 2 ^ 32 → page_number a ≡ page
      → (access ≡ Write → (c.write ≡ true) × (is_lazy_at (memory_of v) (at_page p page) ≡ false)) → walk_of v.bytes given_directory a access ≡ Ok given_frame
  found access a small here right = walk_finds v core p way.0 a (frame_number word.0) access small
      (ap (λ n. way_of (memory_of v) (at_page p n)) here ∙ way.1)
      (λ is. (
        ap (λ n. has (λ (k : Cell). k.write) (map.get v.state.spaces (at_page p n))) here ∙ ap (has (λ (k : Cell). k.write)) there ∙ (right is).0,
        ap (λ n. is_lazy_at (memory_of v) (at_page p n)) here ∙ (right is).1,
      ))

  -- what a processor may keep of such a page, with dirty or without
  pub given : (dirty : Bool) → c.write ≡ true → c.accessed ≡ true → is_lazy_at (memory_of v) (at_page p page) ≡ false → (dirty ≡ true → c.dirty ≡ true)
      → IsGiven v (record { slot = at_page p page; frame = given_frame; write = true; dirty = dirty })
  given dirty write accessed real marked = record {
    page = (let user = (core.well_formed.cells (at_page p page) c there).user in let high = user.1 in omega (arith, high));
    directory = given_directory;
    live = given_live;
    read = λ a small here. found Read a small here (λ no. (let k = no in cc));
    written = λ _ a small here. found Write a small here (λ _. (write, real));
    cell = c;
    mapped = there;
    accessed = accessed;
    dirty = marked;
  }
