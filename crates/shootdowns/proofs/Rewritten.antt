-- Memory in which bytes of pages and of free frames were written.
use Rattle.shootdowns.proofs.Prelude.{◌≡◌, ℕ, Bool, true, false, List, length, refl, ap, arith, Some, slice_get, option_map, slot_number, index_number, frame_number, frame_bytes, word_in, Role, Reserved, Free, Directory, Table, Page, page_word, Slot, memory_of, State, View, IsWellFormed, IsCore}
use Rattle.page_words.specs.FiniteMap as map
use Rattle.shootdowns.proofs.Filled.{fill}
use Rattle.shootdowns.proofs.Remade.{Remade}

-- frames whose bytes walks read, and frame 0
abbrev pub is_fixed : Role → Bool
is_fixed Reserved = true
is_fixed (Directory p) = true
is_fixed (Table p s) = true
is_fixed Free = false
is_fixed (Page c) = false

-- no page is dirtied
abbrev pub no_slot : Slot → Bool
no_slot slot = false

pub rewritten : (w : View) → IsCore w → (F : Slot → ℕ) (t : State) (bytes : List ℕ) → length bytes ≡ length w.bytes
    → ((f : ℕ) (r : Role) → slice_get w.roles f ≡ Some r → is_fixed r ≡ true → frame_bytes bytes f ≡ frame_bytes w.bytes f)
    → ((slot : Slot) (n : ℕ) → page_word (memory_of w) slot ≡ Some n → F slot ≡ frame_number n) → t.book ≡ w.state.book → IsWellFormed t
    → ((slot : Slot) → map.get t.spaces slot ≡ option_map (fill F bytes slot) (map.get w.state.spaces slot)) → Remade w F no_slot t bytes
rewritten w core F t bytes long fixed names book well cells = record {
  long = long;
  zero = let size = core.image.sound.root.2 in fixed 0 Reserved ((core.image.memory.sound.reserved 0 (omega (arith, size))).1 refl) refl;
  directories = λ p d s live. ap (λ b. word_in b s) (fixed d (Directory p) ((core.image.memory.sound.directories d p).1 live) refl);
  tables = λ slot f linked. ap (λ b. word_in b (index_number slot.page))
      (fixed f (Table slot.pid (slot_number slot.page)) ((core.image.memory.sound.tables f slot.pid (slot_number slot.page)).1 linked) refl);
  real = λ slot is. cc;
  names = names;
  book = book;
  well = well;
  cells = cells;
}
