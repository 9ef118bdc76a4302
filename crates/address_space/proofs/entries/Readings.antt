-- What a slot, its bytes and its needs are read as.
use Rattle.address_space.proofs.Prelude.{◌≡◌, ℕ, ◌+◌, ◌*◌, ◌<◌, ◌≤◌, true, false, cond, List, refl, sym, arith, Option, Some, None, length-drop, slice_index, slice_get, is_some, option_and_then, option_map, get_or-drop, is_some-map, slot_number, frame_bytes, word_at, Role, Page, entry_at, IsKernelEntry, PageEntry, Slot, need, value_of, bytes_at, at_page, group_of, cell_of, spaces_of, directory_of, entries_in, spaces_in, table_in, IsSound, InUse, Inside, byte-frame, length-frame, word_at-frame}
use Rattle.address_space.proofs.entries.UserSlots.{in_user_slots}
use Rattle.address_space.proofs.entries.EntrySteps.{get-entries_in}
use Rattle.address_space.proofs.costs.CostSteps.{need-one, need-two}
use Rattle.address_space.proofs.entries.Refinement.{get-spaces_of, group-real}
use Rattle.page_words.specs.FiniteMap as map
use Rattle.page_words.specs.FiniteSet as set

-- the cell of a user page is that of its entry
pub get-spaces_in : (directories : List (Option ℕ)) (bytes : List ℕ) (p page : ℕ) → p < 64 → 0x40000 ≤ page → page < 0xf0000
    → map.get (spaces_in directories bytes) (at_page p page)
    ≡ option_map (cell_of (entries_in (directory_of directories) (frame_bytes bytes)) (frame_bytes bytes) (at_page p page)) (option_and_then (λ d. entry_at (frame_bytes bytes) d page) (directory_of directories p))
unfolding spaces_in
get-spaces_in directories bytes p page few low high = grind (arith, get-spaces_of, get-entries_in, in_user_slots)

-- a slot is mapped where its entry is there
pub mapped_read : (directories : List (Option ℕ)) (bytes : List ℕ) (p d page : ℕ) → directory_of directories p ≡ Some d → p < 64 → 0x40000 ≤ page → page < 0xf0000
    → is_some (map.get (spaces_in directories bytes) (at_page p page)) ≡ is_some (entry_at (frame_bytes bytes) d page)
mapped_read directories bytes p d page live few low high = grind (arith, get-spaces_in, is_some-map)

-- ---- Numbers in a page

-- a word of memory is the number in its page's bytes
pub word_read_in : (bytes : List ℕ) (f at : ℕ) → Inside bytes f → at + 4 ≤ 4096 → word_at bytes (4096 * f + at) ≡ value_of (bytes_at (frame_bytes bytes f) at 4)
unfolding word_at
word_read_in bytes f at i l = grind (arith, length-frame, length-drop, word_at-frame)

pub byte_read_in : (bytes : List ℕ) (f at : ℕ) → Inside bytes f → at < 4096 → slice_index bytes (4096 * f + at) ≡ value_of (bytes_at (frame_bytes bytes f) at 1)
byte_read_in bytes f at i l =
    let z : at ≡ at + 0 = omega arith in
    grind (arith, length-frame, length-drop, byte-frame, get_or-drop)

pub byte_in_frame : (bytes : List ℕ) (f at : ℕ) → at < 4096 → slice_index bytes (4096 * f + at) ≡ slice_index (frame_bytes bytes f) at
byte_in_frame bytes f at l = sym (byte-frame bytes f at l)

-- ---- What one more page costs

pub need_read : (directories : List (Option ℕ)) (bytes : List ℕ) (p page : ℕ) → InUse (directory_of directories) (frame_bytes bytes) → p < 64 → 0x40000 ≤ page → page < 0xf0000
    → need (spaces_in directories bytes) p page ≡ cond (is_some (table_in (directory_of directories) (frame_bytes bytes) p (slot_number page))) 1 2
unfolding spaces_in
need_read directories bytes p page used few low high = by (table_in (directory_of directories) (frame_bytes bytes) p (slot_number page)) refl
  where
    by : (x : Option ℕ) → table_in (directory_of directories) (frame_bytes bytes) p (slot_number page) ≡ x
        → need (spaces_of (entries_in (directory_of directories) (frame_bytes bytes)) (frame_bytes bytes)) p page ≡ cond (is_some x) 1 2
    by None is = need-two (directory_of directories) (frame_bytes bytes) p page is
    by (Some t) is = need-one (directory_of directories) (frame_bytes bytes) p page t few low high is (used p (slot_number page))

-- the size of a slot's group: the count of its page's frame, and 1 where it is lazy
pub group_counted : (directories : List (Option ℕ)) (bytes : List ℕ) (roles : List Role) (slot : Slot) (e : PageEntry) (n : ℕ) → IsSound directories bytes roles → IsKernelEntry e
    → (e.lazy ≡ true → n ≡ 1) → (e.lazy ≡ false → slice_get roles e.frame ≡ Some (Page n)) → n ≡ set.len (group_of (entries_in (directory_of directories) (frame_bytes bytes)) slot e.frame)
group_counted directories bytes roles slot e n sound rules lazy real = grind (arith, group-real)
