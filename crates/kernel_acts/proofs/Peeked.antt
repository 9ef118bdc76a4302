-- Bytes that are copied as they stand, and pages that are dirty.
use Rattle.kernel_acts.proofs.Prelude.{◌≡◌, ℕ, ◌+◌, ◌<◌, ◌≤◌, true, false, length, length-drop, take, drop, map, List, sym, ap, ◌∙◌, Option, unwrap_or, arith, range_with_len, option_map, cases_lt, map-append, length-take-le, drop-drop, offset_number, range_split, page_stays, no_value, some_value, Cell, Spaces, fresh, cell_or_fresh, at_page, slot_at, byte_at, bytes_at, State, is_mapped, IsWellFormed, is_dirty_at, put_mid, bytes_by_places, part_in_page}
use Rattle.kernel_acts.proofs.TransferLemmas.{mid_take, mid_drop, mid_long}
use Rattle.page_words.specs.FiniteMap as map

-- a part of the bytes of a page's cell
pub part_peeked : (s : State) (p address n : ℕ) → IsWellFormed s → is_mapped s (slot_at p address) ≡ true → offset_number address + n ≤ 4096
    → bytes_at (cell_or_fresh s.spaces (slot_at p address)).bytes (offset_number address) n ≡ map (byte_at s.spaces p) (range_with_len address n)
part_peeked s p address n w mapped within =
    let c = some_value (map.get s.spaces (slot_at p address)) mapped in
    let cell : cell_or_fresh s.spaces (slot_at p address) ≡ c.0 = ap (λ (x : Option Cell). unwrap_or x (fresh (slot_at p address) true)) c.1 in
    let long : length (cell_or_fresh s.spaces (slot_at p address)).bytes ≡ 4096 = ap (λ (x : Cell). length x.bytes) cell ∙ (w.cells (slot_at p address) c.0 c.1).long in
    sym (bytes_by_places (cell_or_fresh s.spaces (slot_at p address)).bytes (offset_number address) n (omega (arith, long, within)))
    ∙ sym (part_in_page s.spaces p address n within)

-- the addresses of a part of a page are mapped with its first
pub mapped_more : (s : State) (p a at m n : ℕ) → at ≡ a + m → offset_number at + n ≤ 4096 → is_mapped s (slot_at p at) ≡ true
    → ((i : ℕ) → i < m → is_mapped s (slot_at p (a + i)) ≡ true) → (i : ℕ) → i < m + n → is_mapped s (slot_at p (a + i)) ≡ true
mapped_more s p a at m n place within here before i l = grind (arith, cases_lt, page_stays)

-- what is not mapped is not dirty
pub bare_clean : (s : State) (p page : ℕ) → is_mapped s (at_page p page) ≡ false → is_dirty_at s (at_page p page) ≡ false
bare_clean s p page none = ap (λ (x : Option Cell). unwrap_or (option_map (λ (c : Cell). c.dirty) x) false) (no_value (map.get s.spaces (at_page p page)) none)

pub clean_up : (s : State) (p from at found : ℕ)
    → ((other : ℕ) → from ≤ other → other < at → is_dirty_at s (at_page p other) ≡ false)
    → ((other : ℕ) → at ≤ other → other < found → is_mapped s (at_page p other) ≡ false)
    → (other : ℕ) → from ≤ other → other < found → is_dirty_at s (at_page p other) ≡ false
clean_up s p from at found before bare other up down = grind (arith, cases_lt, bare_clean)

pub clean_more : (s : State) (p from at found : ℕ)
    → ((other : ℕ) → from ≤ other → other < at → is_dirty_at s (at_page p other) ≡ false)
    → ((other : ℕ) → at ≤ other → other < found → is_mapped s (at_page p other) ≡ false)
    → is_dirty_at s (at_page p found) ≡ false
    → (other : ℕ) → from ≤ other → other < found + 1 → is_dirty_at s (at_page p other) ≡ false
clean_more s p from at found before bare none other up down = grind (arith, cases_lt, clean_up)

-- a part more of the bytes that are copied
pub record PeekedOn (S : Spaces) (p a done count k : ℕ) (old out part : List ℕ) : Type 0 where
  pub bytes : take (done + count) (put_mid done k out part) ≡ map (byte_at S p) (range_with_len a (done + count))
  pub rest : drop (done + count) (put_mid done k out part) ≡ drop (done + count) old
  pub long : length (put_mid done k out part) ≡ length out

pub peeked_on : (S : Spaces) (p a at done count k : ℕ) (old out part : List ℕ) → at ≡ a + done → done + count ≤ length out → k ≡ count
    → length part ≡ length (take k (drop done out)) → take done out ≡ map (byte_at S p) (range_with_len a done) → drop done out ≡ drop done old
    → part ≡ map (byte_at S p) (range_with_len at (length (take k (drop done out)))) → PeekedOn S p a done count k old out part
peeked_on S p a at done count k old out part place fits same long so_far rest more =
    grind (arith, length-drop, length-take-le, mid_take, map-append, range_split, mid_drop, drop-drop, mid_long)
