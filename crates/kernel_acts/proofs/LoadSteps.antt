-- The loop that loads page by page: one page more.
use Rattle.kernel_acts.proofs.Prelude.{◌≡◌, ◌≢◌, ℕ, ◌+◌, ◌-◌, ◌<◌, ◌≤◌, Bool, false, length, take, drop, List, ◌++◌, refl, sym, ap, subst, ◌∙◌, Some, inl, inr, arith, length-drop, slice_index, cases_lt, cases_eq, length-take-le, get_or-take, get_or-drop, page_number, offset_number, page_stays, Slot, slot_order, at_page, slot_at, write_at, IsCore, byte_at, State, View, IsWellFormed, shares, EndsMarks, installed, Installs, Loads, no_page, page_more, IsLastThere, group_at}
use Rattle.std.proofs.Math.Seq.{take-add}
use Rattle.kernel_acts.proofs.LoadedBytes.{written_inside, written_outside, Outside, bytes_in, right_in, shares_group, page_long, alike, installed_groups, installed_rights, installed_right, own_written, beside_written}
use Rattle.page_words.specs.FiniteSet as set
use Rattle.kernel_calls.specs.declared.translations.Ended.TheVariants as end

-- an install of one page
pub record Installed (u w : View) (p at : ℕ) (part : List ℕ) (write : Bool) : Type 0 where
  pub run : Installs u.state p at part write w.state
  pub state : w.state ≡ installed u.state p at part write
  pub marks : EndsMarks (end.Page p (page_number at)) u w
  pub core : IsCore w

-- so many bytes from a on were loaded, from v to w
pub record Loading (v w : View) (p a : ℕ) (write : Bool) (bytes : List ℕ) (done : ℕ) : Type 0 where
  pub loads : Loads p a write v (take done bytes) w
  pub groups : (q : Slot) → group_at w.state.spaces q ≡ group_at v.state.spaces q
  pub rights : (i : ℕ) → i < done → right_in w.state.spaces (slot_at p (a + i)) ≡ Some write
  pub bytes_there : (i : ℕ) → i < done → IsLastThere v.state p a done i → byte_at w.state.spaces p (a + i) ≡ slice_index bytes i

pub loading_none : (v : View) (p a : ℕ) (write : Bool) (bytes : List ℕ) → Loading v v p a write bytes 0
loading_none v p a write bytes = record {
  loads = no_page;
  groups = λ q. refl;
  rights = λ i l. absurd (omega (arith, l));
  bytes_there = λ i l last. absurd (omega (arith, l));
}

slot_apart : (p x y : ℕ) → x ≢ y → at_page p x ≢ at_page p y
slot_apart p x y apart e = apart (ap (λ (q : Slot). q.page) e)

-- the bytes and the rights after one install
module _ (u w : View) (p at : ℕ) (part : List ℕ) (write : Bool) (well : IsWellFormed u.state) (within : offset_number at + length part ≤ 4096)
    (is : Installed u w p at part write) where
  abbrev slot : Slot
  slot = slot_at p at

  abbrev old : List ℕ
  old = bytes_in u.state.spaces slot

  fits : offset_number at ≤ length old
  fits = let long = page_long u.state slot well in omega (arith, long, within)

  own_page : bytes_in w.state.spaces slot ≡ write_at old (offset_number at) part
  own_page = ap (λ (t : State). bytes_in t.spaces slot) is.state ∙ own_written u.state p at part write

  -- a byte that the part brings
  pub new_byte : (k : ℕ) → k < length part → byte_at w.state.spaces p (at + k) ≡ slice_index part k
  new_byte k l = grind (arith, page_stays, bytes_in, own_page, written_inside, fits)

  -- one at another place
  pub outside_byte : (b : ℕ) → Outside (offset_number at) (length part) (offset_number b) → byte_at w.state.spaces p b ≡ byte_at u.state.spaces p b
  outside_byte b out = elim (cases_eq (page_number b) (page_number at)) [
    | inl here ↦ grind (arith, bytes_in, own_page, written_outside, fits)
    | inr other ↦ grind (arith, slot_apart, bytes_in, beside_written, written_outside, fits, alike)
  ]

  -- one of a page that is in another group
  pub apart_byte : (b : ℕ) → page_number b ≢ page_number at → shares u.state slot (slot_at p b) ≡ false → byte_at w.state.spaces p b ≡ byte_at u.state.spaces p b
  apart_byte b other none = grind (arith, slot_apart, bytes_in, beside_written, shares_group)

  -- the right of the page, and of any other
  pub new_right : (b : ℕ) → page_number b ≡ page_number at → right_in w.state.spaces (slot_at p b) ≡ Some write
  new_right b here = grind (arith, right_in, installed_right)

  pub old_right : (b : ℕ) → page_number b ≢ page_number at → right_in w.state.spaces (slot_at p b) ≡ right_in u.state.spaces (slot_at p b)
  old_right b other = grind (arith, right_in, installed_rights, slot_apart)

-- ---- One page more

module _ (v u w : View) (p a at done c k : ℕ) (write : Bool) (bytes part : List ℕ) (l : Loading v u p a write bytes done) (place : at ≡ a + done)
    (some : 0 < c) (most : done + c ≤ length bytes) (within : offset_number at + c ≤ 4096) (size : k ≡ c) (cut : part ≡ take k (drop done bytes))
    (well : IsWellFormed u.state) (is : Installed u w p at part write) where
  long : length part ≡ c
  long = grind (arith, length-drop, length-take-le)

  inside : offset_number at + length part ≤ 4096
  inside = let n = long in omega (arith, n, within)

  part_at : (i : ℕ) → i < c → slice_index part i ≡ slice_index bytes (done + i)
  part_at i below = ap (λ xs. slice_index xs i) cut ∙ get_or-take k (drop done bytes) i 0 (omega (arith, below, size)) ∙ get_or-drop done bytes i 0

  taken : take done bytes ++ part ≡ take (done + c) bytes
  taken = ap (λ xs. take done bytes ++ xs) (cut ∙ ap (λ n. take n (drop done bytes)) size) ∙ sym (take-add done c bytes)

  before : a + length (take done bytes) ≡ at
  before = let n = length-take-le done bytes (omega (arith, most)) in omega (arith, n, place)

  loads_on : Loads p a write v (take (done + c) bytes) w
  loads_on =
      let n = long in
      let b = before in
      subst (λ xs. Loads p a write v xs w) taken
      (page_more part l.loads (omega (arith, n, some)) (subst (λ x. offset_number x + length part ≤ 4096) (sym b) inside)
      (subst (λ x. Installs u.state p x part write w.state) (sym b) is.run) (is.state ∙ ap (λ x. installed u.state p x part write) (sym b))
      (subst (λ x. EndsMarks (end.Page p (page_number x)) u w) (sym b) is.marks) is.core)

  groups_on : (q : Slot) → group_at w.state.spaces q ≡ group_at v.state.spaces q
  groups_on q = ap (λ (t : State). group_at t.spaces q) is.state ∙ installed_groups u.state p at part write q ∙ l.groups q

  rights_on : (i : ℕ) → i < done + c → right_in w.state.spaces (slot_at p (a + i)) ≡ Some write
  rights_on i below = grind (arith, cases_eq, new_right, inside, cases_lt, old_right)

  -- a byte that was loaded before
  kept_byte : (i : ℕ) → i < done → IsLastThere v.state p a (done + c) i → byte_at w.state.spaces p (a + i) ≡ byte_at u.state.spaces p (a + i)
  kept_byte i early last = elim (cases_lt (offset_number (a + i)) (offset_number at)) [
    | inl below ↦ outside_byte u w p at part write well inside is (a + i) (inl below)
    | inr above ↦ elim (cases_lt (offset_number (a + i)) (offset_number at + c)) [
      | inr past ↦ outside_byte u w p at part write well inside is (a + i) (inr (let n = long in omega (arith, n, past)))
      | inl under ↦
          let d : ℕ = offset_number (a + i) - offset_number at in
          let j : ℕ = done + d in
          let same : offset_number (a + j) ≡ offset_number (a + i) = omega (arith, place, above, under, within) in
          let page : page_number (a + j) ≡ page_number at = omega (arith, place, above, under, within) in
          let other : page_number (a + i) ≢ page_number at = λ e. absurd (omega (arith, e, page, same, early)) in
          let none = last j (omega (arith, early)) (omega (arith, above, under)) same in
          let apart = slot_apart p (page_number (a + i)) (page_number at) other in
          apart_byte u w p at part write well inside is (a + i) other
          (shares_group u.state (slot_at p at) (slot_at p (a + i)) apart ∙ ap (λ (g : set.Set slot_order). set.contains g (slot_at p (a + i))) (l.groups (slot_at p at))
          ∙ sym (shares_group v.state (slot_at p at) (slot_at p (a + i)) apart)
          ∙ ap (λ n. shares v.state (at_page p n) (slot_at p (a + i))) (sym page) ∙ none)
    ]
  ]

  bytes_on : (i : ℕ) → i < done + c → IsLastThere v.state p a (done + c) i → byte_at w.state.spaces p (a + i) ≡ slice_index bytes i
  bytes_on i below last = elim (cases_lt i done) [
    | inl early ↦ kept_byte i early last ∙ l.bytes_there i early (λ j up down. last j up (omega (arith, down)))
    | inr late ↦
        let d : ℕ = i - done in
        let few : d < c = omega (arith, late, below) in
        let there : a + i ≡ at + d = omega (arith, place, late) in
        let index : done + d ≡ i = omega (arith, late) in
        ap (byte_at w.state.spaces p) there ∙ new_byte u w p at part write well inside is d (let n = long in omega (arith, n, few)) ∙ part_at d few ∙ ap (slice_index bytes) index
  ]

  pub loading_on : Loading v w p a write bytes (done + c)
  loading_on = record { loads = loads_on; groups = groups_on; rights = rights_on; bytes_there = bytes_on }
