-- Two slots of one group lead to one frame.
use Rattle.kernel_acts.proofs.Prelude.{◌≡◌, ◌<◌, ◌≤◌, ◌+◌, ◌*◌, ◌^◌, ℕ, [], length, Err, inl, inr, arith, Bool, true, false, not, ◌&&◌, ◌==◌, refl, sym, ap, subst, ◌∙◌, is_some, Option, Some, None, unwrap_or, Ok, ◌↔◌, IsTrue, MatchBool, ◌⊎◌, option_map, option_and_then, cases_lt, page_number, start_number, IsUserPage, frame_bytes, frame_past, walk_of, Read, is_lazy_at, directory_at, page_word, page_frame, CellStands, Slot, slot_order, Cell, is_slot, at_page, slot_at, way_of, IsCore, WalkEndsBy, way_parts, owned, own_is, memory_of, State, is_mapped, View, IsWellFormed, same_itself, shares, Leads, is_beside, eqb-true, eq-eqb, walks_of, ways_of, way_mapped}
use Rattle.table_walk.specs.declared.WalkEnd.{WalkEnd}
use Rattle.page_words.specs.FiniteMap as map
use Rattle.page_words.specs.FiniteSet as set
use Rattle.page_words.specs.Words.{frame_number, is_lazy}
use Rattle.address_space.specs.ImageWords.{own_frame}
use Rattle.address_space.proofs.standing.Restored.{from_map}

-- whom a slot shares its page with is mapped
pub shares_there : (s : State) (slot other : Slot) → IsWellFormed s → shares s slot other ≡ true → is_mapped s other ≡ true
shares_there s slot other w h = by (map.get s.spaces slot) refl h
  where
    by : (x : Option Cell) → map.get s.spaces slot ≡ x → unwrap_or (option_map (λ (c : Cell). set.contains c.holders other) x) false ≡ true → is_mapped s other ≡ true
    by None is k = cc
    by (Some c) is k = ap is_some ((w.cells slot c is).alike other k).1

pub beside_there : (s : State) (slot other : Slot) → IsWellFormed s → is_mapped s other ≡ false → is_beside s slot other ≡ false
beside_there s slot other w none = grind (arith, shares_there)

module _ (v : View) (core : IsCore v) where
  -- the word and the cell of a slot with a way
  pub record Led (slot : Slot) (frame : ℕ) : Type 0 where
    pub word : ℕ
    pub there : page_word (memory_of v) slot ≡ Some word
    pub names : frame_number word ≡ frame
    pub lazy : is_lazy word ≡ (frame == 0)
    pub cell : Cell
    pub mapped : map.get v.state.spaces slot ≡ Some cell
    pub agrees : CellStands (memory_of v) slot word cell

  pub led : (slot : Slot) (d f : ℕ) → way_of (memory_of v) slot ≡ Some (d, f) → Led slot f
  led slot d f way =
      let a = from_map frame_number (page_word (memory_of v) slot) f (way_parts (memory_of v) slot d f way).names in
      let c = way_mapped v core slot d f way in record {
        word = a.0;
        there = a.1;
        names = a.2;
        lazy = sym (ap (λ (x : Option ℕ). unwrap_or (option_map is_lazy x) false) a.1) ∙ (ways_of core).lazy slot d f way;
        cell = c.0;
        mapped = c.1;
        agrees = grind arith;
      }

  -- they share the page exactly where they lead to one frame other than frame 0
  shares_ways : (slot other : Slot) (d f e g : ℕ) → is_slot slot.pid slot.page other ≡ false
      → way_of (memory_of v) slot ≡ Some (d, f) → way_of (memory_of v) other ≡ Some (e, g)
      → shares v.state slot other ≡ (not (f == 0) && (f == g))
  shares_ways slot other d f e g apart way way' =
      ap (λ (x : Option Cell). unwrap_or (option_map (λ (c : Cell). set.contains c.holders other) x) false) a.mapped ∙ by (f == 0) refl
    where
      a : Led slot f
      a = led slot d f way

      b : Led other g
      b = led other e g way'

      alone : is_lazy a.word ≡ true → (h : Bool) → set.contains a.cell.holders other ≡ h → h ≡ false
      alone lazy false is = refl
      alone lazy true is = absurd (
          let same : other ≡ slot = subst (λ b. MatchBool b (other ≡ slot) (page_frame (memory_of v) other ≡ Some (frame_number a.word))) lazy ((a.agrees.group other).0 is) in
          let t : is_slot slot.pid slot.page other ≡ true = ap (is_slot slot.pid slot.page) same ∙ itself slot in
          cc)
        where
          itself : (x : Slot) → is_slot x.pid x.page x ≡ true
          itself x = same_itself slot_order x

      group : is_lazy a.word ≡ false → IsTrue (set.contains a.cell.holders other) ↔ (page_frame (memory_of v) other ≡ Some (frame_number a.word))
      group real = subst (λ b. IsTrue (set.contains a.cell.holders other) ↔ MatchBool b (other ≡ slot) (page_frame (memory_of v) other ≡ Some (frame_number a.word))) real (a.agrees.group other)

      framed : page_frame (memory_of v) other ≡ own_frame 2 b.word
      framed = ap (option_and_then (own_frame 2)) b.there

      real_by : (f == 0) ≡ false → (k h : Bool) → (f == g) ≡ k → set.contains a.cell.holders other ≡ h → h ≡ k
      real_by real true h one is =
          let same : f ≡ g = eqb-true f g one in
          let real' : is_lazy b.word ≡ false = b.lazy ∙ ap (λ n. n == 0) (sym same) ∙ real in
          sym is ∙ (group (a.lazy ∙ real)).1 (framed ∙ own_is b.word real' ∙ ap (λ n. Some n) (b.names ∙ sym same ∙ sym a.names))
      real_by real false false one is = refl
      real_by real false true one is = absurd (
          let on = (owned b.word (frame_number a.word) (sym framed ∙ (group (a.lazy ∙ real)).0 is)).1 in
          let k : true ≡ false = sym (eq-eqb f g (sym a.names ∙ sym on ∙ b.names)) ∙ one in
          cc)

      by : (z : Bool) → (f == 0) ≡ z → set.contains a.cell.holders other ≡ (not (f == 0) && (f == g))
      by true zero = alone (a.lazy ∙ zero) (set.contains a.cell.holders other) refl ∙ sym (ap (λ b. not b && (f == g)) zero)
      by false real = real_by real (f == g) (set.contains a.cell.holders other) refl refl ∙ sym (ap (λ b. not b && (f == g)) real)

  pub beside_ways : (slot other : Slot) (d f e g : ℕ) → is_slot slot.pid slot.page other ≡ false
      → way_of (memory_of v) slot ≡ Some (d, f) → way_of (memory_of v) other ≡ Some (e, g)
      → is_beside v.state slot other ≡ (not (f == 0) && (f == g))
  beside_ways slot other d f e g apart way way' =
      ap (λ b. not b && shares v.state slot other) apart ∙ shares_ways slot other d f e g apart way way'

  -- ---- By the walk of a page

  -- the walk of a page finds the frame to which the page leads
  pub page_leads : (p page d f a : ℕ) → IsUserPage page → a ≡ start_number page → directory_at (memory_of v) p ≡ Some d
      → walk_of v.bytes d a Read ≡ Ok f → Leads v p page f
  page_leads p page d f a user is live walk =
      let below = user.1 in
      let small : a < 2 ^ 32 = omega (arith, is, below) in
      by (map.get v.state.spaces (slot_at p a)) (ap (λ n. map.get v.state.spaces (at_page p n)) same) (walks_of core p d a Read live small)
      (d, sym (ap (λ n. way_of (memory_of v) (at_page p n)) same) ∙ (ways_of core).lead p d a f Read live small walk)
    where
      same : page_number a ≡ page
      same = omega (arith, is)

      held : (c : Cell) → map.get v.state.spaces (at_page p page) ≡ Some c → frame_bytes v.bytes f ≡ c.bytes → (f < length v.roles) ⊎ (length v.roles ≤ f) → 4096 * f + 4096 ≤ length v.bytes
      held c at bytes (inl l) = let size = core.image.sound.memory.size in omega (arith, l, size)
      held c at bytes (inr past) = absurd (
          let size = core.image.sound.memory.size in
          let none : frame_bytes v.bytes f ≡ [] = frame_past v.bytes f (omega (arith, size, past)) in
          let long = (core.well_formed.cells (at_page p page) c at).long in
          let zero : ◌≡◌ {A = ℕ} 0 (length c.bytes) = ap length (sym none ∙ bytes) in
          omega (arith, long, zero))

      by : (x : Option Cell) → x ≡ map.get v.state.spaces (at_page p page) → WalkEndsBy v.bytes d a Read (is_lazy_at (memory_of v) (slot_at p a)) x
          → (e : ℕ) × (way_of (memory_of v) (at_page p page) ≡ Some (e, f)) → Leads v p page f
      by x e h way = grind (arith, same, held, cases_lt)

  -- and where it finds none, the page is not mapped
  pub page_bare : (p page d a : ℕ) (e : WalkEnd) → IsUserPage page → a ≡ start_number page → directory_at (memory_of v) p ≡ Some d
      → walk_of v.bytes d a Read ≡ Err e → is_mapped v.state (at_page p page) ≡ false
  page_bare p page d a e user is live walk =
      let below = user.1 in
      let small : a < 2 ^ 32 = omega (arith, is, below) in
      let same : page_number a ≡ page = omega (arith, is) in
      sym (ap (λ n. is_mapped v.state (at_page p n)) same) ∙ by (map.get v.state.spaces (slot_at p a)) (walks_of core p d a Read live small)
    where
      by : (x : Option Cell) → WalkEndsBy v.bytes d a Read (is_lazy_at (memory_of v) (slot_at p a)) x → is_some x ≡ false
      by x h = grind arith

-- what is not mapped is beside nothing
pub beside_none : (s : State) (own : Slot) (holder from at limit : ℕ) → IsWellFormed s
    → ((other : ℕ) → from ≤ other → other < at → is_beside s own (at_page holder other) ≡ false)
    → ((other : ℕ) → at ≤ other → other < limit → is_mapped s (at_page holder other) ≡ false)
    → (other : ℕ) → from ≤ other → other < limit → is_beside s own (at_page holder other) ≡ false
beside_none s own holder from at limit w before bare other up down = elim (cases_lt other at) [
  | inl below ↦ before other up below
  | inr above ↦ beside_there s own (at_page holder other) w (bare other above down)
]

-- the same, with the next page
pub beside_up : (s : State) (own : Slot) (holder from at found : ℕ) → IsWellFormed s
    → ((other : ℕ) → from ≤ other → other < at → is_beside s own (at_page holder other) ≡ false)
    → ((other : ℕ) → at ≤ other → other < found → is_mapped s (at_page holder other) ≡ false)
    → is_beside s own (at_page holder found) ≡ false
    → (other : ℕ) → from ≤ other → other < found + 1 → is_beside s own (at_page holder other) ≡ false
beside_up s own holder from at found w before bare none other up down = elim (cases_lt other found) [
  | inl below ↦ beside_none s own holder from at found w before bare other up below
  | inr past ↦ grind arith
]
