-- Memory after an access by a walk, while an event that only takes away isn't in the order.
use Rattle.shootdowns.proofs.Prelude.{◌≡◌, ℕ, ◌<◌, ◌^◌, Bool, true, false, refl, ap, sym, ◌∙◌, arith, Option, Some, None, is_some, ◌⊎◌, if◌then◌else◌, MatchBool, Ok, slice_get, option_map, option_and_then, slice_get_within, page_number, start_number, frame_number, is_lazy, some_value, frame_bytes, Free, Page, Read, walk_of, directory_at, table_at, page_word, page_frame, is_lazy_at, CellStands, own_frame, Slot, Cell, at_page, slot_at, way_of, WalkEndsBy, way_parts, from_then, owned, own_is, memory_of, State, View, IsWellFormed, next, IsCore, Ends, WalkGives, Event, walks_of, ways_of, tables_map, only_takes, subst, inl, inr}
use Rattle.page_words.specs.FiniteMap as map
use Rattle.page_words.specs.FiniteSet as set
use Rattle.kernel_calls.specs.declared.translations.Ended.TheVariants as end
use Rattle.shootdowns.proofs.Accesses.{frame_at, frame_is, word_mapped, way_at, table_of_word, lazy_zero}
use Rattle.shootdowns.proofs.Alike.{AlikeCell, Alike}
use Rattle.shootdowns.proofs.Filled.{filled_state, get_filled}
use Rattle.shootdowns.proofs.Taking.{mapped_word, cell_bytes, some_member}
use Rattle.shootdowns.proofs.Untouched.{was}

-- a slot on a frame of a page has that frame
framed : (v : View) → IsCore v → (r : Slot) (d : Cell) (f c : ℕ) → map.get v.state.spaces r ≡ Some d → frame_at v r ≡ f → slice_get v.roles f ≡ Some (Page c)
    → page_frame (memory_of v) r ≡ Some f
framed v core r d f c at same role = grind (arith, word_mapped, own_is, frame_is, lazy_zero, slice_get_within)

-- the cell of a mapped slot
pub stands_at : (v : View) → IsCore v → (slot : Slot) (c : Cell) (word : ℕ) → map.get v.state.spaces slot ≡ Some c → page_word (memory_of v) slot ≡ Some word
    → CellStands (memory_of v) slot word c
stands_at v core slot c word at is = grind arith

-- a word that is there after a step without end was there before it, and names the same frame
pub names_onward : (w x : View) → IsCore w → IsCore x → Ends end.Nothing w x → ((slot : Slot) → is_some (map.get x.state.spaces slot) ≡ true → is_some (map.get w.state.spaces slot) ≡ true)
    → (slot : Slot) (word : ℕ) → page_word (memory_of x) slot ≡ Some word → (old : ℕ) × (page_word (memory_of w) slot ≡ Some old) × (frame_number old ≡ frame_number word)
names_onward w x core later ends back slot word is =
    let cell = some_value (map.get w.state.spaces slot) (back slot (mapped_word x later slot word is)) in
    let old = word_mapped w core slot cell.0 cell.1 in
    let way = way_at w slot old.0 old.1 in
    let parts = way_parts (memory_of w) slot way.0 (frame_number old.0) way.1 in
    let user = (core.well_formed.cells slot cell.0 cell.1).user in
    let a : ℕ = start_number slot.page in
    let here : page_number a ≡ slot.page = omega arith in
    let high = user.1 in
    let small : a < 2 ^ 32 = omega (arith, high) in
    let there : map.get w.state.spaces (slot_at slot.pid a) ≡ Some cell.0 = ap (λ n. map.get w.state.spaces (at_page slot.pid n)) here ∙ cell.1 in
    let found = walk way.0 a small parts.live cell.0 there in
    let lead : way_of (memory_of w) slot ≡ Some (way.0, found.0) =
    sym (ap (λ n. way_of (memory_of w) (at_page slot.pid n)) here) ∙ (ways_of core).lead slot.pid way.0 a found.0 Read parts.live small found.1 in
    let one = way_parts (memory_of w) slot way.0 found.0 lead in
    let gives : WalkGives (memory_of x) slot.pid way.0 a Read found.0 = ends.translations slot.pid way.0 a found.0 Read small refl (parts.live, found.1) in
    let now : way_of (memory_of x) slot ≡ Some (way.0, found.0) =
    sym (ap (λ n. way_of (memory_of x) (at_page slot.pid n)) here) ∙ (ways_of later).lead slot.pid way.0 a found.0 Read gives.0 small gives.1 in
    let two = way_parts (memory_of x) slot way.0 found.0 now in
    let f : Some (frame_number word) ≡ Some found.0 = sym (ap (option_map frame_number) is) ∙ two.names in
    let g : frame_number old.0 ≡ frame_number word = cc in
    (old.0, old.1, g)
  where
    walk : (d a : ℕ) → a < 2 ^ 32 → directory_at (memory_of w) slot.pid ≡ Some d → (c : Cell) → map.get w.state.spaces (slot_at slot.pid a) ≡ Some c
        → (f : ℕ) × (walk_of w.bytes d a Read ≡ Ok f)
    walk d a small live c there = by (map.get w.state.spaces (slot_at slot.pid a)) there (walks_of core slot.pid d a Read live small)
      where
        by : (z : Option Cell) → z ≡ Some c → WalkEndsBy w.bytes d a Read (is_lazy_at (memory_of w) (slot_at slot.pid a)) z → (f : ℕ) × (walk_of w.bytes d a Read ≡ Ok f)
        by x0 k h = grind arith

-- a table that is linked after a step without end was linked before it
pub tables_onward : (w x : View) → IsCore w → IsCore x → Ends end.Nothing w x → ((slot : Slot) → is_some (map.get x.state.spaces slot) ≡ true → is_some (map.get w.state.spaces slot) ≡ true)
    → (p region t : ℕ) → table_at (memory_of x) p region ≡ Some t → table_at (memory_of w) p region ≡ Some t
tables_onward w x core later ends back p region t is =
    let maps = tables_map x later.image p region t is in
    let slot : Slot = at_page p maps.page in
    let mapped = back slot maps.mapped in
    let cell = some_value (map.get w.state.spaces slot) mapped in
    let old = word_mapped w core slot cell.0 cell.1 in
    let table = table_of_word w slot old.0 old.1 in
    let now = ends.tables slot table.0 refl mapped table.1 in
    let same : table.0 ≡ t = cc in
    sym (ap (table_at (memory_of w) p) maps.inside) ∙ table.1 ∙ ap Some same

module _ (v : View) (before : IsCore v) (s t : State) (first : Alike v.state s) (second : Alike v.state t) (well : IsWellFormed t) (e : Event) (takes : only_takes e.call ≡ true)
    (w x : View) (core : IsCore w) (later : IsCore x) (state_w : w.state ≡ next s e) (state_x : x.state ≡ next t e)
    (names : (slot : Slot) (word : ℕ) → page_word (memory_of w) slot ≡ Some word → frame_at v slot ≡ frame_number word)
    (names_x : (slot : Slot) (word : ℕ) → page_word (memory_of x) slot ≡ Some word → frame_at v slot ≡ frame_number word)
    (keys : (slot : Slot) → is_some (map.get w.state.spaces slot) ≡ is_some (map.get x.state.spaces slot))
    (pages : (f c : ℕ) → slice_get v.roles f ≡ Some (Page c) → (slice_get w.roles f ≡ Some Free) ⊎ ((d : ℕ) × (slice_get w.roles f ≡ Some (Page d))))
    (free : (f : ℕ) → slice_get w.roles f ≡ Some Free → frame_bytes x.bytes f ≡ frame_bytes w.bytes f)
    (full : s ≡ filled_state (frame_at v) w.bytes s)
    (beside : (slot : Slot) (c d : Cell) → map.get s.spaces slot ≡ Some c → map.get t.spaces slot ≡ Some d → is_some (map.get w.state.spaces slot) ≡ false
    → ((b : Slot) (k : Cell) → is_some (map.get w.state.spaces b) ≡ true → map.get s.spaces b ≡ Some k → set.contains k.holders slot ≡ false) → d.bytes ≡ c.bytes) where
  -- a slot that is still mapped has the bytes of its frame
  still : (slot : Slot) (d k : Cell) → map.get t.spaces slot ≡ Some d → map.get x.state.spaces slot ≡ Some k → d.bytes ≡ frame_bytes x.bytes (frame_at v slot)
  still slot d k at there =
      let old = was t e slot k takes (sym (ap (λ (z : State). map.get z.spaces slot) state_x) ∙ there) in
      let q : old.cell ≡ d = cc in
      let word = word_mapped x later slot k there in
      sym (ap (λ (z : Cell). z.bytes) q) ∙ sym old.bytes ∙ cell_bytes x later slot k word.0 there word.1 ∙ ap (frame_bytes x.bytes) (sym (names_x slot word.0 word.1))

  -- the bytes before
  full_at : (slot : Slot) (c : Cell) → map.get s.spaces slot ≡ Some c → c.bytes ≡ frame_bytes w.bytes (frame_at v slot)
  full_at slot c at = grind (arith, get_filled)

  -- a slot in whose group is one that is mapped still
  module _ (slot : Slot) (d : Cell) (at : map.get t.spaces slot ≡ Some d) (none : is_some (map.get x.state.spaces slot) ≡ false) where
    own : (c : Cell) × (map.get v.state.spaces slot ≡ Some c) × AlikeCell c d
    own = second.back slot d at

    was_here : (c : Cell) × (map.get s.spaces slot ≡ Some c) × AlikeCell own.0 c
    unfolding own
    was_here = first.cells slot own.0 own.1

    word_here : (word : ℕ) × (page_word (memory_of v) slot ≡ Some word)
    word_here = word_mapped v before slot own.0 own.1

    -- what a group of a slot that is mapped still says of this one
    grouped : (b : Slot) (k : Cell) → is_some (map.get w.state.spaces b) ≡ true → map.get s.spaces b ≡ Some k → set.contains k.holders slot ≡ true
        → (n : ℕ) × (page_word (memory_of v) b ≡ Some n) × (page_frame (memory_of v) slot ≡ Some (frame_number n))
    grouped b k mapped there inside =
        let old = first.back b k there in
        let n = word_mapped v before b old.0 old.1 in
        let stands = stands_at v before b old.0 n.0 old.1 n.1 in
        (n.0, n.1, by n.0 (is_lazy n.0) refl ((stands.group slot).0 (sym (ap (λ g. set.contains g slot) old.2.holders) ∙ inside)))
      where
        by : (n : ℕ) (z : Bool) → is_lazy n ≡ z → MatchBool (is_lazy n) (slot ≡ b) (page_frame (memory_of v) slot ≡ Some (frame_number n)) → page_frame (memory_of v) slot ≡ Some (frame_number n)
        by n x1 x2 h = grind arith

    gone_here : is_some (map.get w.state.spaces slot) ≡ false
    gone_here = keys slot ∙ none

    -- where no group says so, its bytes stand
    alone : ((b : Slot) (k : Cell) → is_some (map.get w.state.spaces b) ≡ true → map.get s.spaces b ≡ Some k → set.contains k.holders slot ≡ true → ⊥)
        → d.bytes ≡ frame_bytes w.bytes (frame_at v slot)
    unfolding was_here
    alone not = beside slot was_here.0 d was_here.1 at gone_here (λ b k mapped there. no (set.contains k.holders slot) (set.contains k.holders slot) refl (not b k mapped there)) ∙ full_at slot was_here.0 was_here.1
      where
        no : (z y : Bool) → y ≡ z → (y ≡ true → ⊥) → y ≡ false
        no x0 y is f = grind arith

    lazy_here : is_lazy word_here.0 ≡ true → d.bytes ≡ frame_bytes x.bytes (frame_at v slot)
    unfolding word_here
    lazy_here lazy =
        let zero : frame_at v slot ≡ 0 = frame_is v slot word_here.0 word_here.1 ∙ lazy_zero v before slot word_here.0 word_here.1 lazy in
        alone (λ b k mapped there inside. (
        let g = grouped b k mapped there inside in
        let k : None ≡ Some (frame_number g.0) = sym (ap (λ z. if z then None else Some (frame_number word_here.0)) lazy) ∙ sym (ap (option_and_then (own_frame 2)) word_here.1) ∙ g.2 in
        cc))
        ∙ ap (frame_bytes w.bytes) zero ∙ core.image.memory.sound.zero_frame ∙ sym later.image.memory.sound.zero_frame ∙ ap (frame_bytes x.bytes) (sym zero)

    real_here : is_lazy word_here.0 ≡ false → d.bytes ≡ frame_bytes x.bytes (frame_at v slot)
    unfolding word_here own
    real_here real = by (pages f role.0 role.1)
      where
        f : ℕ
        f = frame_number word_here.0

        role : (c : ℕ) × (slice_get v.roles (frame_number word_here.0) ≡ Some (Page c))
        role = before.image.memory.sound.pages slot (frame_number word_here.0) (ap (option_and_then (own_frame 2)) word_here.1 ∙ own_is word_here.0 real)

        -- no slot that is mapped still is on a frame that is free
        none_there : slice_get w.roles (frame_number word_here.0) ≡ Some Free → (b : Slot) (n : ℕ) → is_some (map.get w.state.spaces b) ≡ true → page_word (memory_of v) b ≡ Some n
            → page_frame (memory_of v) slot ≡ Some (frame_number n) → (c : ℕ) → slice_get v.roles (frame_number word_here.0) ≡ Some (Page c) → ⊥
        none_there is_free b n mapped word at c is_page =
            let cell = some_value (map.get w.state.spaces b) mapped in
            let now = word_mapped w core b cell.0 cell.1 in
            let k : Some (frame_number word_here.0) ≡ Some (frame_number n) = sym (ap (option_and_then (own_frame 2)) word_here.1 ∙ own_is word_here.0 real) ∙ at in
            let q : frame_number word_here.0 ≡ frame_number n = cc in
            let same : frame_number now.0 ≡ frame_number word_here.0 = sym (names b now.0 now.1) ∙ frame_is v b n word ∙ sym q in
            by now.0 now.1 same (is_lazy now.0) refl
          where
            by : (m : ℕ) → page_word (memory_of w) b ≡ Some m → frame_number m ≡ frame_number word_here.0 → (z : Bool) → is_lazy m ≡ z → ⊥
            by m there same true lazy = grind (arith, lazy_zero, slice_get_within)
            by m there same false full =
                let page = core.image.memory.sound.pages b (frame_number word_here.0) (ap (option_and_then (own_frame 2)) there ∙ own_is m full ∙ ap Some same) in
                cc

        by : ((slice_get w.roles (frame_number word_here.0) ≡ Some Free) ⊎ ((n : ℕ) × (slice_get w.roles (frame_number word_here.0) ≡ Some (Page n)))) → d.bytes ≡ frame_bytes x.bytes (frame_at v slot)
        by (inl is_free) =
            alone (λ b k mapped there inside. (let g = grouped b k mapped there inside in none_there is_free b g.0 mapped g.1 g.2 role.0 role.1))
            ∙ ap (frame_bytes w.bytes) (frame_is v slot word_here.0 word_here.1) ∙ sym (free (frame_number word_here.0) is_free)
            ∙ ap (frame_bytes x.bytes) (sym (frame_is v slot word_here.0 word_here.1))
        by (inr page) =
            let counted = core.image.memory.sound.counts (frame_number word_here.0) page.0 page.1 in
            let up = counted.0 in
            let count = counted.1.count in
            let r = some_member counted.1.members (omega (arith, up, count)) in
            let on_w = (counted.1.are r.0).0 r.1 in
            let word = from_then (own_frame 2) (page_word (memory_of w) r.0) (frame_number word_here.0) on_w in
            let k = some_value (map.get x.state.spaces r.0) (sym (keys r.0) ∙ mapped_word w core r.0 word.0 word.1) in
            let old = was t e r.0 k.0 takes (sym (ap (λ (z : State). map.get z.spaces r.0) state_x) ∙ k.1) in
            let frame : frame_at v r.0 ≡ frame_number word_here.0 = names r.0 word.0 word.1 ∙ (owned word.0 (frame_number word_here.0) word.2).1 in
            let first_cell = second.back r.0 old.cell old.there in
            let on_v = framed v before r.0 first_cell.0 (frame_number word_here.0) role.0 first_cell.1 frame role.1 in
            let stands = stands_at v before slot own.0 word_here.0 own.1 word_here.1 in
            let inside : set.contains own.0.holders r.0 ≡ true =
            (stands.group r.0).1 (subst (λ z. MatchBool z (r.0 ≡ slot) (page_frame (memory_of v) r.0 ≡ Some (frame_number word_here.0))) (sym real) on_v) in
            let other = (well.cells slot d at).alike r.0 (ap (λ g. set.contains g r.0) own.2.holders ∙ inside) in
            let q : other.0 ≡ old.cell = cc in
            sym other.3 ∙ ap (λ (z : Cell). z.bytes) q ∙ still r.0 old.cell k.0 old.there k.1
            ∙ ap (frame_bytes x.bytes) (frame ∙ sym (frame_is v slot word_here.0 word_here.1))

  pub full_onward : (slot : Slot) (d : Cell) → map.get t.spaces slot ≡ Some d → d.bytes ≡ frame_bytes x.bytes (frame_at v slot)
  full_onward slot d at = by (map.get x.state.spaces slot) refl
    where
      by : (z : Option Cell) → map.get x.state.spaces slot ≡ z → d.bytes ≡ frame_bytes x.bytes (frame_at v slot)
      by (Some k) there = still slot d k at there
      by None none = which (is_lazy (word_here slot d at (ap is_some none)).0) refl
        where
          which : (b : Bool) → is_lazy (word_here slot d at (ap is_some none)).0 ≡ b → d.bytes ≡ frame_bytes x.bytes (frame_at v slot)
          which x0 x1 = grind (arith, lazy_here, real_here)
