-- Events that only take away: which slots stay, and on which frames.
use Rattle.shootdowns.proofs.Prelude.{◌≡◌, ℕ, Bool, true, false, cond, List, [], ◌∷◌, length, refl, ap, sym, ◌∙◌, arith, inl, inr, Option, Some, None, is_some, unwrap_or, ◌<◌, ◌⊎◌, slice_get, slice_get_within, option_map, option_and_then, same, Set, some_value, same_itself, same_map, same_or_not, get-insert, frame_number, is_lazy, frame_bytes, Free, Page, directory_at, table_at, page_word, page_frame, own_frame, Slot, slot_order, Cell, Spaces, at_page, cell_or_fresh, fresh, with_bytes, without, protected, is_slot, is_of, FramesStay, LooseStay, way_parts, owned, own_is, from_map, from_then, memory_of, State, View, gone_of_call, gone_by, gives_back, answer, answer_of, after, next, completes, IsCore, Call, Event, get_gone, next-stays, next-goes, tables_map, kept-next, only_takes}
use Rattle.std.specs.FinMap.Entries.{find}
use Rattle.page_words.specs.FiniteMap as map
use Rattle.page_words.specs.FiniteSet as set
use Rattle.kernel_calls.specs.declared.calls.Call.TheVariants as call
use Rattle.shootdowns.proofs.Accesses.{frame_at, frame_is, word_mapped, way_at, table_of_word, lazy_zero}
use Rattle.shootdowns.proofs.Filled.{fill, filled_state, get_filled, protects_mapped, completed}

-- a slot that is mapped afterwards was mapped before, and isn't gone
abbrev Left : State → State → (Slot → ℕ → Bool) → Type 0
Left s t gone = (slot : Slot) → is_some (map.get t.spaces slot) ≡ true → (is_some (map.get s.spaces slot) ≡ true) × ((f : ℕ) → gone slot f ≡ false)

pub left_gone : (S : Spaces) (gone : Slot → Bool) (slot : Slot) → is_some (map.get (without S gone) slot) ≡ true
    → (is_some (map.get S slot) ≡ true) × (gone slot ≡ false)
left_gone S gone slot h = grind (arith, is_some, get_gone)

pub left_right : (S : Spaces) (at slot : Slot) (w : Bool) → is_some (map.get S at) ≡ true → is_some (map.get (protected S at w) slot) ≡ true
    → is_some (map.get S slot) ≡ true
left_right S at slot w there h = grind (arith, same_or_not, is_some, get-insert)

left_call : (s : State) (p : ℕ) (c : Call) → only_takes c ≡ true → (c ≡ c → completes (answer_of s p c) ≡ true) → Left s (after s p c) (gone_of_call p c)
left_call s p (call.Unmap page) h done slot there = let k = left_gone s.spaces (is_slot p page) slot there in (k.0, λ f. k.1)
left_call s p (call.Protect page false) h done slot there =
    (left_right s.spaces (at_page p page) slot false (protects_mapped s p page (done refl)) there, λ f. refl)
left_call s p (call.Protect page true) h done slot there = cc
left_call s p call.Exit h done slot there = let k = left_gone s.spaces (is_of p) slot there in (k.0, λ f. k.1)
left_call s p _ h done slot there = cc

pub left_next : (s : State) (e : Event) → only_takes e.call ≡ true → Left s (next s e) (gone_by s e)
left_next s e h = grind (arith, is_some, next-stays, left_call, completed, next-goes)

-- a slot that has a word is mapped
pub mapped_word : (v : View) → IsCore v → (slot : Slot) (word : ℕ) → page_word (memory_of v) slot ≡ Some word → is_some (map.get v.state.spaces slot) ≡ true
mapped_word v core slot word is = grind (arith, is_some)

-- each frame of a page keeps its bytes, and is a page's or free
pub record PagesStand (v w : View) : Type 0 where
  pub each : (f c : ℕ) → slice_get v.roles f ≡ Some (Page c) → (frame_bytes w.bytes f ≡ frame_bytes v.bytes f)
      × ((slice_get w.roles f ≡ Some Free) ⊎ ((d : ℕ) × (slice_get w.roles f ≡ Some (Page d))))

by_loose : (v w : View) → LooseStay (memory_of v) (memory_of w) → PagesStand v w
by_loose v w loose = record { each = λ f c is. loose.each f (inr (c, is)) }

-- the bytes of a cell, by its word
pub cell_bytes : (v : View) → IsCore v → (slot : Slot) (c : Cell) (word : ℕ) → map.get v.state.spaces slot ≡ Some c → page_word (memory_of v) slot ≡ Some word
    → c.bytes ≡ frame_bytes v.bytes (frame_number word)
cell_bytes v core slot c word at is = grind arith

-- a Protect leaves all bytes, and accessed
kept_protected : (s : State) (p page : ℕ) (write : Bool) (slot : Slot) (c : Cell) → map.get s.spaces slot ≡ Some c
    → (d : Cell) × (map.get (protected s.spaces (at_page p page) write) slot ≡ Some d) × (d.bytes ≡ c.bytes) × (d.accessed ≡ c.accessed)
kept_protected s p page write slot c at = by (same_or_not slot_order slot (at_page p page))
  where
    new : Cell
    new = record (cell_or_fresh s.spaces (at_page p page)) { write = write }

    get : (b : Bool) → same slot_order slot (at_page p page) ≡ b → map.get (protected s.spaces (at_page p page) write) slot ≡ cond b (Some new) (map.get s.spaces slot)
    get b is = get-insert s.spaces (at_page p page) new slot ∙ ap (λ b. cond b (Some new) (map.get s.spaces slot)) is

    by : ((slot ≡ at_page p page) × (same slot_order slot (at_page p page) ≡ true)) ⊎ (same slot_order slot (at_page p page) ≡ false)
        → (d : Cell) × (map.get (protected s.spaces (at_page p page) write) slot ≡ Some d) × (d.bytes ≡ c.bytes) × (d.accessed ≡ c.accessed)
    by (inl is) =
        let own : cell_or_fresh s.spaces (at_page p page) ≡ c = ap (λ (z : Option Cell). unwrap_or z (fresh (at_page p page) true)) (sym (ap (map.get s.spaces) is.0) ∙ at) in
        (new, get true is.1, ap (λ (z : Cell). z.bytes) own, ap (λ (z : Cell). z.accessed) own)
    by (inr other) = (c, get false other ∙ at, refl, refl)

pub kept_next : (s : State) (e : Event) (page : ℕ) (write : Bool) → e.call ≡ call.Protect page write → (slot : Slot) (c : Cell) → map.get s.spaces slot ≡ Some c
    → (d : Cell) × (map.get (next s e).spaces slot ≡ Some d) × (d.bytes ≡ c.bytes) × (d.accessed ≡ c.accessed)
kept_next s e page write is slot c at = by (completes (answer s e)) refl
  where
    by : (b : Bool) → completes (answer s e) ≡ b → (d : Cell) × (map.get (next s e).spaces slot ≡ Some d) × (d.bytes ≡ c.bytes) × (d.accessed ≡ c.accessed)
    by false stops = (c, ap (λ (t : State). map.get t.spaces slot) (next-stays s e stops) ∙ at, refl, refl)
    by true goes =
        let d = kept_protected s e.pid page write slot c at in
        (d.0, ap (λ (t : State). map.get t.spaces slot) (next-goes s e goes ∙ ap (after s e.pid) is) ∙ d.1, d.2, d.3)

none_gone : (s : State) (e : Event) (page : ℕ) (write : Bool) → e.call ≡ call.Protect page write → (slot : Slot) (f : ℕ) → gone_by s e slot f ≡ false
none_gone s e page write is slot f = grind arith

-- a set that isn't empty has a member
pub some_member : (s : Set slot_order) → 0 < set.len s → (slot : Slot) × (set.contains s slot ≡ true)
some_member s up = go s.entries up
  where
    go : (es : List (Slot × Unit {0})) → 0 < length es → (slot : Slot) × (is_some (find slot_order.cmp slot es) ≡ true)
    go [] h = absurd (omega (arith, h))
    go (x ∷ es) h = (x.0, ap (λ b. is_some (cond b (Some x.1) (find slot_order.cmp x.0 es))) (same_itself slot_order x.0))

by_protect : (v w : View) → IsCore v → IsCore w → (e : Event) → w.state ≡ next v.state e → FramesStay (gone_by v.state e) (memory_of v) (memory_of w)
    → (page : ℕ) (write : Bool) → e.call ≡ call.Protect page write → PagesStand v w
by_protect v w before later e state stay page write is = record {
  each = λ f c role.
      let counted = before.image.memory.sound.counts f c role in
      let up = counted.0 in
      let count = counted.1.count in
      let member = some_member counted.1.members (omega (arith, up, count)) in
      stands f c role member.0 ((counted.1.are member.0).0 member.1);
}
  where
    stands : (f c : ℕ) → slice_get v.roles f ≡ Some (Page c) → (slot : Slot) → page_frame (memory_of v) slot ≡ Some f
        → (frame_bytes w.bytes f ≡ frame_bytes v.bytes f) × ((slice_get w.roles f ≡ Some Free) ⊎ ((d : ℕ) × (slice_get w.roles f ≡ Some (Page d))))
    stands f c role slot framed =
        let old = from_then (own_frame 2) (page_word (memory_of v) slot) f framed in
        let own = owned old.0 f old.2 in
        let way = way_at v slot old.0 old.1 in
        let now = way_parts (memory_of w) slot way.0 (frame_number old.0) (stay.ways slot way.0 (frame_number old.0) (none_gone v.state e page write is slot (frame_number old.0)) way.1) in
        let new = from_map frame_number (page_word (memory_of w) slot) (frame_number old.0) now.names in
        let cell = some_value (map.get v.state.spaces slot) (mapped_word v before slot old.0 old.1) in
        let left = kept_next v.state e page write is slot cell.0 cell.1 in
        let there : map.get w.state.spaces slot ≡ Some left.0 = ap (λ (t : State). map.get t.spaces slot) state ∙ left.1 in
        let same : frame_number new.0 ≡ f = new.2 ∙ own.1 in (
          ap (frame_bytes w.bytes) (sym same) ∙ sym (cell_bytes w later slot left.0 new.0 there new.1) ∙ left.2
              ∙ cell_bytes v before slot cell.0 old.0 cell.1 old.1 ∙ ap (frame_bytes v.bytes) own.1,
          inr (later.image.memory.sound.pages slot f (ap (option_and_then (own_frame 2)) new.1 ∙ own_is new.0 (real new.0 new.1 (is_lazy new.0) refl same) ∙ ap Some same)),
        )
      where
        real : (word : ℕ) → page_word (memory_of w) slot ≡ Some word → (b : Bool) → is_lazy word ≡ b → frame_number word ≡ f → is_lazy word ≡ false
        real word at x2 k same = grind (arith, lazy_zero, slice_get_within)

pub pages_stand : (v w : View) → IsCore v → IsCore w → (e : Event) → w.state ≡ next v.state e → FramesStay (gone_by v.state e) (memory_of v) (memory_of w)
    → (gives_back e.call ≡ true → LooseStay (memory_of v) (memory_of w)) → only_takes e.call ≡ true → PagesStand v w
pages_stand v w before later e state stay loose takes = by e.call refl takes loose
  where
    by : (c : Call) → e.call ≡ c → only_takes c ≡ true → (gives_back c ≡ true → LooseStay (memory_of v) (memory_of w)) → PagesStand v w
    by (call.Unmap page) is h l = by_loose v w (l refl)
    by call.Exit is h l = by_loose v w (l refl)
    by (call.Protect page write) is h l = by_protect v w before later e state stay page write is
    by _ is h l = cc

module _ (v w : View) (before : IsCore v) (later : IsCore w) (e : Event) (takes : only_takes e.call ≡ true) (state : w.state ≡ next v.state e)
    (stay : FramesStay (gone_by v.state e) (memory_of v) (memory_of w)) (pages : PagesStand v w) where
  -- a word afterwards names the frame that it named before
  pub names_stay : (slot : Slot) (word : ℕ) → page_word (memory_of w) slot ≡ Some word → frame_at v slot ≡ frame_number word
  names_stay slot word is =
      let left = left_next v.state e takes slot (sym (ap (λ (t : State). is_some (map.get t.spaces slot)) state) ∙ mapped_word w later slot word is) in
      let cell = some_value (map.get v.state.spaces slot) left.0 in
      let old = word_mapped v before slot cell.0 cell.1 in
      let way = way_at v slot old.0 old.1 in
      let now = way_parts (memory_of w) slot way.0 (frame_number old.0) (stay.ways slot way.0 (frame_number old.0) (left.1 (frame_number old.0)) way.1) in
      let same : frame_number word ≡ frame_number old.0 = cc in
      frame_is v slot old.0 old.1 ∙ sym same

  -- its process has the directory that it had
  pub homes_stay : (slot : Slot) (word d : ℕ) → page_word (memory_of w) slot ≡ Some word → directory_at (memory_of w) slot.pid ≡ Some d → directory_at (memory_of v) slot.pid ≡ Some d
  homes_stay slot word d is live =
      let left = left_next v.state e takes slot (sym (ap (λ (t : State). is_some (map.get t.spaces slot)) state) ∙ mapped_word w later slot word is) in
      let cell = some_value (map.get v.state.spaces slot) left.0 in
      let old = word_mapped v before slot cell.0 cell.1 in
      let way = way_at v slot old.0 old.1 in
      let first = way_parts (memory_of v) slot way.0 (frame_number old.0) way.1 in
      let now = way_parts (memory_of w) slot way.0 (frame_number old.0) (stay.ways slot way.0 (frame_number old.0) (left.1 (frame_number old.0)) way.1) in
      let same : way.0 ≡ d = cc in
      first.live ∙ ap Some same

  -- a table that is linked afterwards was linked before
  pub tables_stay : (p region t : ℕ) → table_at (memory_of w) p region ≡ Some t → table_at (memory_of v) p region ≡ Some t
  tables_stay p region t is =
      let maps = tables_map w later.image p region t is in
      let slot : Slot = at_page p maps.page in
      let left = left_next v.state e takes slot (sym (ap (λ (t : State). is_some (map.get t.spaces slot)) state) ∙ maps.mapped) in
      let cell = some_value (map.get v.state.spaces slot) left.0 in
      let old = word_mapped v before slot cell.0 cell.1 in
      let way = way_at v slot old.0 old.1 in
      let table = table_of_word v slot old.0 old.1 in
      let now = stay.tables slot way.0 (frame_number old.0) table.0 (left.1 (frame_number old.0)) way.1 table.1 in
      let same : table.0 ≡ t = cc in
      sym (ap (table_at (memory_of v) p) maps.inside) ∙ table.1 ∙ ap Some same

  -- the bytes of its frame stand
  bytes_stay : (slot : Slot) (word : ℕ) → page_word (memory_of v) slot ≡ Some word → frame_bytes v.bytes (frame_number word) ≡ frame_bytes w.bytes (frame_number word)
  bytes_stay slot word is = by (is_lazy word) refl
    where
      by : (b : Bool) → is_lazy word ≡ b → frame_bytes v.bytes (frame_number word) ≡ frame_bytes w.bytes (frame_number word)
      by true lazy = grind (arith, lazy_zero)
      by false real =
          let role = before.image.memory.sound.pages slot (frame_number word) (ap (option_and_then (own_frame 2)) is ∙ own_is word real) in
          sym (pages.each (frame_number word) role.0 role.1).0

  pub filled_first : v.state ≡ filled_state (frame_at v) w.bytes v.state
  filled_first = ap (λ (S : Spaces). record v.state { spaces = S }) (same_map _ _ (λ slot.
      by slot (map.get v.state.spaces slot) refl ∙ sym (get_filled (frame_at v) w.bytes v.state.spaces slot)))
    where
      stands : (slot : Slot) (c : Cell) → map.get v.state.spaces slot ≡ Some c → c.bytes ≡ frame_bytes w.bytes (frame_at v slot)
      stands slot c at = grind (arith, word_mapped, cell_bytes, bytes_stay, frame_is)

      by : (slot : Slot) (z : Option Cell) → map.get v.state.spaces slot ≡ z → map.get v.state.spaces slot ≡ option_map (fill (frame_at v) w.bytes slot) (map.get v.state.spaces slot)
      by slot None is = is ∙ sym (ap (option_map (fill (frame_at v) w.bytes slot)) is)
      by slot (Some c) is = is ∙ ap (λ l. Some (with_bytes c l)) (stands slot c is) ∙ sym (ap (option_map (fill (frame_at v) w.bytes slot)) is)

  pub long_stays : length w.bytes ≡ length v.bytes
  long_stays = grind (arith, from_map, kept-next)
