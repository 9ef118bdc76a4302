-- No translation is ended for nothing.
use Rattle.kernel_calls.proofs.Prelude.{◌≡◌, ◌≢◌, ◌<◌, ◌^◌, ℕ, zero, suc, ◌+◌, Bool, true, false, not, ◌&&◌, ◌||◌, ◌==◌, List, [], ◌∷◌, length, refl, ap, sym, ◌∙◌, arith, inl, inr, Option, Some, None, is_some, unwrap_or, ◌⊎◌, if◌then◌else◌, Ok, option_and_then, option_map, page_number, offset_number, second_page, byte_count, touched, Size, same-true, same_itself, get-map_values, contains-insert, Access, Read, Write, walk_of, directory_at, is_lazy_at, takes_stores, Slot, slot_order, Cell, Spaces, at_page, slot_at, is_slot, cell_or_fresh, fresh, with_pages, with_holders, set_bytes, set_holders, write_at, stored, all_stored, bytes_of, joined, without, way_of, length-bytes_of, memory_of, offered, is_mapped, View, IsCore, get-inserted, get-inserted_other, without-was, may_accept, giver_mapped, goes_on, plan_at, step_at, ready, plan_of_call, answer, answer_of, after, next, completes, is_ended, if_lazy, of_pages, of_call, ended_by, EndsNoMore, Call, Event, crosses, some_bytes}
use Rattle.kernel_calls.proofs.CoreMemory.{ways_of}
use Rattle.kernel_calls.proofs.Decided.{goes-event, next-goes}
use Rattle.kernel_calls.proofs.Flags.{has, dirty_is_flag, keeps_all_stored}
use Rattle.kernel_calls.proofs.Translated.{way_mapped, walk_takes, walk_finds, has_right}
use Rattle.kernel_calls.proofs.Runs.{not-refused}
use Rattle.kernel_calls.proofs.Untouched.{caller_live}
use Rattle.page_words.specs.FiniteMap as map
use Rattle.page_words.specs.FiniteSet as set
use Rattle.fault_handler.specs.declared.plans.PageStep.TheVariants as step
use Rattle.kernel_calls.specs.declared.calls.Call.TheVariants as call
use Rattle.kernel_calls.specs.declared.translations.Ended.TheVariants as end

-- ---- What a store leaves dirty

abbrev dirty : Cell → Bool
dirty c = c.dirty

dirty_byte : (S : Spaces) (p address : ℕ) (bytes : List ℕ) (i : ℕ) → i < length bytes
    → has dirty (map.get (all_stored S p address bytes) (slot_at p (address + i))) ≡ true
dirty_byte S p address [] i l = absurd (omega (arith, l))
dirty_byte S p address (b ∷ bytes) zero l =
    let slot = slot_at p address in
    let S1 = stored S slot (offset_number address) (b ∷ []) in
    let e : address + 0 ≡ address = omega arith in
    ap (λ n. has dirty (map.get (all_stored S p address (b ∷ bytes)) (slot_at p n))) e
    ∙ keeps_all_stored dirty dirty_is_flag S1 p (address + 1) bytes slot
    (let cell = cell_or_fresh S slot in
    let new = write_at cell.bytes (offset_number address) (b ∷ []) in
    ap (has dirty) (get-inserted (set_bytes S cell.holders new) slot
    (record cell { bytes = new; accessed = true; dirty = true })))
dirty_byte S p address (b ∷ bytes) (suc i) l =
    let S1 = stored S (slot_at p address) (offset_number address) (b ∷ []) in
    let e : address + suc i ≡ address + 1 + i = omega arith in
    ap (λ n. has dirty (map.get (all_stored S p address (b ∷ bytes)) (slot_at p n))) e
    ∙ dirty_byte S1 p (address + 1) bytes i (omega (arith, l))

module _ (S : Spaces) (p address : ℕ) (size : Size) (value : ℕ) where
  abbrev T : Spaces
  T = all_stored S p address (bytes_of (byte_count size) value)

  long : length (bytes_of (byte_count size) value) ≡ byte_count size
  long = length-bytes_of (byte_count size) value

  dirty_first : has dirty (map.get T (at_page p (page_number address))) ≡ true
  dirty_first =
      let n = some_bytes size in
      let count = n.1 in
      let l = long in
      let e : address ≡ address + 0 = omega arith in
      ap (λ a. has dirty (map.get T (slot_at p a))) e
      ∙ dirty_byte S p address (bytes_of (byte_count size) value) 0 (omega (arith, count, l))

  dirty_second : (page : ℕ) → second_page address size ≡ Some page → has dirty (map.get T (at_page p page)) ≡ true
  dirty_second page is =
      let n = some_bytes size in
      let count = n.1 in
      let few = n.2 in
      let l = long in
      let c = crosses address size page is in
      let next = c.next in
      let past = c.past in
      let e : page ≡ page_number (address + n.0) = omega (arith, count, few, next, past) in
      ap (λ k. has dirty (map.get T (at_page p k))) e
      ∙ dirty_byte S p address (bytes_of (byte_count size) value) n.0 (omega (arith, count, l))

-- ---- What isn't lazy afterwards

module _ (w : View) (core : IsCore w) where
  -- a dirty slot
  dirty_real : (slot : Slot) → has dirty (map.get w.state.spaces slot) ≡ true → is_lazy_at (memory_of w) slot ≡ false
  dirty_real slot h = grind (arith, has)

  -- a walk to frame 0 is of a lazy slot
  walk_lazy : (p d a f : ℕ) → directory_at (memory_of w) p ≡ Some d → a < 2 ^ 32 → walk_of w.bytes d a Read ≡ Ok f
      → (f == 0) ≡ true → is_lazy_at (memory_of w) (slot_at p a) ≡ true
  walk_lazy p d a f live small walk none = (ways_of core).lazy (slot_at p a) d f ((ways_of core).lead p d a f Read live small walk) ∙ none

  -- a walk is of a mapped slot
  walk_mapped : (p d a f : ℕ) → directory_at (memory_of w) p ≡ Some d → a < 2 ^ 32 → walk_of w.bytes d a Read ≡ Ok f
      → is_some (map.get w.state.spaces (slot_at p a)) ≡ true
  walk_mapped p d a f live small walk = ap is_some
      (way_mapped w core (slot_at p a) d f ((ways_of core).lead p d a f Read live small walk)).1

-- ---- By the event

pub without_gone : (S : Spaces) (gone : Slot → Bool) (q : Slot) → gone q ≡ true
    → is_some (map.get (without S gone) q) ≡ false
without_gone S gone q is = grind (arith, without-was)

-- the giver's group has the slot that joined it
giver_joined : (S : Spaces) (giver slot : Slot) (right : Bool) (c : Cell) → map.get S giver ≡ Some c
    → set.contains c.holders giver ≡ true → giver ≢ slot
    → (d : Cell) × (map.get (joined S giver slot right) giver ≡ Some d) × (set.contains d.holders slot ≡ true)
giver_joined S giver slot right c there own differ =
    let cell : cell_or_fresh S giver ≡ c = ap (λ x. unwrap_or x (fresh giver true)) there in
    let group = (cell_or_fresh S giver).holders in
    let holders = set.insert group slot in
    let held : set.contains group giver ≡ true = ap (λ (x : Cell). set.contains x.holders giver) cell ∙ own in (
      with_holders c holders,
      get-inserted_other (set_holders S group holders) slot
          (record {
            write = right;
            may = right;
            accessed = false;
            dirty = false;
            bytes =
                (cell_or_fresh S giver).bytes;
            holders = holders;
          }) giver differ
          ∙ get-map_values slot_order (λ q (x : Cell). if set.contains group q then with_holders x holders else x) S
          giver
          ∙ ap (option_map (λ (x : Cell). if set.contains group giver then with_holders x holders else x)) there
          ∙ ap (λ b. Some (if b then with_holders c holders else c)) held,
      contains-insert group slot slot ∙ ap (λ b. b || set.contains group slot) (same_itself slot_order slot),
    )

module _ (v w : View) (now : IsCore v) (later : IsCore w) (p d a f : ℕ) (live : directory_at (memory_of v) p ≡ Some d)
    (small : a < 2 ^ 32) (walk : walk_of v.bytes d a Read ≡ Ok f) where
  abbrev pub slot : Slot
  slot = slot_at p a

  -- there is a walk that finds the frame no more
  abbrev pub Lost : Type 0
  Lost = (access : Access) × (walk_of v.bytes d a access ≡ Ok f)
      × ((d' : ℕ) → directory_at (memory_of w) p ≡ Some d' → walk_of w.bytes d' a access ≢ Ok f)

  way : way_of (memory_of v) slot ≡ Some (d, f)
  way = (ways_of now).lead p d a f Read live small walk

  -- where the slot is mapped no more
  lost_gone : is_some (map.get w.state.spaces slot) ≡ false → Lost
  lost_gone gone = (
    Read,
    walk,
    λ d' live' found. let k : false ≡ true = sym gone
        ∙ walk_mapped w later p d' a f live' small found in cc,
  )

  -- where it was lazy, and isn't
  lost_filled : is_lazy_at (memory_of v) slot ≡ true → is_lazy_at (memory_of w) slot ≡ false → Lost
  lost_filled lazy real = (
    Read,
    walk,
    λ d' live' found.
        let none : (f == 0) ≡ true = sym ((ways_of now).lazy slot d f way) ∙ lazy in
        let k : false ≡ true = sym real ∙ walk_lazy w later p d' a f live' small found none in
        cc,
  )

  -- where it took stores, and has no right
  lost_right : takes_stores v.state.spaces (memory_of v) slot ≡ true
      → has (λ c. c.write) (map.get w.state.spaces slot) ≡ false → Lost
  lost_right takes none = (
    Write,
    walk_finds v now p d a f Write small way
        (λ _. has_right v now slot takes),
    λ d' live' found.
        let k : false ≡ true = sym none ∙ (has_right w later slot
        (walk_takes w later p d' a f live' small found)).0 in
        cc,
  )

  abbrev pub named : ℕ → Option ℕ → Bool
  named q None = false
  named q (Some page) = is_slot q page slot

  some_page : (q : ℕ) (x y : Option ℕ) → is_ended (of_pages q x y) slot ≡ true → (named q x ≡ true) ⊎ (named q y ≡ true)
  some_page q x y h = grind arith

  -- a page that is ended as lazy is lazy
  filled : (q page : ℕ) → named q (if_lazy (memory_of v) q page) ≡ true
      → (at_page q page ≡ slot) × (is_lazy_at (memory_of v) slot ≡ true)
  filled q page h = by (is_lazy_at (memory_of v) (at_page q page)) refl h
    where
      by : (y : Bool) → is_lazy_at (memory_of v) (at_page q page) ≡ y → named q (if y then Some page else None) ≡ true
          → (at_page q page ≡ slot) × (is_lazy_at (memory_of v) slot ≡ true)
      by false lazy k = cc
      by true lazy k = let here = same-true slot_order (at_page q page) slot k in
          (here, sym (ap (is_lazy_at (memory_of v)) here) ∙ lazy)

  lost_call : (q : ℕ) (c : Call) → completes (answer_of v.state q c) ≡ true
      → w.state ≡ after v.state q c → is_ended (of_call v q c) slot ≡ true → Lost
  lost_call q (call.Store addr size value) done state h =
      elim (some_page q (if_lazy (memory_of v) q (page_number addr)) (option_and_then (if_lazy (memory_of v) q) (second_page addr size)) h) [
        | inl first ↦
            let there = filled q (page_number addr) first in
            lost_filled there.1 (dirty_real w later slot
            (grind (arith, dirty_first)))
        | inr second ↦ by (second_page addr size) refl second
      ]
    where
      S : Spaces
      S = with_pages v.state.spaces q (touched addr size)

      by : (x : Option ℕ) → second_page addr size ≡ x → named q (option_and_then (if_lazy (memory_of v) q) x) ≡ true → Lost
      by None none k = cc
      by (Some page) is k =
          let there = filled q page k in
          lost_filled there.1 (dirty_real w later slot
          (grind (arith, dirty_second)))
  lost_call q (call.Unmap page) done state h = grind (arith, lost_gone, without_gone)
  lost_call q (call.Protect page write) done state h = by write _ refl refl h
    where
      by : (x y : Bool) → write ≡ x → takes_stores v.state.spaces (memory_of v) (at_page q page) ≡ y
          → is_ended (if not x && y then end.Page q page else end.Nothing) slot ≡ true → Lost
      by true y is takes k = cc
      by false false is takes k = cc
      by false true is takes k =
          let here = same-true slot_order (at_page q page) slot k in
          lost_right (sym (ap (takes_stores v.state.spaces (memory_of v)) here) ∙ takes)
          (grind (arith, get-inserted))
  lost_call q (call.Accept giver giver_page page) done state h =
      elim (some_page giver (if_lazy (memory_of v) giver giver_page) None h) [
        | inl first ↦
            let there = filled giver giver_page first in
            let may = may_accept v.state q giver giver_page page (not-refused _ _ done) in
            let g = giver_mapped v.state q giver giver_page now.well_formed may.there in
            let differ : at_page giver giver_page ≢ at_page q page =
            (λ e. let n : Some g.0 ≡ None = sym g.1 ∙ ap (map.get v.state.spaces) e ∙ may.none in cc) in
            let j = giver_joined v.state.spaces (at_page giver giver_page) (at_page q page)
            (offered v.state giver giver_page q) g.0 g.1 (now.well_formed.cells (at_page giver giver_page) g.0 g.1).own differ in
            let here : at_page giver giver_page ≡ slot = there.0 in
            lost_filled there.1 (grind arith)
        | inr none ↦ absurd (cc)
      ]
  lost_call q _ done state h = grind (arith, lost_gone, without_gone)

  pub lost : (e : Event) → w.state ≡ next v.state e → is_ended (ended_by v e) slot ≡ true → Lost
  lost e state h = by (completes (answer v.state e)) refl h
    where
      by : (b : Bool) → completes (answer v.state e) ≡ b
          → is_ended (if b then of_call v e.pid e.call else end.Nothing) slot ≡ true → Lost
      by false is k = cc
      by true is k =
          lost_call e.pid e.call (caller_live v.state e is).1
          (state ∙ next-goes v.state e is) k

pub ends_no_more : (v w : View) (e : Event) → IsCore v → IsCore w → w.state ≡ next v.state e
    → EndsNoMore (ended_by v e) (memory_of v) (memory_of w)
ends_no_more v w e now later state p d a f small ended gives =
    let gone = lost v w now later p d a f gives.0 small gives.1 e state ended in
    (gone.0, (gives.0, gone.1), λ d live. gone.2 d live.0 live.1)
