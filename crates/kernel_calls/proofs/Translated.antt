-- Which walks find the same frame after an event.
use Rattle.kernel_calls.proofs.Prelude.{◌≡◌, ◌<◌, ◌^◌, ℕ, Bool, true, false, not, ◌&&◌, ◌||◌, ◌==◌, refl, ap, sym, ◌∙◌, inl, inr, Option, Some, None, is_some, arith, eqb-true, eq-eqb, ◌⊎◌, if◌then◌else◌, MatchBool, Ok, option_map, option_and_then, page_number, slot_number, index_number, second_page, Size, same-true, same_itself, frame_number, Access, Read, Write, walk_of, is_write, not_allowed, directory_at, word_of, named_by, present_word, page_word, is_lazy_at, takes_stores, SlotStands, Slot, slot_order, Cell, at_page, slot_at, is_slot, way_of, FramesStay, of_lazy, FindsBytes, WalkEndsBy, way_parts, memory_of, State, is_mapped, View, IsWellFormed, IsCore, goes_on, plan_at, step_at, takes_no_frame, lazy_second, lazy_touched, ready, answer, answer_of, next, completes, plan_of_call, plan_of_event, may_unmap, finds_event, is_ended, is_all_of, if_lazy, of_pages, of_call, ended_by, TranslationsStay, FindsFrame, EndsFound, SlotsStay, gone_of_call, gone_by, Call, Event}
use Rattle.kernel_calls.proofs.CoreMemory.{walks_of, ways_of}
use Rattle.kernel_calls.proofs.Decided.{goes-event, next-stays, next-goes}
use Rattle.kernel_calls.proofs.Flags.{IsFlag, has, own, right_is_flag, Spared, keeps_call}
use Rattle.kernel_calls.proofs.Runs.{not-refused}
use Rattle.kernel_calls.proofs.Untouched.{caller_live}
use Rattle.page_words.specs.FiniteMap as map
use Rattle.process_table.specs.declared.causes.Cause.TheVariants as cause
use Rattle.fault_handler.specs.declared.plans.PageStep.TheVariants as step
use Rattle.fault_handler.specs.declared.plans.Plan.TheVariants as plan
use Rattle.kernel_calls.specs.declared.calls.Call.TheVariants as call
use Rattle.kernel_calls.specs.declared.translations.Ended.TheVariants as end

-- ---- A slot that has a way

module _ (v : View) (core : IsCore v) where
  -- is mapped
  pub way_mapped : (slot : Slot) (d f : ℕ) → way_of (memory_of v) slot ≡ Some (d, f)
      → (c : Cell) × (map.get v.state.spaces slot ≡ Some c)
  way_mapped slot d f way = by (page_word (memory_of v) slot) (map.get v.state.spaces slot) refl
      (way_parts (memory_of v) slot d f way).names (core.image.memory.cells slot)
    where
      by : (x : Option ℕ) (y : Option Cell) → map.get v.state.spaces slot ≡ y → option_map frame_number x ≡ Some f
          → SlotStands (memory_of v) slot x y → (c : Cell) × (map.get v.state.spaces slot ≡ Some c)
      by None y is names h = cc
      by (Some w) None is names h = absurd h
      by (Some w) (Some c) is names h = (c, is)

  -- where the walk of a write finds a frame, the slot takes stores
  pub walk_takes : (p d a f : ℕ) → directory_at (memory_of v) p ≡ Some d → a < 2 ^ 32 → walk_of v.bytes d a Write ≡ Ok f
      → takes_stores v.state.spaces (memory_of v) (slot_at p a) ≡ true
  walk_takes p d a f live small walk = by (map.get v.state.spaces (slot_at p a)) refl (walks_of core p d a Write live small)
    where
      lazy : Bool
      lazy = is_lazy_at (memory_of v) (slot_at p a)

      by_right : (c : Cell) (b : Bool) → (c.write && not lazy) ≡ b → map.get v.state.spaces (slot_at p a) ≡ Some c
          → MatchBool (not b) (walk_of v.bytes d a Write ≡ not_allowed a Write) (FindsBytes v.bytes d a Write c)
          → takes_stores v.state.spaces (memory_of v) (slot_at p a) ≡ true
      by_right c b right is h = grind (arith, lazy)

      by : (x : Option Cell) → map.get v.state.spaces (slot_at p a) ≡ x → WalkEndsBy v.bytes d a Write lazy x
          → takes_stores v.state.spaces (memory_of v) (slot_at p a) ≡ true
      by x is h = grind (arith, by_right, lazy)

  -- where a slot with a way has the right, or for a read, its walk finds the way's frame
  pub walk_finds : (p d a f : ℕ) (access : Access) → a < 2 ^ 32 → way_of (memory_of v) (slot_at p a) ≡ Some (d, f)
      → (access ≡ Write → (has (λ c. c.write) (map.get v.state.spaces (slot_at p a)) ≡ true)
      × (is_lazy_at (memory_of v) (slot_at p a) ≡ false))
      → walk_of v.bytes d a access ≡ Ok f
  walk_finds p d a f access small way right = at (map.get v.state.spaces (slot_at p a)) cell.1
      (walks_of core p d a access live small) right
    where
      live : directory_at (memory_of v) p ≡ Some d
      live = (way_parts (memory_of v) (slot_at p a) d f way).live

      cell : (c : Cell) × (map.get v.state.spaces (slot_at p a) ≡ Some c)
      cell = way_mapped (slot_at p a) d f way

      lazy : Bool
      lazy = is_lazy_at (memory_of v) (slot_at p a)

      same : (x : ℕ) → walk_of v.bytes d a access ≡ Ok x → walk_of v.bytes d a access ≡ Ok f
      same x found =
          let k : ◌≡◌ {A = Option (ℕ × ℕ)} (Some (d, x)) (Some (d, f)) = sym ((ways_of core).lead p d a x access live small found)
          ∙ way in
          let e : ◌≡◌ {A = Option ℕ} (Some x) (Some f) = ap (option_map (λ (q : ℕ × ℕ). q.1)) k in
          let is : x ≡ f = cc in
          found ∙ ap Ok is

      may : (c : Cell) (k : Access) → (k ≡ Write → (c.write ≡ true) × (lazy ≡ false))
          → (is_write k && not (c.write && not lazy)) ≡ false
      may c k h = grind arith

      at : (x : Option Cell) → x ≡ Some cell.0 → WalkEndsBy v.bytes d a access lazy x
          → (access ≡ Write → (has (λ c. c.write) x ≡ true) × (lazy ≡ false)) → walk_of v.bytes d a access ≡ Ok f
      at x is h r = grind (arith, may, same)

  -- ---- Ways that an event leaves

  -- whether a page is that of a slot, where there is one
  abbrev pub named : ℕ → Option ℕ → Slot → Bool
  named p None slot = false
  named p (Some page) slot = is_slot p page slot

  ended_pages : (p : ℕ) (x y : Option ℕ) (slot : Slot) → is_ended (of_pages p x y) slot ≡ false
      → (named p x slot ≡ false) × (named p y slot ≡ false)
  ended_pages p x y slot h = grind arith

  -- a lazy page that isn't ended isn't there
  page_spared : (p page : ℕ) (slot : Slot) (d f : ℕ) → way_of (memory_of v) slot ≡ Some (d, f)
      → named p (if_lazy (memory_of v) p page) slot ≡ false → of_lazy p page slot f ≡ false
  page_spared p page slot d f way stays = by (is_slot p page slot) refl (f == 0) refl
    where
      by : (a : Bool) → is_slot p page slot ≡ a → (b : Bool) → (f == 0) ≡ b → (a && b) ≡ false
      by false is b zero = refl
      by true is false zero = refl
      by true is true zero = absurd (
          let here : at_page p page ≡ slot = same-true slot_order (at_page p page) slot is in
          let lazy : is_lazy_at (memory_of v) (at_page p page) ≡ true = ap (is_lazy_at (memory_of v)) here
          ∙ (ways_of core).lazy slot d f way ∙ zero in
          let k : false ≡ true = sym stays ∙ ap (λ b. named p (if b then Some page else None) slot) lazy ∙ is in
          cc)

  store_spared : (p addr : ℕ) (size : Size) (value : ℕ) (slot : Slot) (d f : ℕ) → way_of (memory_of v) slot ≡ Some (d, f)
      → is_ended (of_call v p (call.Store addr size value)) slot ≡ false → lazy_touched p addr size slot f ≡ false
  store_spared p addr size value slot d f way stays =
      let parts = ended_pages p (if_lazy (memory_of v) p (page_number addr)) (option_and_then (if_lazy (memory_of v) p) (second_page addr size)) slot stays in
      let first = page_spared p (page_number addr) slot d f way parts.0 in
      let second = by (second_page addr size) parts.1 in
      (λ i. first i || second i)
    where
      by : (x : Option ℕ) → named p (option_and_then (if_lazy (memory_of v) p) x) slot ≡ false → lazy_second p x slot f ≡ false
      by None h = refl
      by (Some page) h = page_spared p page slot d f way h

  -- a slot that a call doesn't end keeps its way
  call_spared : (p : ℕ) (c : Call) (slot : Slot) (d f : ℕ) → way_of (memory_of v) slot ≡ Some (d, f)
      → is_ended (of_call v p c) slot ≡ false → gone_of_call p c slot f ≡ false
  call_spared p (call.Store addr size value) slot d f way stays = store_spared p addr size value slot d f way stays
  call_spared p (call.Accept giver giver_page page) slot d f way stays =
      page_spared giver giver_page slot d f way (ended_pages giver (if_lazy (memory_of v) giver giver_page) None slot stays).0
  call_spared p _ slot d f way stays = grind arith

  pub event_spared : (e : Event) (slot : Slot) (d f : ℕ) → way_of (memory_of v) slot ≡ Some (d, f)
      → is_ended (ended_by v e) slot ≡ false → gone_by v.state e slot f ≡ false
  event_spared e slot d f way stays = by (completes (answer v.state e)) refl stays
    where
      by : (b : Bool) → completes (answer v.state e) ≡ b
          → is_ended (if b then of_call v e.pid e.call else end.Nothing) slot ≡ false
          → (if b then gone_of_call e.pid e.call slot f else false) ≡ false
      by false is h = refl
      by true is h = call_spared e.pid e.call slot d f way h

  -- ---- Rights that an event leaves

  right_spared : (p : ℕ) (c : Call) (slot : Slot) → takes_stores v.state.spaces (memory_of v) slot ≡ true
      → is_ended (of_call v p c) slot ≡ false → Spared (λ c. c.write) right_is_flag v.state p c slot
  right_spared p (call.Protect page false) slot takes stays = λ here. absurd (
      let test : takes_stores v.state.spaces (memory_of v) (at_page p page) ≡ true =
      sym (ap (takes_stores v.state.spaces (memory_of v)) here) ∙ takes in
      let own : is_slot p page slot ≡ true = ap (is_slot p page) here ∙ same_itself slot_order (at_page p page) in
      let k : false ≡ true = sym stays ∙ ap (λ b. is_ended (if b then end.Page p page else end.Nothing) slot) test
      ∙ own in
      cc)
  right_spared p _ slot takes stays = grind arith

  pub has_right : (slot : Slot) → takes_stores v.state.spaces (memory_of v) slot ≡ true
      → (has (λ c. c.write) (map.get v.state.spaces slot) ≡ true) × (is_lazy_at (memory_of v) slot ≡ false)
  has_right slot takes = grind (arith, has)

  right_stays : (e : Event) (slot : Slot) → takes_stores v.state.spaces (memory_of v) slot ≡ true
      → is_ended (ended_by v e) slot ≡ false → has (λ c. c.write) (map.get (next v.state e).spaces slot) ≡ true
  right_stays e slot takes stays = by (completes (answer v.state e)) refl stays
    where
      by : (b : Bool) → completes (answer v.state e) ≡ b
          → is_ended (if b then of_call v e.pid e.call else end.Nothing) slot ≡ false
          → has (λ c. c.write) (map.get (next v.state e).spaces slot) ≡ true
      by false is h = grind (arith, has, next-stays, has_right)
      by true is h =
          ap (λ (t : State). has (λ c. c.write) (map.get t.spaces slot)) (next-goes v.state e is)
          ∙ keeps_call (λ c. c.write) right_is_flag v.state e.pid e.call slot core.well_formed (caller_live v.state e is).1
          (right_spared e.pid e.call slot takes h) (has_right slot takes).0

-- each walk that finds a frame and isn't ended finds it afterwards
pub translations_stay : (v w : View) (e : Event) → IsCore v → IsCore w
    → w.state ≡ next v.state e → FramesStay (gone_by v.state e) (memory_of v) (memory_of w)
    → TranslationsStay (ended_by v e) (memory_of v) (memory_of w)
translations_stay v w e now later state stay p d a f access small stays gives =
    let slot = slot_at p a in
    let live = gives.0 in
    let walk = gives.1 in
    let way : way_of (memory_of v) slot ≡ Some (d, f) = (ways_of now).lead p d a f access live small walk in
    let way' : way_of (memory_of w) slot ≡ Some (d, f) = stay.ways slot d f (event_spared v now e slot d f way stays) way in
    let lazy : is_lazy_at (memory_of w) slot ≡ is_lazy_at (memory_of v) slot = (ways_of later).lazy slot d f way'
    ∙ sym ((ways_of now).lazy slot d f way) in (
      (way_parts (memory_of w) slot d f way').live,
      walk_finds w later p d a f access small way'
          (λ is.
          let takes = walk_takes v now p d a f live small (ap (walk_of v.bytes d a) (sym is) ∙ walk) in (
            ap (λ (t : State). has (λ c. c.write) (map.get t.spaces slot)) state
                ∙ right_stays v now e slot takes stays,
            lazy
                ∙ (has_right v now slot takes).1,
          )),
    )

-- ---- Flags

-- a slot that isn't ended and has a flag that is no right is spared by its call
flag_spared : (flag : Cell → Bool) (F : IsFlag flag) → ((c : Cell) (w : Bool) → flag (record c { write = w }) ≡ flag c)
    → (v : View) (p : ℕ) (c : Call) (slot : Slot) → has flag (map.get v.state.spaces slot) ≡ true
    → is_ended (of_call v p c) slot ≡ false → Spared flag F v.state p c slot
flag_spared flag F alike v p c slot h stays = grind (arith, own, has)

flag_stays : (flag : Cell → Bool) → IsFlag flag → ((c : Cell) (w : Bool) → flag (record c { write = w }) ≡ flag c)
    → (v : View) (e : Event) (slot : Slot) → IsWellFormed v.state → is_ended (ended_by v e) slot ≡ false
    → has flag (map.get v.state.spaces slot) ≡ true → has flag (map.get (next v.state e).spaces slot) ≡ true
flag_stays flag F alike v e slot w stays h = by (completes (answer v.state e)) refl stays
  where
    by : (b : Bool) → completes (answer v.state e) ≡ b
        → is_ended (if b then of_call v e.pid e.call else end.Nothing) slot ≡ false
        → has flag (map.get (next v.state e).spaces slot) ≡ true
    by false is k = ap (λ (t : State). has flag (map.get t.spaces slot)) (next-stays v.state e is) ∙ h
    by true is k =
        ap (λ (t : State). has flag (map.get t.spaces slot)) (next-goes v.state e is)
        ∙ keeps_call flag F v.state e.pid e.call slot w (caller_live v.state e is).1
        (flag_spared flag F alike v e.pid e.call slot h k) h

-- a mapped slot that isn't ended is mapped afterwards
pub slots_stay : (v w : View) (e : Event) → IsWellFormed v.state → w.state ≡ next v.state e → SlotsStay (ended_by v e) v.state w.state
slots_stay v w e well state slot stays there =
    let any : (x : Option Cell) → has (λ _. true) x ≡ is_some x = mapped_has in
    ap (λ (t : State). is_some (map.get t.spaces slot)) state
    ∙ sym (any (map.get (next v.state e).spaces slot))
    ∙ flag_stays (λ _. true) (record { accessed = λ c h. refl; stored = λ c b h. refl; bytes = λ c b. refl; holders = λ c g. refl }) (λ c w. refl) v e slot well stays (any (map.get v.state.spaces slot) ∙ there)
  where
    mapped_has : (x : Option Cell) → has (λ _. true) x ≡ is_some x
    mapped_has x = grind arith

-- ---- What is ended had a walk

module _ (v : View) (core : IsCore v) where
  -- a mapped slot has a walk that finds a frame
  mapped_found : (p a : ℕ) → a < 2 ^ 32 → is_some (page_word (memory_of v) (slot_at p a)) ≡ true → FindsFrame (memory_of v) p a
  mapped_found p a small there = by (directory_at (memory_of v) p) refl
    where
      none : directory_at (memory_of v) p ≡ None → page_word (memory_of v) (slot_at p a) ≡ None
      none dead = ap (option_and_then {U = ℕ} (λ t. present_word (memory_of v) t (word_of (memory_of v) t (index_number (page_number a))))) (ap (option_and_then {U = ℕ} (λ d. named_by (slot_number (page_number a)) (word_of (memory_of v) d (slot_number (page_number a))))) dead)

      by : (x : Option ℕ) → directory_at (memory_of v) p ≡ x → FindsFrame (memory_of v) p a
      by None live = absurd (let k : false ≡ true = sym (ap is_some (none live)) ∙ there in cc)
      by (Some d) live = at (page_word (memory_of v) (slot_at p a)) (map.get v.state.spaces (slot_at p a)) there (core.image.memory.cells (slot_at p a)) (walks_of core p d a Read live small)
        where
          at : (x : Option ℕ) (y : Option Cell) → is_some x ≡ true → SlotStands (memory_of v) (slot_at p a) x y → WalkEndsBy v.bytes d a Read (is_lazy_at (memory_of v) (slot_at p a)) y → FindsFrame (memory_of v) p a
          at x y h s e = grind arith

  -- a slot that has a cell has a word
  cell_word : (slot : Slot) → is_some (map.get v.state.spaces slot) ≡ true → is_some (page_word (memory_of v) slot) ≡ true
  cell_word slot h = grind arith

  -- and so has one with a lazy page
  lazy_word : (slot : Slot) → is_lazy_at (memory_of v) slot ≡ true → is_some (page_word (memory_of v) slot) ≡ true
  lazy_word slot h = grind arith

  -- a page that is ended as lazy is lazy
  filled_lazy : (q page : ℕ) (slot : Slot) → named v core q (if_lazy (memory_of v) q page) slot ≡ true → is_lazy_at (memory_of v) slot ≡ true
  filled_lazy q page slot h = by (is_lazy_at (memory_of v) (at_page q page)) refl h
    where
      by : (y : Bool) → is_lazy_at (memory_of v) (at_page q page) ≡ y → named v core q (if y then Some page else None) slot ≡ true → is_lazy_at (memory_of v) slot ≡ true
      by false lazy k = cc
      by true lazy k = sym (ap (is_lazy_at (memory_of v)) (same-true slot_order (at_page q page) slot k)) ∙ lazy

  filled_pages : (q : ℕ) (x y : Option ℕ) (slot : Slot) → is_ended (of_pages q x y) slot ≡ true → (named v core q x slot ≡ true) ⊎ (named v core q y slot ≡ true)
  filled_pages q x y slot h = grind arith

  -- a slot that a call which completes ends has a word, or its process goes
  ended_word : (q : ℕ) (c : Call) (slot : Slot) → completes (answer_of v.state q c) ≡ true
      → is_ended (of_call v q c) slot ≡ true → (is_all_of (of_call v q c) slot.pid ≡ true) ⊎ (is_some (page_word (memory_of v) slot) ≡ true)
  ended_word q (call.Store addr size value) slot done h =
      elim (filled_pages q (if_lazy (memory_of v) q (page_number addr)) (option_and_then (if_lazy (memory_of v) q) (second_page addr size)) slot h) [
        | inl first ↦ inr (lazy_word slot (filled_lazy q (page_number addr) slot first))
        | inr second ↦ by (second_page addr size) second
      ]
    where
      by : (x : Option ℕ) → named v core q (option_and_then (if_lazy (memory_of v) q) x) slot ≡ true → (is_all_of (of_call v q (call.Store addr size value)) slot.pid ≡ true) ⊎ (is_some (page_word (memory_of v) slot) ≡ true)
      by None k = cc
      by (Some page) k = inr (lazy_word slot (filled_lazy q page slot k))
  ended_word q (call.Unmap page) slot done h =
      let here = same-true slot_order (at_page q page) slot h in
      inr (cell_word slot (sym (ap (λ s. is_some (map.get v.state.spaces s)) here) ∙ may_unmap v.state q page (not-refused _ _ done)))
  ended_word q (call.Protect page write) slot done h = by (not write) (takes_stores v.state.spaces (memory_of v) (at_page q page)) refl h
    where
      mapped : (x y : Bool) → (x && y) ≡ true → x ≡ true
      mapped x y k = grind arith

      by : (x y : Bool) → takes_stores v.state.spaces (memory_of v) (at_page q page) ≡ y → is_ended (if x && y then end.Page q page else end.Nothing) slot ≡ true
          → (is_all_of (of_call v q (call.Protect page write)) slot.pid ≡ true) ⊎ (is_some (page_word (memory_of v) slot) ≡ true)
      by false y takes k = cc
      by true false takes k = cc
      by true true takes k =
          let here = same-true slot_order (at_page q page) slot k in
          inr (cell_word slot (sym (ap (λ s. is_some (map.get v.state.spaces s)) here) ∙ mapped _ _ takes))
  ended_word q (call.Accept giver giver_page page) slot done h =
      elim (filled_pages giver (if_lazy (memory_of v) giver giver_page) None slot h) [
        | inl first ↦ inr (lazy_word slot (filled_lazy giver giver_page slot first))
        | inr none ↦ absurd (cc)
      ]
  ended_word q call.Exit slot done h = inl (same_number slot.pid q h)
    where
      same_number : (a b : ℕ) → (a == b) ≡ true → (b == a) ≡ true
      same_number a b k = let e : b ≡ a = sym (eqb-true a b k) in eq-eqb b a e
  ended_word q _ slot done h = cc

  -- each page that an event ends had a walk that found a frame
  pub found_by : (e : Event) → EndsFound (ended_by v e) (memory_of v)
  found_by e p a small h = by (completes (answer v.state e)) refl h
    where
      by : (b : Bool) → completes (answer v.state e) ≡ b → is_ended (if b then of_call v e.pid e.call else end.Nothing) (slot_at p a) ≡ true
          → (is_all_of (if b then of_call v e.pid e.call else end.Nothing) p ≡ true) ⊎ FindsFrame (memory_of v) p a
      by false is k = cc
      by true is k =
          elim (ended_word e.pid e.call (slot_at p a) (caller_live v.state e is).1 k) [
            | inl all ↦ inl all
            | inr word ↦ inr (mapped_found p a small word)
          ]
