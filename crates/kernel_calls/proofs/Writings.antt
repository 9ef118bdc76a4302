-- What an event leaves of the frames that aren't its process's.
use Rattle.kernel_calls.proofs.Prelude.{◌≡◌, ◌≢◌, ℕ, ◌+◌, ◌*◌, ◌<◌, ◌^◌, Bool, true, false, ◌&&◌, ◌==◌, cond, List, [], ◌∷◌, length, refl, ap, sym, ◌∙◌, subst, arith, inl, inr, Option, Some, None, is_some, unwrap_or, IsTrue, if◌then◌else◌, nat_lt, slice_index, Ok, slice_get, eqb-true, option_map, option_and_then, ne_eqb, and_parts, nat_tests, same_lists, get_or_default, slice_get_within, page_number, slot_number, index_number, start_number, Size, frame_number, is_present, is_lazy, IsKernelDirWord, NamesPage, Order, Set, same-true, same_itself, frame_bytes, Reserved, Free, Directory, Table, Page, Read, walk_of, directory_at, table_at, word_of, named_by, is_user_slot, present_word, page_word, page_frame, is_lazy_at, SlotStands, CellStands, Slot, Cell, at_page, slot_at, is_slot, way_of, WalkEndsBy, way_parts, from_then, memory_of, State, is_live, View, Plan, Flags, flags_of, flags_at, IsStoreInto, next, IsCore, is_ended, is_all_of, of_pages, of_call, ended_by, Ends, ends_in_region, MapsInRegion, Call, Event, Ended, table_words_by_fields, HasNone, TakesLazy, IsSameButAccessed, StandsAsBefore, WritesItsOwn, EventsWriteTheirOwn, Role, own_frame, IsTableWord, owned, own_is}
use Rattle.std.specs.FinMap.Entries.{find}
use Rattle.kernel_calls.proofs.Births.{child_dead}
use Rattle.kernel_calls.proofs.CoreMemory.{walks_of, ways_of}
use Rattle.kernel_calls.proofs.Effects.{slots_come}
use Rattle.kernel_calls.proofs.RightfulChanges.{changes_are_rightful}
use Rattle.kernel_calls.proofs.Leaving.{region_spared, entry_stays}
use Rattle.kernel_calls.proofs.Linked.{tables_map}
use Rattle.kernel_calls.proofs.Untouched.{integrity}
use Rattle.kernel_calls.proofs.WalkedReplies.{lives}
use Rattle.page_words.specs.FiniteMap as map
use Rattle.page_words.specs.FiniteSet as set

-- ---- What an event ends of others

-- a slot of another process isn't this page
apart_slot : (p page : ℕ) (slot : Slot) → slot.pid ≢ p → is_slot p page slot ≡ false
apart_slot p page slot differ = grind (arith, same-true)

apart_pages : (p : ℕ) (x y : Option ℕ) (slot : Slot) → slot.pid ≢ p → is_ended (of_pages p x y) slot ≡ false
apart_pages p x y slot differ = grind (arith, apart_slot)

-- no slot of another is ended that isn't lazy
call_spares : (v : View) (p : ℕ) (c : Call) (slot : Slot) → slot.pid ≢ p → is_lazy_at (memory_of v) slot ≡ false
    → is_ended (of_call v p c) slot ≡ false
call_spares v p c slot differ real = grind (arith, apart_pages, apart_slot, same-true, ne_eqb)

event_spares : (v : View) (e : Event) (slot : Slot) → slot.pid ≢ e.pid → is_lazy_at (memory_of v) slot ≡ false
    → is_ended (ended_by v e) slot ≡ false
event_spares v e slot differ real = grind (arith, call_spares)

-- a region of another is ended where a lazy page of it is taken
no_region : (p q : ℕ) (x : Bool) → q ≢ p → ((p == q) && x) ≡ true → ⊥
no_region p q x differ h = grind (arith, eqb-true)

regions_of_pages : (p : ℕ) (x y : Option ℕ) (q region : ℕ) → q ≢ p → ends_in_region (of_pages p x y) q region ≡ true → ⊥
regions_of_pages p x y q region differ h = grind (arith, no_region)

ended_call : (v : View) (e : Event) (c : Call) (q region : ℕ) → e.call ≡ c → q ≢ e.pid
    → ends_in_region (of_call v e.pid c) q region ≡ true → TakesLazy v e q region
ended_call v e c q region is differ h = grind (arith, regions_of_pages, no_region, and_parts, eqb-true)

pub ended_takes : (v : View) (e : Event) (q region : ℕ) → q ≢ e.pid → ends_in_region (ended_by v e) q region ≡ true
    → TakesLazy v e q region
ended_takes v e q region differ h = grind (arith, ended_call)

-- ---- Words

-- a table word that is present is itself, of a table of its process
pub record WordAt (v : View) (slot : Slot) (word : ℕ) : Type 0 where
  pub directory : ℕ
  pub live : directory_at (memory_of v) slot.pid ≡ Some directory
  pub names : NamesPage word

present_is : (a b : Bool) (x word : ℕ) → is_present x ≡ b → (if a && b then Some x else None) ≡ Some word
    → (is_present x ≡ true) × (x ≡ word)
present_is a b x word is h = grind arith

table_word : (x word : ℕ) → IsTableWord 2 x → is_present x ≡ true → x ≡ word → NamesPage word
table_word x word h present same = grind arith

pub word_at_slot : (v : View) → IsCore v → (slot : Slot) (word : ℕ) → page_word (memory_of v) slot ≡ Some word → WordAt v slot word
word_at_slot v core slot word is =
    let t = from_then (λ t. present_word (memory_of v) t (word_of (memory_of v) t (index_number slot.page)))
    (table_at (memory_of v) slot.pid (slot_number slot.page)) word is in
    let d = from_then (λ d. named_by (slot_number slot.page) (word_of (memory_of v) d (slot_number slot.page)))
    (directory_at (memory_of v) slot.pid) t.0 t.1 in
    let x : ℕ = word_of (memory_of v) t.0 (index_number slot.page) in
    let p = present_is (nat_lt t.0 (length v.roles)) (is_present x) x word refl t.2 in
    record {
      directory = d.0;
      live = d.1;
      names = grind (arith, table_word);
    }

-- two words of tables that are present alike are one
pub two_words : (a b : ℕ) → IsTableWord 2 a → IsTableWord 2 b
    → (if is_present a then Some a else None) ≡ (if is_present b then Some b else None) → a ≡ b
two_words a b k known h = grind arith

-- two words of directories that name the same table, or none, are the same but for accessed
pub two_dir_words : (a b : ℕ) → IsKernelDirWord a → IsKernelDirWord b
    → (if is_present a then Some (frame_number a) else None) ≡ (if is_present b then Some (frame_number b) else None)
    → IsSameButAccessed a b
two_dir_words a b k known h = grind arith

-- the word of a mapped slot, with its cell
pub record Mapped (v : View) (slot : Slot) : Type 0 where
  pub word : ℕ
  pub there : page_word (memory_of v) slot ≡ Some word
  pub cell : Cell
  pub mapped : map.get v.state.spaces slot ≡ Some cell
  pub stands : CellStands (memory_of v) slot word cell

pub mapped_slot : (v : View) → IsCore v → (slot : Slot) → is_some (map.get v.state.spaces slot) ≡ true → Mapped v slot
mapped_slot v core slot h = by (page_word (memory_of v) slot) refl (map.get v.state.spaces slot) refl h (core.image.memory.cells slot)
  where
    by : (x : Option ℕ) → page_word (memory_of v) slot ≡ x → (y : Option Cell) → map.get v.state.spaces slot ≡ y
        → is_some y ≡ true → SlotStands (memory_of v) slot x y → Mapped v slot
    by x is None there k s = cc
    by None is (Some c) there k s = absurd s
    by (Some word) is (Some c) there k s = record { word = word; there = is; cell = c; mapped = there; stands = s }

-- one that isn't mapped has no word
pub unmapped_slot : (v : View) → IsCore v → (slot : Slot) → is_some (map.get v.state.spaces slot) ≡ false
    → page_word (memory_of v) slot ≡ None
unmapped_slot v core slot h = grind arith

-- a set that isn't empty has a member
pub some_member : {K : Type 0} {o : Order K} (s : Set o) → 0 < set.len s → (k : K) × (set.contains s k ≡ true)
some_member {K} {o} s up = go s.entries up
  where
    go : (es : List (K × Unit {0})) → 0 < length es → (k : K) × (is_some (find o.cmp k es) ≡ true)
    go [] h = absurd (omega (arith, h))
    go (x ∷ es) h = (x.0, ap (λ b. is_some (cond b (Some x.1) (find o.cmp x.0 es))) (same_itself o x.0))

-- the slot of an index of a table has its word, where that is present
pub slot_word : (u : View) → IsCore u → (q region table index page : ℕ) → table_at (memory_of u) q region ≡ Some table
    → slot_number page ≡ region → index_number page ≡ index
    → page_word (memory_of u) (at_page q page)
    ≡ (if is_present (word_of (memory_of u) table index) then Some (word_of (memory_of u) table index) else None)
slot_word u core q region table index page linked inside at =
    ap (λ s. option_and_then (λ t. present_word (memory_of u) t (word_of (memory_of u) t (index_number page)))
    (table_at (memory_of u) q s)) inside
    ∙ ap (option_and_then (λ t. present_word (memory_of u) t (word_of (memory_of u) t (index_number page)))) linked
    ∙ ap (λ i. present_word (memory_of u) table (word_of (memory_of u) table i)) at
    ∙ ap (λ b. if b && is_present (word_of (memory_of u) table index) then Some (word_of (memory_of u) table index) else None) fits
  where
    within : table < length u.roles
    within = slice_get_within u.roles table (Table q region) ((core.image.memory.sound.tables table q region).1 linked)

    fits : nat_lt table (length u.roles) ≡ true
    fits = let l = within in grind (arith, nat_tests)

-- ---- From one core to another

module _ (v w : View) (e : Event) (before : IsCore v) (later : IsCore w) (state : w.state ≡ next v.state e)
    (ends : Ends (ended_by v e) v w) where
  -- a slot of another that isn't mapped isn't afterwards
  none_comes : (slot : Slot) → slot.pid ≢ e.pid → is_live v.state slot.pid ≡ true
      → is_some (map.get v.state.spaces slot) ≡ false → is_some (map.get w.state.spaces slot) ≡ false
  none_comes slot differ live none = grind (arith, slots_come, child_dead)

  module _ (slot : Slot) (differ : slot.pid ≢ e.pid) (spared : is_ended (ended_by v e) slot ≡ false) (m : Mapped v slot) where
    live : is_live v.state slot.pid ≡ true
    live = before.well_formed.owners slot m.cell m.mapped

    abbrev n : Mapped w slot
    n = mapped_slot w later slot (ends.slots slot spared (ap is_some m.mapped))

    -- it has the same flags
    same_flags : flags_of n.cell ≡ flags_of m.cell
    same_flags =
        let u = integrity v.state e slot.pid before.well_formed live differ in
        let k : ◌≡◌ {A = Option Flags} (Some (flags_of n.cell)) (Some (flags_of m.cell)) =
        sym (ap (option_map flags_of) n.mapped) ∙ ap (λ (s : State). flags_at s slot) state ∙ u.flags slot.page
        ∙ ap (option_map flags_of) m.mapped in
        cc

    abbrev address : ℕ
    address = start_number slot.page

    high : slot.page < 0xf0000
    high = (before.well_formed.cells slot m.cell m.mapped).user.1

    small : address < 2 ^ 32
    small = let h = high in omega (arith, h)

    page : page_number address ≡ slot.page
    page = omega arith

    at_home : WordAt v slot m.word
    at_home = word_at_slot v before slot m.word m.there

    abbrev directory : ℕ
    directory = at_home.directory

    home : directory_at (memory_of v) slot.pid ≡ Some directory
    home = at_home.live

    found : (f : ℕ) × (walk_of v.bytes directory address Read ≡ Ok f)
    found = by (map.get v.state.spaces (slot_at slot.pid address))
        (ap (λ k. map.get v.state.spaces (at_page slot.pid k)) page ∙ m.mapped)
        (walks_of before slot.pid directory address Read home small)
      where
        by : (x : Option Cell) → x ≡ Some m.cell
            → WalkEndsBy v.bytes directory address Read (is_lazy_at (memory_of v) (slot_at slot.pid address)) x
            → (f : ℕ) × (walk_of v.bytes directory address Read ≡ Ok f)
        by None is k = cc
        by (Some c) is k = (k.frame, k.found)

    abbrev f : ℕ
    f = found.0

    -- and the same frame
    way : way_of (memory_of v) slot ≡ Some (directory, f)
    way = sym (ap (λ k. way_of (memory_of v) (at_page slot.pid k)) page)
        ∙ (ways_of before).lead slot.pid directory address f Read home small found.1

    stays : (directory_at (memory_of w) slot.pid ≡ Some directory) × (walk_of w.bytes directory address Read ≡ Ok f)
    stays = ends.translations slot.pid directory address f Read small
        (ap (λ k. is_ended (ended_by v e) (at_page slot.pid k)) page ∙ spared) (home, found.1)

    way_later : way_of (memory_of w) slot ≡ Some (directory, f)
    way_later = sym (ap (λ k. way_of (memory_of w) (at_page slot.pid k)) page)
        ∙ (ways_of later).lead slot.pid directory address f Read stays.0 small stays.1

    frame_is : (u : View) (word : ℕ) → page_word (memory_of u) slot ≡ Some word → way_of (memory_of u) slot ≡ Some (directory, f)
        → frame_number word ≡ f
    frame_is u word there is =
        let k : ◌≡◌ {A = Option ℕ} (Some (frame_number word)) (Some f) =
        sym (ap (option_map frame_number) there) ∙ (way_parts (memory_of u) slot directory f is).names in
        cc

    lazy_is : (u : View) → IsCore u → (word : ℕ) → page_word (memory_of u) slot ≡ Some word
        → way_of (memory_of u) slot ≡ Some (directory, f) → is_lazy word ≡ (f == 0)
    lazy_is u core word there is =
        sym (ap (λ (x : Option ℕ). unwrap_or (option_map is_lazy x) false) there) ∙ (ways_of core).lazy slot directory f is

    -- so it has the same word
    same_word : n.word ≡ m.word
    same_word =
        let a = at_home.names in
        let b = (word_at_slot w later slot n.word n.there).names in
        table_words_by_fields n.word m.word (inr b) (inr a)
        (frame_is w n.word n.there way_later ∙ sym (frame_is v m.word m.there way))
        (b.present ∙ sym a.present)
        (sym n.stands.write ∙ ap (λ (x : Flags). x.write) same_flags ∙ m.stands.write)
        (lazy_is w later n.word n.there way_later ∙ sym (lazy_is v before m.word m.there way))
        (sym n.stands.accessed ∙ ap (λ (x : Flags). x.accessed) same_flags ∙ m.stands.accessed)
        (sym n.stands.dirty ∙ ap (λ (x : Flags). x.dirty) same_flags ∙ m.stands.dirty)
        (sym n.stands.may ∙ ap (λ (x : Flags). x.may) same_flags ∙ m.stands.may)

  -- a slot of another keeps its word, or has none, where it isn't ended
  word_stays : (slot : Slot) → slot.pid ≢ e.pid → is_live v.state slot.pid ≡ true → is_ended (ended_by v e) slot ≡ false
      → page_word (memory_of w) slot ≡ page_word (memory_of v) slot
  word_stays slot differ live spared = by (is_some (map.get v.state.spaces slot)) refl
    where
      by : (b : Bool) → is_some (map.get v.state.spaces slot) ≡ b
          → page_word (memory_of w) slot ≡ page_word (memory_of v) slot
      by false none = unmapped_slot w later slot (none_comes slot differ live none) ∙ sym (unmapped_slot v before slot none)
      by true there =
          let m = mapped_slot v before slot there in
          (mapped_slot w later slot (ends.slots slot spared (ap is_some m.mapped))).there
          ∙ ap (λ k. Some k) (same_word slot differ spared m) ∙ sym m.there

  -- ---- Tables and directories
  -- no table comes to a region of another
  no_table_comes : (q region t : ℕ) → q ≢ e.pid → is_live v.state q ≡ true → table_at (memory_of v) q region ≡ None
      → table_at (memory_of w) q region ≡ Some t → ⊥
  no_table_comes q region t differ live none new = by (is_some (map.get v.state.spaces (at_page q m.page))) refl
    where
      m : MapsInRegion w.state q region
      m = tables_map w later.image q region t new

      by : (b : Bool) → is_some (map.get v.state.spaces (at_page q m.page)) ≡ b → ⊥
      by false gone = let k : false ≡ true = sym (none_comes (at_page q m.page) differ live gone) ∙ m.mapped in cc
      by true there =
          let k = mapped_slot v before (at_page q m.page) there in
          let t = from_then (λ t. present_word (memory_of v) t (word_of (memory_of v) t (index_number m.page)))
          (table_at (memory_of v) q (slot_number m.page)) k.word k.there in
          let e : ◌≡◌ {A = Option ℕ} None (Some t.0) = sym none ∙ sym (ap (table_at (memory_of v) q) m.inside) ∙ t.1 in
          cc

  -- the table of a region of another stays, or there is none, where none of its pages is ended
  tables_same : (q region : ℕ) → q ≢ e.pid → is_live v.state q ≡ true → ends_in_region (ended_by v e) q region ≡ false
      → table_at (memory_of w) q region ≡ table_at (memory_of v) q region
  tables_same q region differ live spared = by (table_at (memory_of v) q region) refl (table_at (memory_of w) q region) refl
    where
      by : (x : Option ℕ) → table_at (memory_of v) q region ≡ x → (y : Option ℕ) → table_at (memory_of w) q region ≡ y
          → table_at (memory_of w) q region ≡ table_at (memory_of v) q region
      by (Some t) is y new = entry_stays (ended_by v e) v w q region t ends spared is ∙ sym is
      by None is None new = new ∙ sym is
      by None is (Some t) new = absurd (no_table_comes q region t differ live is new)

  -- who has a table is live
  has_table : (q region table : ℕ) → table_at (memory_of v) q region ≡ Some table → is_live v.state q ≡ true
  has_table q region table linked = grind (arith, from_then, lives)

  pub tables_stay : (q region table index : ℕ) → q ≢ e.pid → ends_in_region (ended_by v e) q region ≡ false
      → table_at (memory_of v) q region ≡ Some table → index < 1024
      → (table_at (memory_of w) q region ≡ Some table)
      × (word_of (memory_of w) table index ≡ word_of (memory_of v) table index)
  tables_stay q region table index differ spared linked inside =
      let live = has_table q region table linked in
      let new : table_at (memory_of w) q region ≡ Some table = tables_same q region differ live spared ∙ linked in
      let page : ℕ = region * 1024 + index in
      let of_region : slot_number page ≡ region = omega (arith, inside) in
      let at : index_number page ≡ index = omega (arith, inside) in
      let kept = region_spared (ended_by v e) q page (ap (ends_in_region (ended_by v e) q) of_region ∙ spared) in (
        new,
        two_words (word_of (memory_of w) table index) (word_of (memory_of v) table index)
            (later.image.memory.sound.table_words q region table index new inside)
            (before.image.memory.sound.table_words q region table index linked inside)
            (sym (slot_word w later q region table index page new of_region at) ∙ word_stays (at_page q page) differ live kept
            ∙ slot_word v before q region table index page linked of_region at),
      )

  -- where none of a region is ended, not all of its process is
  not_all : (x : Ended) (q region : ℕ) → ends_in_region x q region ≡ false → is_all_of x q ≡ false
  not_all x q region h = grind arith

  pub directories_stay : (q directory region : ℕ) → q ≢ e.pid → ends_in_region (ended_by v e) q region ≡ false
      → directory_at (memory_of v) q ≡ Some directory → region < 1024
      → (directory_at (memory_of w) q ≡ Some directory)
      × IsSameButAccessed (word_of (memory_of v) directory region) (word_of (memory_of w) directory region)
  directories_stay q directory region differ spared home inside = (new, by (is_user_slot region) refl)
    where
      new : directory_at (memory_of w) q ≡ Some directory
      new = ends.directories q directory (not_all (ended_by v e) q region spared) home

      a : ℕ
      a = word_of (memory_of v) directory region

      b : ℕ
      b = word_of (memory_of w) directory region

      named : (u : View) → directory_at (memory_of u) q ≡ Some directory → is_user_slot region ≡ true
          → table_at (memory_of u) q region
          ≡ (if is_present (word_of (memory_of u) directory region) then Some (frame_number (word_of (memory_of u) directory region)) else None)
      named u is user = grind arith

      by : (c : Bool) → is_user_slot region ≡ c → IsSameButAccessed a b
      by true user =
          two_dir_words a b (before.image.memory.sound.directory_words q directory region home inside)
          (later.image.memory.sound.directory_words q directory region new inside)
          (sym (named v home user) ∙ sym (tables_same q region differ (lives v before q directory home) spared) ∙ named w new user)
      by false out = grind (arith, a, b, new)

  -- ---- Pages
  -- no store goes into a page that its process doesn't have
  not_into : (slot : Slot) (f place : ℕ) → slot.pid ≢ e.pid → page_frame (memory_of v) slot ≡ Some f
      → HasNone (memory_of v) e.pid f → IsStoreInto v.state (next v.state e) e slot place → ⊥
  not_into slot f place differ at none into = by (is_lazy k.word) refl
    where
      own : Slot
      own = slot_at e.pid into.byte

      k : Mapped v own
      k = mapped_slot v before own (ap is_some into.through)

      same : into.own ≡ k.cell
      same = let c : Some into.own ≡ Some k.cell = sym into.through ∙ k.mapped in cc

      shared : IsTrue (set.contains k.cell.holders slot)
      shared = subst (λ (c : Cell). IsTrue (set.contains c.holders slot)) same into.shared

      by : (b : Bool) → is_lazy k.word ≡ b → ⊥
      by true lazy = grind (arith, own, k, shared)
      by false real = grind (arith, own, k, shared, own_is)

  -- a slot that has a word is mapped
  word_mapped : (slot : Slot) (word : ℕ) → page_word (memory_of v) slot ≡ Some word
      → is_some (map.get v.state.spaces slot) ≡ true
  word_mapped slot word is = grind arith

  pub pages_stay : (slot : Slot) (f : ℕ) → page_frame (memory_of v) slot ≡ Some f → HasNone (memory_of v) e.pid f
      → frame_bytes w.bytes f ≡ frame_bytes v.bytes f
  pages_stay slot f at none =
      sym (ap (frame_bytes w.bytes) (ap frame_number (same_word slot differ spared m) ∙ on_frame)) ∙ sym o.stands.bytes
      ∙ bytes ∙ m.stands.bytes ∙ ap (frame_bytes v.bytes) on_frame
    where
      x : (word : ℕ) × (page_word (memory_of v) slot ≡ Some word) × (own_frame 2 word ≡ Some f)
      x = from_then (own_frame 2) (page_word (memory_of v) slot) f at

      real : (is_lazy x.0 ≡ false) × (frame_number x.0 ≡ f)
      real = owned x.0 f x.2

      differ : slot.pid ≢ e.pid
      differ is = none slot.page (ap (λ n. page_frame (memory_of v) (at_page n slot.page)) (sym is) ∙ at)

      spared : is_ended (ended_by v e) slot ≡ false
      spared = event_spares v e slot differ (ap (λ (y : Option ℕ). unwrap_or (option_map is_lazy y) false) x.1 ∙ real.0)

      m : Mapped v slot
      m = mapped_slot v before slot (word_mapped slot x.0 x.1)

      o : Mapped w slot
      o = mapped_slot w later slot (ends.slots slot spared (ap is_some m.mapped))

      on_frame : frame_number m.word ≡ f
      on_frame = let c : Some m.word ≡ Some x.0 = sym m.there ∙ x.1 in let w : m.word ≡ x.0 = cc in ap frame_number w ∙ real.1

      byte : (place : ℕ) → slice_index o.cell.bytes place ≡ slice_index m.cell.bytes place
      byte place = elim ((changes_are_rightful v.state e slot m.cell o.cell before.well_formed m.mapped
          (sym (ap (λ (s : State). map.get s.spaces slot) state) ∙ o.mapped)).bytes place) [
            | inl same ↦ same
            | inr into ↦ absurd (not_into slot f place differ at none into)
          ]

      bytes : o.cell.bytes ≡ m.cell.bytes
      bytes =
          let long = (later.well_formed.cells slot o.cell o.mapped).long in
          let also = (before.well_formed.cells slot m.cell m.mapped).long in
          same_lists o.cell.bytes m.cell.bytes (long ∙ sym also)
          (λ k d l. get_or_default o.cell.bytes k d 0 l ∙ byte k
          ∙ get_or_default m.cell.bytes k 0 d (omega (arith, l, long, also)))

  pub zero_stays : frame_bytes w.bytes 0 ≡ frame_bytes v.bytes 0
  zero_stays = later.image.memory.sound.zero_frame ∙ sym before.image.memory.sound.zero_frame

  -- ---- By frames
  -- a region that leads to a frame which the event may not write isn't ended
  region_stays : (q region : ℕ) → q ≢ e.pid → (TakesLazy v e q region → ⊥) → ends_in_region (ended_by v e) q region ≡ false
  region_stays q region differ none = by (ends_in_region (ended_by v e) q region) refl
    where
      by : (b : Bool) → ends_in_region (ended_by v e) q region ≡ b → ends_in_region (ended_by v e) q region ≡ false
      by false is = is
      by true is = absurd (none (ended_takes v e q region differ is))

  pub writes : WritesItsOwn v w e
  writes f may = by (slice_get v.roles f) refl
    where
      by : (x : Option Role) → slice_get v.roles f ≡ x → StandsAsBefore v w f x
      by None is = tt
      by (Some Reserved) is =
          let z : f ≡ 0 = (before.image.memory.sound.reserved f (slice_get_within v.roles f Reserved is)).0 is in
          ap (frame_bytes w.bytes) z ∙ zero_stays ∙ sym (ap (frame_bytes v.bytes) z)
      by (Some Free) is = absurd (may (inl is))
      by (Some (Directory q)) is =
          let home = (before.image.memory.sound.directories f q).0 is in
          let differ : q ≢ e.pid = λ same. may (inr (inl (inl (sym (ap (directory_at (memory_of v)) same) ∙ home)))) in
          λ index inside.
          (directories_stay q f index differ
          (region_stays q index differ (λ takes. may (inr (inr (record { giver = q; region = index; takes = takes; leads = inl home })))))
          home inside).1
      by (Some (Table q s)) is =
          let linked = (before.image.memory.sound.tables f q s).0 is in
          let differ : q ≢ e.pid = λ same. may (inr (inl (inr (inl (s, sym (ap (λ n. table_at (memory_of v) n s) same) ∙ linked))))) in
          λ index inside.
          (tables_stay q s f index differ
          (region_stays q s differ (λ takes. may (inr (inr (record { giver = q; region = s; takes = takes; leads = inr linked })))))
          linked inside).1
      by (Some (Page c)) is =
          let counted = before.image.memory.sound.counts f c is in
          let up = counted.0 in
          let count = counted.1.count in
          let slot = some_member counted.1.members (omega (arith, up, count)) in
          pages_stay slot.0 f ((counted.1.are slot.0).0 slot.1) (λ page own. may (inr (inl (inr (inr (page, own))))))

pub events_write_their_own : EventsWriteTheirOwn
events_write_their_own = writes
