-- What a walk reads while an event that only takes away isn't in the order, was read before the event.
use Rattle.shootdowns.proofs.Prelude.{◌≡◌, ℕ, ◌<◌, ◌^◌, true, false, ap, sym, ◌∙◌, Option, Some, None, unwrap_or, not, Ok, page_number, frame_number, Access, Read, Write, walk_of, directory_at, table_at, page_word, is_lazy_at, Slot, Cell, at_page, slot_at, cell_or_fresh, fresh, way_of, WalkEndsBy, way_parts, from_map, memory_of, State, View, next, IsCore, Kept, Translation, IsGiven, translation, directory_entry, IsRead, Event, walks_of, ways_of, walk_takes, only_takes, subst, ◌&&◌, MatchBool, not_allowed, FindsBytes, lacks_right, both_true}
use Rattle.page_words.specs.FiniteMap as map
use Rattle.shootdowns.proofs.Accesses.{frame_at, frame_is, word_mapped, real_by}
use Rattle.shootdowns.proofs.Alike.{AlikeCell, Alike, with_state}
use Rattle.shootdowns.proofs.Untouched.{Was, was}

module _ (v : View) (before : IsCore v) (s : State) (alike : Alike v.state s) (e : Event) (takes : only_takes e.call ≡ true) (w : View) (core : IsCore w) (state : w.state ≡ next s e)
    (names : (slot : Slot) (word : ℕ) → page_word (memory_of w) slot ≡ Some word → frame_at v slot ≡ frame_number word)
    (homes : (slot : Slot) (word d : ℕ) → page_word (memory_of w) slot ≡ Some word → directory_at (memory_of w) slot.pid ≡ Some d → directory_at (memory_of v) slot.pid ≡ Some d)
    (tables : (p region t : ℕ) → table_at (memory_of w) p region ≡ Some t → table_at (memory_of v) p region ≡ Some t) where
  module _ (k : Translation) (given : IsGiven w k) where
    old : Was s k.slot given.cell
    old = was s e k.slot given.cell takes (sym (ap (λ (z : State). map.get z.spaces k.slot) state) ∙ given.mapped)

    first : (c : Cell) × (map.get v.state.spaces k.slot ≡ Some c) × AlikeCell c old.cell
    first = alike.back k.slot old.cell old.there

    word : (n : ℕ) × (page_word (memory_of w) k.slot ≡ Some n)
    word = word_mapped w core k.slot given.cell given.mapped

    live : directory_at (memory_of v) k.slot.pid ≡ Some given.directory
    live = homes k.slot word.0 given.directory word.1 given.live

    -- the word leads to the frame
    leads : (a f : ℕ) (access : Access) → a < 2 ^ 32 → page_number a ≡ k.slot.page → walk_of w.bytes given.directory a access ≡ Ok f → frame_at v k.slot ≡ f
    leads a f access small here found =
        let way : way_of (memory_of w) k.slot ≡ Some (given.directory, f) =
        sym (ap (λ n. way_of (memory_of w) (at_page k.slot.pid n)) here) ∙ (ways_of core).lead k.slot.pid given.directory a f access given.live small found in
        let parts = way_parts (memory_of w) k.slot given.directory f way in
        let n = from_map frame_number (page_word (memory_of w) k.slot) f parts.names in
        names k.slot n.0 n.1 ∙ n.2

    -- and did before
    led : (a f : ℕ) (access : Access) → a < 2 ^ 32 → page_number a ≡ k.slot.page → walk_of v.bytes given.directory a access ≡ Ok f → f ≡ frame_at v k.slot
    led a f access small here found =
        let way : way_of (memory_of v) k.slot ≡ Some (given.directory, f) =
        sym (ap (λ n. way_of (memory_of v) (at_page k.slot.pid n)) here) ∙ (ways_of before).lead k.slot.pid given.directory a f access live small found in
        let parts = way_parts (memory_of v) k.slot given.directory f way in
        let n = from_map frame_number (page_word (memory_of v) k.slot) f parts.names in
        sym (frame_is v k.slot n.0 n.1 ∙ n.2)

    there : (a : ℕ) → page_number a ≡ k.slot.page → map.get v.state.spaces (slot_at k.slot.pid a) ≡ Some first.0
    there a here = ap (λ n. map.get v.state.spaces (at_page k.slot.pid n)) here ∙ first.1

    read : (a : ℕ) → a < 2 ^ 32 → page_number a ≡ k.slot.page → walk_of v.bytes given.directory a Read ≡ Ok k.frame
    read a small here = by (map.get v.state.spaces (slot_at k.slot.pid a)) (there a here) (walks_of before k.slot.pid given.directory a Read live small)
      where
        by : (z : Option Cell) → z ≡ Some first.0 → WalkEndsBy v.bytes given.directory a Read (is_lazy_at (memory_of v) (slot_at k.slot.pid a)) z → walk_of v.bytes given.directory a Read ≡ Ok k.frame
        by None l h = cc
        by (Some c) l h = h.found ∙ ap Ok (led a h.frame Read small here h.found ∙ leads a k.frame Read small here (given.read a small here))

    -- a lazy page is lazy on both sides
    lazies : (a : ℕ) → a < 2 ^ 32 → page_number a ≡ k.slot.page → is_lazy_at (memory_of v) (slot_at k.slot.pid a) ≡ is_lazy_at (memory_of w) (slot_at k.slot.pid a)
    lazies a small here =
        (ways_of before).lazy (slot_at k.slot.pid a) given.directory k.frame ((ways_of before).lead k.slot.pid given.directory a k.frame Read live small (read a small here))
        ∙ sym ((ways_of core).lazy (slot_at k.slot.pid a) given.directory k.frame ((ways_of core).lead k.slot.pid given.directory a k.frame Read given.live small (given.read a small here)))

    written : k.write ≡ true → (a : ℕ) → a < 2 ^ 32 → page_number a ≡ k.slot.page → walk_of v.bytes given.directory a Write ≡ Ok k.frame
    written writes a small here =
        by (map.get v.state.spaces (slot_at k.slot.pid a)) (there a here) (walks_of before k.slot.pid given.directory a Write live small)
      where
        cell_writes : given.cell.write ≡ true
        cell_writes =
            let r = both_true (cell_or_fresh w.state.spaces (slot_at k.slot.pid a)).write (not (is_lazy_at (memory_of w) (slot_at k.slot.pid a)))
            (both_true (map.contains_key w.state.spaces (slot_at k.slot.pid a)) _ (walk_takes w core k.slot.pid given.directory a k.frame given.live small (given.written writes a small here))).1 in
            sym (ap (λ (z : Option Cell). (unwrap_or z (fresh (slot_at k.slot.pid a) true)).write) (ap (λ n. map.get w.state.spaces (at_page k.slot.pid n)) here ∙ given.mapped)) ∙ r.0

        before_writes : first.0.write ≡ true
        before_writes = sym first.2.write ∙ old.write cell_writes

        real : is_lazy_at (memory_of v) (slot_at k.slot.pid a) ≡ false
        real =
            let r = both_true (cell_or_fresh w.state.spaces (slot_at k.slot.pid a)).write (not (is_lazy_at (memory_of w) (slot_at k.slot.pid a)))
            (both_true (map.contains_key w.state.spaces (slot_at k.slot.pid a)) _ (walk_takes w core k.slot.pid given.directory a k.frame given.live small (given.written writes a small here))).1 in
            lazies a small here ∙ real_by (is_lazy_at (memory_of w) (slot_at k.slot.pid a)) r.1

        by : (z : Option Cell) → z ≡ Some first.0 → WalkEndsBy v.bytes given.directory a Write (is_lazy_at (memory_of v) (slot_at k.slot.pid a)) z → walk_of v.bytes given.directory a Write ≡ Ok k.frame
        by None l h = cc
        by (Some c) l h =
            let q : c ≡ first.0 = cc in
            let lacks : lacks_right Write (is_lazy_at (memory_of v) (slot_at k.slot.pid a)) c ≡ false =
            (λ i. not ((ap (λ (z : Cell). z.write) q ∙ before_writes) i && not (real i))) in
            let finds = subst (λ b. MatchBool b (walk_of v.bytes given.directory a Write ≡ not_allowed a Write) (FindsBytes v.bytes given.directory a Write c)) lacks h in
            finds.found ∙ ap Ok (led a finds.frame Write small here finds.found ∙ leads a k.frame Write small here (given.written writes a small here))

    given_before : IsGiven (with_state v s) k
    given_before = record {
      page = given.page;
      directory = given.directory;
      live = live;
      read = read;
      written = written;
      cell = old.cell;
      mapped = old.there;
      accessed = sym old.accessed ∙ given.accessed;
      dirty = λ h. sym old.dirty ∙ given.dirty h;
    }

  pub read_before : (k : Kept) → IsRead w k → IsRead (with_state v s) k
  read_before (translation k) given = given_before k given
  read_before (directory_entry k) linked = tables k.pid k.region k.table linked
