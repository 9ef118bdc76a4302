-- Stores by what was kept before dirty was set, while an event that takes at most the right to write isn't in the order.
use Rattle.shootdowns.proofs.Prelude.{◌≡◌, ◌≢◌, ℕ, Bool, arith, true, false, List, [], ◌∷◌, length, refl, ap, sym, ◌∙◌, subst, Option, Some, None, ◌+◌, ◌<◌, ◌≤◌, ◌^◌, unwrap_or, ◌&&◌, IfSome, option_map, slice_get_within, slot_number, byte_count, EachTouched, page_number, index_number, second_page, same_map, frame_number, with_flag, is_lazy, is_accessed, frame_bytes, word_at, word_place, with_word, Role, Page, Reserved, table_at, page_word, is_lazy_at, takes_stores, Slot, Cell, Spaces, slot_order, at_page, fresh, memory_of, State, is_live, is_mapped, View, IsWellFormed, ServesEvent, bytes_kept, Serves, ServesCall, reply_kept, answer, next, answer_of, after, completes, IsCore, Processors, AllAreRead, Kept, AreRead, IsGiven, Call, Event, Reply, Ended, read_at, kept-next, goes_frameless, told_planned, only_takes, Acknowledged, usable, under_way, takes_right, LetsWrite, LetStore, IsStaleClean, with_dirty, all_dirty, Size, same, Write, touched_user, plan_at, takes_no_frame, each_page, walk_completes, goes-call, next-goes}
use Rattle.std.proofs.Common.{not}
use Rattle.std.specs.Prelude.{is_some}
use Rattle.shootdowns.proofs.Accesses.{frame_at, word_mapped, table_of_word, lazy_zero, role_served, frame_served, takes_served, served_live, frame_is}
use Rattle.shootdowns.proofs.Alike.{Alike, with_state, FlagsGrow, flags_read, alike_then}
use Rattle.shootdowns.proofs.Filled.{fill, filled_state, get_filled}
use Rattle.shootdowns.proofs.Onward.{stands_at}
use Rattle.shootdowns.proofs.Turned.{Grows, Has}
use Rattle.page_words.proofs.Accesses.{some_bytes}
use Rattle.std.proofs.lemmas.Bool.Decides.{nat_tests}
use Rattle.shootdowns.proofs.DirtyCells.{dirt, dirt_bytes, dirty_in, dirty_at, right_taken, get_dirty, grows_dirty, well_dirty, answer_dirty, next_dirty, after_store_dirty, HasDirty, own_dirty, still_dirty, right_keeps}
use Rattle.shootdowns.proofs.Dirtied.{frame_apart, other_frame, dirtied}
use Rattle.shootdowns.proofs.Remade.{Remade, remade, names_before, linked_before, all_same}
use Rattle.shootdowns.proofs.Standing.{Taken, Going, Good, IsOne, is_event}
use Rattle.shootdowns.proofs.StaleAccesses.{one_served}
use Rattle.page_words.specs.FiniteMap as map
use Rattle.kernel_calls.specs.declared.calls.Call.TheVariants as call
use Rattle.kernel_calls.specs.declared.calls.Reply.TheVariants as reply

-- what is kept with dirty, where dirty is set by now
dirty_given : (v : View) (s : State) (at : Slot) (frame : ℕ) (dirty : Bool) → HasDirty s at
    → IsGiven (with_state v s) (record { slot = at; frame = frame; write = true; dirty = dirty }) → IsGiven (with_state v s) (record { slot = at; frame = frame; write = true; dirty = true })
dirty_given v s at frame dirty has g = record {
  page = g.page;
  directory = g.directory;
  live = g.live;
  read = g.read;
  written = g.written;
  cell = g.cell;
  mapped = g.mapped;
  accessed = g.accessed;
  dirty = λ _. has g.cell g.mapped;
}

dirty_serves : (v : View) (s : State) (kept : List Kept) (p page frame : ℕ) → AreRead (with_state v s) kept → LetsWrite kept p page frame → HasDirty s (at_page p page)
    → Serves (with_state v s) p page frame Write
dirty_serves v s kept p page frame all l has = record {
  kept = record { slot = at_page p page; frame = frame; write = true; dirty = true };
  given = dirty_given v s (at_page p page) frame l.dirty has (read_at (with_state v s) kept l.place _ all l.there);
  of_page = refl;
  on_frame = refl;
  written = λ _. (refl, refl);
}

module _ (x : Ended) (done : Acknowledged) (e : Event) (r : Reply) (keeps : Processors) (right : takes_right e.call ≡ true) (i : ℕ) where
  -- dirty is set in one page's word
  module _ (s : State) (w v : View) (g : Going x done e r s w keeps v) (size : length w.bytes ≤ 2 ^ 32) (p page frame : ℕ) (l : LetsWrite (keeps i) p page frame) where
    abbrev takes : only_takes e.call ≡ true
    takes = right_taken e.call right

    abbrev k : Taken v e s w keeps
    k = g.taken

    given : IsGiven (with_state v s) (record { slot = at_page p page; frame = frame; write = true; dirty = l.dirty })
    given = read_at (with_state v s) (keeps i) l.place _ (k.read i) l.there

    well_now : IsWellFormed (dirty_at (at_page p page) s)
    well_now = well_dirty (at_page p page) s given.cell given.mapped given.accessed k.well

    grows : Grows s.spaces (dirty_at (at_page p page) s).spaces
    grows = grows_dirty (at_page p page) s.spaces

    flags : FlagsGrow s (dirty_at (at_page p page) s)
    flags slot c there = let d = grows.cells slot c there in (d.0, d.1, d.3.0, d.3.1)

    alike : Alike v.state (dirty_at (at_page p page) s)
    alike = alike_then v.state s (dirty_at (at_page p page) s) k.alike
        (record { book = refl; cells = λ slot c there. (let d = grows.cells slot c there in (d.0, d.1, d.2)); back = grows.back })

    read : AllAreRead (with_state v (dirty_at (at_page p page) s)) keeps
    read j = flags_read v s (dirty_at (at_page p page) s) flags (keeps j) (k.read j)

    serves : Serves (with_state v (dirty_at (at_page p page) s)) p page frame Write
    serves = dirty_serves v (dirty_at (at_page p page) s) (keeps i) p page frame (read i) l (own_dirty (at_page p page) s)

    -- the page's word
    mapped : (d : Cell) × (map.get w.state.spaces (at_page p page) ≡ Some d) × (d.accessed ≡ given.cell.accessed)
    mapped =
        let d = right_keeps s e right (at_page p page) given.cell given.mapped in
        (d.0, ap (λ (z : State). map.get z.spaces (at_page p page)) g.stands.2 ∙ d.1, d.2)

    word : (n : ℕ) × (page_word (memory_of w) (at_page p page) ≡ Some n)
    word = word_mapped w g.stands.0 (at_page p page) mapped.0 mapped.1

    table : (f : ℕ) × (table_at (memory_of w) p (slot_number page) ≡ Some f)
    table = table_of_word w (at_page p page) word.0 word.1

    touched : is_accessed word.0 ≡ true
    touched = sym (stands_at w g.stands.0 (at_page p page) mapped.0 word.0 mapped.1 word.1).accessed ∙ mapped.2 ∙ given.accessed

    real : is_lazy word.0 ≡ false
    real = by (is_lazy word.0) refl
      where
        by : (b : Bool) → is_lazy word.0 ≡ b → is_lazy word.0 ≡ false
        by false is = is
        by true is = absurd (
            let zero = lazy_zero w g.stands.0 (at_page p page) word.0 word.1 is in
            let role = role_served v k.before (dirty_at (at_page p page) s) alike well_now p page frame serves in
            let within = slice_get_within v.roles frame (Page role.0) role.1 in
            let none : frame ≡ 0 = sym (frame_served v k.before (dirty_at (at_page p page) s) alike well_now p page frame Write serves) ∙ k.names (at_page p page) word.0 word.1 ∙ zero in
            let r : ◌≡◌ {A = Option Role} (Some Reserved) (Some (Page role.0)) = sym ((k.before.image.memory.sound.reserved frame within).1 none) ∙ role.1 in
            cc)

    cells : (slot : Slot) → map.get (next (dirty_at (at_page p page) s) e).spaces slot ≡ option_map (dirt (same slot_order (at_page p page) slot)) (map.get w.state.spaces slot)
    cells slot = grind (arith, next_dirty, get_dirty, dirt)

    book : (next (dirty_at (at_page p page) s) e).book ≡ w.state.book
    book = ap (λ (z : State). z.book) (next_dirty (at_page p page) s e right) ∙ sym (ap (λ (z : State). z.book) g.stands.2)

    well_after : IsWellFormed (next (dirty_at (at_page p page) s) e)
    well_after = (kept-next (dirty_at (at_page p page) s) e well_now).0

    abbrev byte_list : List ℕ
    byte_list = with_word w.bytes (word_place table.0 (index_number page)) (with_flag (word_at w.bytes (word_place table.0 (index_number page))) 6 true)

    dirtied_now : Remade w (frame_at w) (same slot_order (at_page p page)) (next (dirty_at (at_page p page) s) e) byte_list
    dirtied_now = dirtied w g.stands.0 size p page table.0 word.0 (next (dirty_at (at_page p page) s) e) table.1 word.1 real touched book well_after cells

    core : IsCore (record w { bytes = byte_list; state = next (dirty_at (at_page p page) s) e })
    core = remade w g.stands.0 (frame_at w) (same slot_order (at_page p page)) (next (dirty_at (at_page p page) s) e) byte_list dirtied_now

    -- the frame of a cell of the order isn't that of the table
    apart : (slot : Slot) (c : Cell) → map.get s.spaces slot ≡ Some c → frame_at v slot ≢ table.0
    apart slot c there same =
        let old = k.alike.back slot c there in
        let n = word_mapped v k.before slot old.0 old.1 in
        let linked = k.tables p (slot_number page) table.0 table.1 in
        frame_apart v k.before slot n.0 n.1 p (slot_number page) table.0 linked (sym (frame_is v slot n.0 n.1) ∙ same)

    full : dirty_at (at_page p page) s ≡ filled_state (frame_at v) byte_list (dirty_at (at_page p page) s)
    full = ap (λ (S : Spaces). record s { spaces = S }) (same_map _ _ (λ slot.
        get_dirty (at_page p page) s.spaces slot ∙ by slot (map.get s.spaces slot) refl
        ∙ sym (get_filled (frame_at v) byte_list (dirty_in (at_page p page) s.spaces) slot ∙ ap (option_map (fill (frame_at v) byte_list slot)) (get_dirty (at_page p page) s.spaces slot))))
      where
        own : (slot : Slot) (c : Cell) → map.get s.spaces slot ≡ Some c → c.bytes ≡ frame_bytes byte_list (frame_at v slot)
        own slot c there =
            let again : Some c ≡ Some (fill (frame_at v) w.bytes slot c) = sym there ∙ ap (λ (z : State). map.get z.spaces slot) k.state
            ∙ get_filled (frame_at v) w.bytes s.spaces slot ∙ ap (option_map (fill (frame_at v) w.bytes slot)) there in
            let is : c ≡ fill (frame_at v) w.bytes slot c = cc in
            ap (λ (z : Cell). z.bytes) is
            ∙ sym (other_frame w g.stands.0 size p page table.0 word.0 (next (dirty_at (at_page p page) s) e) table.1 word.1 real touched book well_after cells (frame_at v slot) (apart slot c there))

        put : (b : Bool) (slot : Slot) (c : Cell) → c.bytes ≡ frame_bytes byte_list (frame_at v slot) → dirt b c ≡ fill (frame_at v) byte_list slot (dirt b c)
        put b slot c is j = record (dirt b c) { bytes = (dirt_bytes b c ∙ is) j }

        by : (slot : Slot) (z : Option Cell) → map.get s.spaces slot ≡ z
            → option_map (dirt (same slot_order (at_page p page) slot)) (map.get s.spaces slot)
            ≡ option_map (fill (frame_at v) byte_list slot) (option_map (dirt (same slot_order (at_page p page) slot)) (map.get s.spaces slot))
        by slot None is = grind (arith, dirt, fill, frame_at)
        by slot (Some c) is =
            ap (option_map (dirt (same slot_order (at_page p page) slot))) is
            ∙ ap (λ (c : Cell). Some c) (put (same slot_order (at_page p page) slot) slot c (own slot c is))
            ∙ sym (ap (λ (z : Option Cell). option_map (fill (frame_at v) byte_list slot) (option_map (dirt (same slot_order (at_page p page) slot)) z)) is)

    names : (slot : Slot) (n : ℕ) → page_word (memory_of (record w { bytes = byte_list; state = next (dirty_at (at_page p page) s) e })) slot ≡ Some n
        → (m : ℕ) × (page_word (memory_of w) slot ≡ Some m) × (frame_number m ≡ frame_number n)
    names = names_before w g.stands.0 (frame_at w) (same slot_order (at_page p page)) (next (dirty_at (at_page p page) s) e) byte_list dirtied_now

    long_now : length byte_list ≡ length w.bytes
    long_now = dirtied_now.long

    taken : Taken v e (dirty_at (at_page p page) s) (record w { bytes = byte_list; state = next (dirty_at (at_page p page) s) e }) keeps
    taken = record {
      behind = record {
        before = k.before;
        well = well_now;
        alike = alike;
        state = full;
        names = λ slot n is. (let m = names slot n is in k.names slot m.0 m.1 ∙ m.2);
        homes = λ slot n d is live. (let m = names slot n is in k.homes slot m.0 d m.1 live);
        tables = λ q region f is. k.tables q region f
            (linked_before w g.stands.0 (frame_at w) (same slot_order (at_page p page)) (next (dirty_at (at_page p page) s) e) byte_list dirtied_now q region f is);
        pages = k.pages;
        long = long_now ∙ k.long;
      };
      read = read;
    }

    going_so : Going x done e r (dirty_at (at_page p page) s) (record w { bytes = byte_list; state = next (dirty_at (at_page p page) s) e }) keeps v
    going_so = record {
      stands = (
        core,
        λ j. all_same w g.stands.0 (frame_at w) (same slot_order (at_page p page)) (next (dirty_at (at_page p page) s) e) byte_list dirtied_now (usable x done keeps j) (g.stands.1 j),
        refl,
        g.stands.3 ∙ sym (answer_dirty (at_page p page) s e right),
      );
      taken = taken;
    }

    -- in the table that the directory names
    there : byte_list ≡ with_dirty w p page
    there = grind (arith, table)

    one_page : Going x done e r (dirty_at (at_page p page) s) (record w { bytes = with_dirty w p page; state = next (dirty_at (at_page p page) s) e }) keeps v
    one_page = subst (λ (b : List ℕ). Going x done e r (dirty_at (at_page p page) s) (record w { bytes = b; state = next (dirty_at (at_page p page) s) e }) keeps v) there going_so

    same_long : length (with_dirty w p page) ≡ length w.bytes
    same_long = sym (ap length there) ∙ long_now

  -- ---- The store

  module _ (a : Event) (addr : ℕ) (size : Size) (value : ℕ) (is : a.call ≡ call.Store addr size value) where
    -- what is needed of a state in which the store completes
    record Takes (v : View) (z : State) : Type 0 where
      alike : Alike v.state z
      well : IsWellFormed z
      live : is_live z a.pid ≡ true
      pages : EachTouched addr size (λ page. takes_stores v.state.spaces (memory_of v) (at_page a.pid page) ≡ true)

    page_takes : (v : View) (z : State) → Alike v.state z → (slot : Slot) → takes_stores v.state.spaces (memory_of v) slot ≡ true
        → (Has z.spaces slot) × (takes_stores z.spaces (memory_of v) slot ≡ true)
    page_takes v z alike slot takes = by (map.get v.state.spaces slot) refl takes
      where
        by : (y : Option Cell) → map.get v.state.spaces slot ≡ y
            → (is_some y && ((unwrap_or y (fresh slot true)).write && not (is_lazy_at (memory_of v) slot))) ≡ true
            → (Has z.spaces slot) × (takes_stores z.spaces (memory_of v) slot ≡ true)
        by None at h = cc
        by (Some c) at h =
            let d = alike.cells slot c at in (
              (d.0, d.1),
              ap (λ (y : Option Cell). is_some y && ((unwrap_or y (fresh slot true)).write && not (is_lazy_at (memory_of v) slot))) d.1
                  ∙ ap (λ b. b && not (is_lazy_at (memory_of v) slot)) d.2.write ∙ h,
            )

    module _ (v : View) (z : State) (t : Takes v z) where
      has_pages : EachTouched addr size (λ page. Has z.spaces (at_page a.pid page))
      has_pages = each_page addr size (λ page. takes_stores v.state.spaces (memory_of v) (at_page a.pid page) ≡ true) (λ page. Has z.spaces (at_page a.pid page))
          (λ page h. (page_takes v z t.alike (at_page a.pid page) h).0) t.pages

      abbrev gz : View
      gz = record { state = z; directories = v.directories; bytes = v.bytes; roles = v.roles }

      frameless_store : takes_no_frame (plan_at gz a.pid addr size Write) ≡ true
      frameless_store =
          let mapped = each_page addr size (λ page. Has z.spaces (at_page a.pid page)) (λ page. is_mapped z (at_page a.pid page) ≡ true) (λ page h. ap is_some h.1) has_pages in
          walk_completes gz a.pid addr size Write (touched_user z a.pid addr size t.well mapped) mapped
          (λ _. each_page addr size (λ page. takes_stores v.state.spaces (memory_of v) (at_page a.pid page) ≡ true) (λ page. takes_stores z.spaces (memory_of v) (at_page a.pid page) ≡ true)
          (λ page h. (page_takes v z t.alike (at_page a.pid page) h).1) t.pages)

      goes_store : completes (answer_of z a.pid (call.Store addr size value)) ≡ true
      goes_store = sym (goes-call gz a.pid (call.Store addr size value)) ∙ goes_frameless (plan_at gz a.pid addr size Write) frameless_store

      answer_store : answer z a ≡ reply.Done
      answer_store = grind (arith, told_planned, goes_store)

      next_store : next z a ≡ after z a.pid (call.Store addr size value)
      next_store = next-goes z a (ap completes answer_store) ∙ ap (after z a.pid) is

    -- a page of the store
    record IsOfStore (n : ℕ) : Type 0 where
      byte : ℕ
      within : byte < byte_count size
      same : page_number (addr + byte) ≡ n

    -- dirty of a page of the store is set by it
    same_next : (v : View) (z : State) (n : ℕ) → Takes v z → Takes v (dirty_at (at_page a.pid n) z) → IsOfStore n → next (dirty_at (at_page a.pid n) z) a ≡ next z a
    same_next v z n t u o =
        next_store v (dirty_at (at_page a.pid n) z) u
        ∙ subst (λ m. after (dirty_at (at_page a.pid m) z) a.pid (call.Store addr size value) ≡ after z a.pid (call.Store addr size value)) o.same
        (after_store_dirty z a.pid addr size value o.byte o.within (has_pages v z t))
        ∙ sym (next_store v z t)

    first_of_store : IsOfStore (page_number addr)
    first_of_store = record { byte = 0; within = (let k = some_bytes size in omega (arith, k.1)); same = omega arith }

    second_of_store : (n : ℕ) → second_page addr size ≡ Some n → IsOfStore n
    second_of_store n h = grind (arith, nat_tests, some_bytes)

    module _ (s : State) (w v : View) (g : Going x done e r s w keeps v) (q : Reply) (bytes : List ℕ) (frames : ℕ → ℕ) (found : q ≡ reply.Done) where
      -- where dirty is set in all pages by now
      finish : (z : State) (b : List ℕ) → Going x done e r z (record w { bytes = b; state = next z e }) keeps v
          → EachTouched addr size (λ page. Serves (with_state v z) a.pid page (frames page) Write) → Takes v s → next z a ≡ next s a
          → bytes ≡ bytes_kept frames b (call.Store addr size value)
          → IsOne (under_way x done e r s w) (a ∷ []) (q ∷ []) (under_way x done e r (next s a) (record w { bytes = bytes; state = next (next s a) e })) keeps
      finish z b gz served t same left =
          let served_event : ServesEvent (with_state v z) frames a = subst (ServesCall (with_state v z) a.pid frames) (sym is) served in
          let o = one_served x done e r z (record w { bytes = b; state = next z e }) keeps (right_taken e.call right) v gz i a q bytes frames served_event
          (found ∙ sym (ap (reply_kept frames b) is)) (left ∙ sym (ap (bytes_kept frames b) is)) in
          is_event (under_way x done e r s w) (under_way x done e r (next s a) (record w { bytes = bytes; state = next (next s a) e })) a q keeps
          (found ∙ sym (answer_store v s t)) refl
          (subst (λ (y : State). Good (under_way x done e r y (record w { bytes = bytes; state = next y e })) keeps) same o.good)

      clean_store : length w.bytes ≤ 2 ^ 32 → EachTouched addr size (λ page. LetsWrite (keeps i) a.pid page (frames page))
          → bytes ≡ bytes_kept frames (all_dirty w a.pid (call.Store addr size value)) (call.Store addr size value)
          → IsOne (under_way x done e r s w) (a ∷ []) (q ∷ []) (under_way x done e r (next s a) (record w { bytes = bytes; state = next (next s a) e })) keeps
      clean_store short l left = by (second_page addr size) refl l.1 left
        where
          s1 : State
          s1 = dirty_at (at_page a.pid (page_number addr)) s

          b1 : List ℕ
          b1 = with_dirty w a.pid (page_number addr)

          g1 : Going x done e r (dirty_at (at_page a.pid (page_number addr)) s) (record w { bytes = with_dirty w a.pid (page_number addr); state = next (dirty_at (at_page a.pid (page_number addr)) s) e }) keeps v
          g1 = one_page s w v g short a.pid (page_number addr) (frames (page_number addr)) l.0

          serves1 : Serves (with_state v s1) a.pid (page_number addr) (frames (page_number addr)) Write
          serves1 = dirty_serves v s1 (keeps i) a.pid (page_number addr) (frames (page_number addr)) (g1.taken.read i) l.0 (own_dirty (at_page a.pid (page_number addr)) s)

          takes_of : (z : State) {u : View} → Going x done e r z u keeps v → EachTouched addr size (λ page. Serves (with_state v z) a.pid page (frames page) Write) → Takes v z
          takes_of z gz served = record {
            alike = gz.taken.alike;
            well = gz.taken.well;
            live = served_live v gz.taken.before z gz.taken.alike gz.taken.well w.bytes frames a (subst (ServesCall (with_state v z) a.pid frames) (sym is) served);
            pages = each_page addr size (λ page. Serves (with_state v z) a.pid page (frames page) Write) (λ page. takes_stores v.state.spaces (memory_of v) (at_page a.pid page) ≡ true)
                (λ page k. takes_served v gz.taken.before z gz.taken.alike gz.taken.well a.pid page (frames page) k) served;
          }

          takes_back : is_live s a.pid ≡ true → EachTouched addr size (λ page. takes_stores v.state.spaces (memory_of v) (at_page a.pid page) ≡ true) → Takes v s
          takes_back live pages = record { alike = g.taken.alike; well = g.taken.well; live = live; pages = pages }

          by : (y : Option ℕ) → second_page addr size ≡ y → IfSome y (λ page. LetsWrite (keeps i) a.pid page (frames page))
              → bytes ≡ bytes_kept frames (unwrap_or (option_map (with_dirty (record w { bytes = with_dirty w a.pid (page_number addr) }) a.pid) y) (with_dirty w a.pid (page_number addr))) (call.Store addr size value)
              → IsOne (under_way x done e r s w) (a ∷ []) (q ∷ []) (under_way x done e r (next s a) (record w { bytes = bytes; state = next (next s a) e })) keeps
          by None none more left =
              let served : EachTouched addr size (λ page. Serves (with_state v s1) a.pid page (frames page) Write) =
              (serves1, subst (λ (y : Option ℕ). IfSome y (λ page. Serves (with_state v s1) a.pid page (frames page) Write)) (sym none) tt) in
              let z = takes_of s1 g1 served in
              let t = takes_back z.live z.pages in
              finish s1 b1 g1 served t (same_next v s (page_number addr) t z first_of_store) left
          by (Some m) some more left =
              let s2 : State = dirty_at (at_page a.pid m) s1 in
              let w1 : View = record w { bytes = with_dirty w a.pid (page_number addr); state = next s1 e } in
              let short1 : length (with_dirty w a.pid (page_number addr)) ≤ 2 ^ 32 =
              (let e = same_long s w v g short a.pid (page_number addr) (frames (page_number addr)) l.0 in omega (arith, e, short)) in
              let g2 = one_page s1 w1 v g1 short1 a.pid m (frames m) more in
              let first_serves = dirty_serves v s2 (keeps i) a.pid (page_number addr) (frames (page_number addr)) (g2.taken.read i) l.0
              (still_dirty (at_page a.pid m) (at_page a.pid (page_number addr)) s1 (own_dirty (at_page a.pid (page_number addr)) s)) in
              let second_serves = dirty_serves v s2 (keeps i) a.pid m (frames m) (g2.taken.read i) more (own_dirty (at_page a.pid m) s1) in
              let served : EachTouched addr size (λ page. Serves (with_state v s2) a.pid page (frames page) Write) =
              (first_serves, subst (λ (y : Option ℕ). IfSome y (λ page. Serves (with_state v s2) a.pid page (frames page) Write)) (sym some) second_serves) in
              let z = takes_of s2 g2 served in
              let t = takes_back z.live z.pages in
              let t1 : Takes v s1 = record { alike = g1.taken.alike; well = g1.taken.well; live = z.live; pages = z.pages } in
              finish s2 (with_dirty w1 a.pid m) g2 served t
              (same_next v s1 m t1 z (second_of_store m some) ∙ same_next v s (page_number addr) t t1 first_of_store) left

  pub one_clean : (s : State) (w v : View) → Going x done e r s w keeps v → (a : Event) (q : Reply) (bytes : List ℕ) → IsStaleClean (keeps i) w a q bytes
      → IsOne (under_way x done e r s w) (a ∷ []) (q ∷ []) (under_way x done e r (next s a) (record w { bytes = bytes; state = next (next s a) e })) keeps
  one_clean s w v g a q bytes l = by a.call refl l.through l.found l.left
    where
      by : (c : Call) → a.call ≡ c → LetStore (keeps i) a.pid l.frames c → q ≡ reply_kept l.frames w.bytes c → bytes ≡ bytes_kept l.frames (all_dirty w a.pid c) c
          → IsOne (under_way x done e r s w) (a ∷ []) (q ∷ []) (under_way x done e r (next s a) (record w { bytes = bytes; state = next (next s a) e })) keeps
      by (call.Store addr size value) is through found left = clean_store a addr size value is s w v g q bytes l.frames found l.size through left
      by _ is through found left = absurd through
