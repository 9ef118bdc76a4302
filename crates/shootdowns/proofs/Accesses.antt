-- Accesses by what a processor keeps of an earlier memory, where the pages of that are still on their frames.
use Rattle.shootdowns.proofs.Prelude.{◌≡◌, ℕ, ◌+◌, ◌*◌, ◌<◌, ◌≤◌, ◌^◌, Bool, true, false, List, length, refl, ap, sym, ◌∙◌, subst, arith, Option, Some, unwrap_or, is_some, eqb-true, ◌&&◌, not, MatchBool, slice_get, slice_index, option_map, option_and_then, slice_get_within, page_number, offset_number, slot_number, start_number, byte_count, EachTouched, Size, ways_of, goes_frameless, told_planned, frame_number, is_lazy, frame_bytes, byte-frame, Page, Access, Read, Write, table_at, page_word, page_frame, is_lazy_at, takes_stores, SlotStands, CellStands, own_frame, kept_place, number_at, Slot, Cell, Spaces, at_page, slot_at, byte_at, value_of, bytes_of, cell_or_fresh, fresh, all_stored, way_of, IsThere, with_touched-same, way_parts, way_whole, from_map, from_then, owned, own_is, each_byte, same_each, memory_of, State, is_live, is_mapped, View, IsWellFormed, touched_user, plan_of, plan_at, takes_no_frame, each_page, walk_completes, Serves, ServesCall, ServesEvent, reply_kept, bytes_kept, answer, answer_of, after, next, completes, IsCore, Call, Event, goes-call, next-goes, small_page, live, leads, Touched, loaded_same, walk_takes, lives, Role, Reserved, both_true}
use Rattle.page_words.specs.FiniteMap as map
use Rattle.page_words.specs.FiniteSet as set
use Rattle.process_table.specs.Calls.{loaded}
use Rattle.process_table.specs.declared.causes.Cause.TheVariants as cause
use Rattle.kernel_calls.specs.Decisions.{plan_of_call}
use Rattle.kernel_calls.specs.declared.calls.Call.TheVariants as call
use Rattle.kernel_calls.specs.declared.calls.Reply.TheVariants as reply
use Rattle.shootdowns.proofs.Alike.{AlikeCell, Alike, with_state}
use Rattle.shootdowns.proofs.Filled.{fill, filled_state, get_filled}
use Rattle.shootdowns.proofs.Stored.{Held, length-written, all_put, frames_beside}

-- the frame that a slot's word names
abbrev pub frame_at : View → Slot → ℕ
frame_at v slot = unwrap_or (option_map frame_number (page_word (memory_of v) slot)) 0

pub frame_is : (v : View) (slot : Slot) (word : ℕ) → page_word (memory_of v) slot ≡ Some word → frame_at v slot ≡ frame_number word
frame_is v slot word is = ap (λ (y : Option ℕ). unwrap_or (option_map frame_number y) 0) is

pub real_by : (b : Bool) → not b ≡ true → b ≡ false
real_by x0 h = grind arith

-- a slot that is mapped has a word
pub word_mapped : (v : View) → IsCore v → (r : Slot) (d : Cell) → map.get v.state.spaces r ≡ Some d → (word : ℕ) × (page_word (memory_of v) r ≡ Some word)
word_mapped v core r d at = by (page_word (memory_of v) r) refl (map.get v.state.spaces r) at (core.image.memory.cells r)
  where
    by : (y : Option ℕ) → page_word (memory_of v) r ≡ y → (z : Option Cell) → z ≡ Some d → SlotStands (memory_of v) r y z → (word : ℕ) × (page_word (memory_of v) r ≡ Some word)
    by x0 is x2 k h = grind arith

-- in a table
pub table_of_word : (v : View) (r : Slot) (word : ℕ) → page_word (memory_of v) r ≡ Some word → (t : ℕ) × (table_at (memory_of v) r.pid (slot_number r.page) ≡ Some t)
table_of_word v r word is = grind (arith, from_then)

-- and a way
pub way_at : (v : View) (r : Slot) (word : ℕ) → page_word (memory_of v) r ≡ Some word → (d : ℕ) × (way_of (memory_of v) r ≡ Some (d, frame_number word))
way_at v r word is = grind (arith, from_then, way_whole, live)

-- the word of a lazy page names frame 0
pub lazy_zero : (v : View) → IsCore v → (r : Slot) (word : ℕ) → page_word (memory_of v) r ≡ Some word → is_lazy word ≡ true → frame_number word ≡ 0
lazy_zero v core r word is lazy = grind (arith, way_at, eqb-true, ways_of, unwrap_or)

module _ (v : View) (core : IsCore v) (base : State) (alike : Alike v.state base) (well : IsWellFormed base) (p : ℕ) where
  abbrev vs : View
  vs = with_state v base

  -- the word of a page that is served
  pub record OnFrame (page frame : ℕ) : Type 0 where
    pub word : ℕ
    pub there : page_word (memory_of v) (at_page p page) ≡ Some word
    pub names : frame_number word ≡ frame

  pub on_frame : (page frame : ℕ) (access : Access) → Serves vs p page frame access → OnFrame page frame
  on_frame page frame access s =
      let low = small_page vs p page frame access s in
      let a : ℕ = start_number page in
      let here : page_number a ≡ page = omega arith in
      let small : a < 2 ^ 32 = omega (arith, low) in
      let walk = leads vs p page frame a access s here in
      let way = way_parts (memory_of v) (slot_at p a) s.given.directory frame
      ((ways_of core).lead p s.given.directory a frame access (live vs p page frame access s) small walk) in
      let word = from_map frame_number (page_word (memory_of v) (slot_at p a)) frame way.names in
      record { word = word.0; there = sym (ap (λ n. page_word (memory_of v) (at_page p n)) here) ∙ word.1; names = word.2 }

  pub frame_served : (page frame : ℕ) (access : Access) → Serves vs p page frame access → frame_at v (at_page p page) ≡ frame
  frame_served page frame access s = let o = on_frame page frame access s in frame_is v (at_page p page) o.word o.there ∙ o.names

  cell_served : (page frame : ℕ) (access : Access) (s : Serves vs p page frame access) → map.get base.spaces (at_page p page) ≡ Some s.given.cell
  cell_served page frame access s = sym (ap (map.get base.spaces) s.of_page) ∙ s.given.mapped

  pub takes_served : (page frame : ℕ) → Serves vs p page frame Write → takes_stores v.state.spaces (memory_of v) (at_page p page) ≡ true
  takes_served page frame s =
      let low = small_page vs p page frame Write s in
      let a : ℕ = start_number page in
      let here : page_number a ≡ page = omega arith in
      let small : a < 2 ^ 32 = omega (arith, low) in
      sym (ap (λ n. takes_stores v.state.spaces (memory_of v) (at_page p n)) here)
      ∙ walk_takes v core p s.given.directory a frame (live vs p page frame Write s) small
      (leads vs p page frame a Write s here)

  real_served : (page frame : ℕ) (s : Serves vs p page frame Write) → is_lazy (on_frame page frame Write s).word ≡ false
  real_served page frame s =
      let o = on_frame page frame Write s in
      let t = both_true (map.contains_key v.state.spaces (at_page p page)) _ (takes_served page frame s) in
      let u = both_true (cell_or_fresh v.state.spaces (at_page p page)).write (not (is_lazy_at (memory_of v) (at_page p page))) t.1 in
      sym (ap (λ (y : Option ℕ). unwrap_or (option_map is_lazy y) false) o.there) ∙ real_by (is_lazy_at (memory_of v) (at_page p page)) u.1

  own_served : (page frame : ℕ) → Serves vs p page frame Write → page_frame (memory_of v) (at_page p page) ≡ Some frame
  own_served page frame s =
      let o = on_frame page frame Write s in
      ap (option_and_then (own_frame 2)) o.there ∙ own_is o.word (real_served page frame s) ∙ ap Some o.names

  -- it is a page's
  pub role_served : (page frame : ℕ) → Serves vs p page frame Write → (c : ℕ) × (slice_get v.roles frame ≡ Some (Page c))
  role_served page frame s = core.image.memory.sound.pages (at_page p page) frame (own_served page frame s)

  pub inside_served : (page frame : ℕ) → Serves vs p page frame Write → 4096 * frame + 4096 ≤ length v.bytes
  inside_served page frame s =
      let role = role_served page frame s in
      let within = slice_get_within v.roles frame (Page role.0) role.1 in
      let size = core.image.memory.sound.size in
      omega (arith, within, size)

  held : (long page : ℕ) (frames : ℕ → ℕ) → long ≡ length v.bytes → Serves vs p page (frames page) Write
      → Held (frame_at v) base.spaces p frames long page
  held long page frames is s = record {
    cell = s.given.cell;
    there = cell_served page f Write s;
    accessed = s.given.accessed;
    dirty = s.given.dirty (s.written refl).1;
    frame = frame_served page f Write s;
    inside = let k = inside_served page f s in omega (arith, k, is);
    group = λ r d at h. group r ((k.group r).0 (sym (ap (λ g. set.contains g r) own.2.holders) ∙ h));
    apart = λ r d at h same. absurd (
        let c = alike.back r d at in
        let t : true ≡ false = sym ((k.group r).1 (others r c.0 c.1 same)) ∙ sym (ap (λ g. set.contains g r) own.2.holders) ∙ h in
        cc);
  }
    where
      f : ℕ
      f = frames page

      o : OnFrame page f
      o = on_frame page f Write s

      real : is_lazy o.word ≡ false
      real = real_served page f s

      own : (c : Cell) × (map.get v.state.spaces (at_page p page) ≡ Some c) × AlikeCell c s.given.cell
      own = alike.back (at_page p page) s.given.cell (cell_served page f Write s)

      stands : (y : Option ℕ) → page_word (memory_of v) (at_page p page) ≡ y → y ≡ Some o.word → (z : Option Cell) → z ≡ Some own.0
          → SlotStands (memory_of v) (at_page p page) y z → CellStands (memory_of v) (at_page p page) o.word own.0
      stands x0 at y x3 h c = grind arith

      k : CellStands (memory_of v) (at_page p page) o.word own.0
      k = stands (page_word (memory_of v) (at_page p page)) refl o.there (map.get v.state.spaces (at_page p page)) own.1
          (core.image.memory.cells (at_page p page))

      group : (r : Slot) → MatchBool (is_lazy o.word) (r ≡ at_page p page) (page_frame (memory_of v) r ≡ Some (frame_number o.word)) → frame_at v r ≡ f
      group r h =
          let own : page_frame (memory_of v) r ≡ Some (frame_number o.word) = subst (λ b. MatchBool b (r ≡ at_page p page) (page_frame (memory_of v) r ≡ Some (frame_number o.word))) real h in
          let w = from_then (own_frame 2) (page_word (memory_of v) r) (frame_number o.word) own in
          frame_is v r w.0 w.1 ∙ (owned w.0 (frame_number o.word) w.2).1 ∙ o.names

      others : (r : Slot) (d : Cell) → map.get v.state.spaces r ≡ Some d → frame_at v r ≡ f
          → MatchBool (is_lazy o.word) (r ≡ at_page p page) (page_frame (memory_of v) r ≡ Some (frame_number o.word))
      others r d at same =
          let w = word_mapped v core r d at in
          subst (λ b. MatchBool b (r ≡ at_page p page) (page_frame (memory_of v) r ≡ Some (frame_number o.word))) (sym real)
          (by w.0 w.1 (is_lazy w.0) refl)
        where
          by : (word : ℕ) → page_word (memory_of v) r ≡ Some word → (b : Bool) → is_lazy word ≡ b → page_frame (memory_of v) r ≡ Some (frame_number o.word)
          by word is false lazy =
              ap (option_and_then (own_frame 2)) is ∙ own_is word lazy ∙ ap Some (sym (frame_is v r word is) ∙ same ∙ sym o.names)
          by word is true lazy = absurd (
              let zero = lazy_zero v core r word is lazy in
              let role = role_served page f s in
              let within = slice_get_within v.roles f (Page role.0) role.1 in
              let none : f ≡ 0 = sym same ∙ frame_is v r word is ∙ zero in
              let k : ◌≡◌ {A = Option Role} (Some Reserved) (Some (Page role.0)) = sym ((core.image.memory.sound.reserved f within).1 none) ∙ role.1 in
              cc)

  module _ (bytes : List ℕ) (frames : ℕ → ℕ) where
    abbrev s : State
    s = filled_state (frame_at v) bytes base

    abbrev g : View
    g = record { state = s; directories = v.directories; bytes = v.bytes; roles = v.roles }

    there_filled : (page frame : ℕ) (access : Access) (k : Serves vs p page frame access)
        → map.get s.spaces (at_page p page) ≡ Some (fill (frame_at v) bytes (at_page p page) k.given.cell)
    there_filled page frame access k = grind (arith, get_filled, fill, cell_served)

    byte_there : (a : ℕ) → Serves vs p (page_number a) (frames (page_number a)) Read → byte_at s.spaces p a ≡ slice_index bytes (kept_place frames a)
    byte_there a k =
        ap (λ (z : Option Cell). slice_index (unwrap_or z (fresh (slot_at p a) true)).bytes (offset_number a)) (there_filled (page_number a) (frames (page_number a)) Read k)
        ∙ ap (λ n. slice_index (frame_bytes bytes n) (offset_number a)) (frame_served (page_number a) (frames (page_number a)) Read k)
        ∙ byte-frame bytes (frames (page_number a)) (offset_number a) (omega arith)

    number_there : (addr : ℕ) (size : Size) → EachTouched addr size (λ page. Serves vs p page (frames page) Read)
        → loaded s p addr size ≡ number_at frames bytes addr size
    number_there addr size served = ap value_of (same_each (byte_at s.spaces p) (λ a. slice_index bytes (kept_place frames a)) addr (byte_count size)
        (λ i l. byte_there (addr + i) (each_byte addr size (λ page. Serves vs p page (frames page) Read) served i l)))

    takes_filled : (page frame : ℕ) → Serves vs p page frame Write → takes_stores s.spaces (memory_of v) (at_page p page) ≡ true
    takes_filled page frame k =
        let own = alike.back (at_page p page) k.given.cell (cell_served page frame Write k) in
        let t = both_true (map.contains_key v.state.spaces (at_page p page)) _ (takes_served page frame k) in
        let write : k.given.cell.write ≡ own.0.write = own.2.write in
        let there : (cell_or_fresh v.state.spaces (at_page p page)).write ≡ own.0.write =
        ap (λ (z : Option Cell). (unwrap_or z (fresh (at_page p page) true)).write) own.1 in
        ap (λ (z : Option Cell). is_some z && ((unwrap_or z (fresh (at_page p page) true)).write && not (is_lazy_at (memory_of v) (at_page p page)))) (there_filled page frame Write k)
        ∙ ap (λ b. b && not (is_lazy_at (memory_of v) (at_page p page))) (write ∙ sym there) ∙ t.1

    frameless : (addr : ℕ) (size : Size) (access : Access) → EachTouched addr size (λ page. Serves vs p page (frames page) access)
        → takes_no_frame (plan_at g p addr size access) ≡ true
    frameless addr size access served = walk_completes g p addr size access
        (touched_user base p addr size well
        (each_page addr size (λ page. Serves vs p page (frames page) access) (λ page. is_mapped base (at_page p page) ≡ true)
        (λ page k. ap is_some (cell_served page (frames page) access k)) served))
        (each_page addr size (λ page. Serves vs p page (frames page) access) (λ page. is_mapped s (at_page p page) ≡ true)
        (λ page k. ap is_some (there_filled page (frames page) access k)) served)
        (λ store. each_page addr size (λ page. Serves vs p page (frames page) access) (λ page. takes_stores s.spaces (memory_of v) (at_page p page) ≡ true)
        (λ page k. takes_filled page (frames page) (subst (Serves vs p page (frames page)) store k)) served)

    done : (c : Call) → takes_no_frame (plan_of_call g p c) ≡ true → completes (answer_of s p c) ≡ true
    done c h = sym (goes-call g p c) ∙ goes_frameless (plan_of_call g p c) h

    -- what it is answered
    call_answer : (c : Call) → ServesCall vs p frames c → answer_of s p c ≡ reply_kept frames bytes c
    call_answer (call.Load addr size) k =
        told_planned (plan_of s p addr size Read) (reply.Value (loaded s p addr size)) (done (call.Load addr size) (frameless addr size Read k))
        ∙ ap reply.Value (number_there addr size k)
    call_answer (call.Store addr size value) k =
        told_planned (plan_of s p addr size Write) reply.Done (done (call.Store addr size value) (frameless addr size Write k))
    call_answer _ k = absurd k

    touched_there : (page frame : ℕ) (access : Access) → Serves vs p page frame access → Touched s.spaces p page
    touched_there page frame access k = record {
      cell = fill (frame_at v) bytes (at_page p page) k.given.cell;
      there = there_filled page frame access k;
      set = k.given.accessed;
    }

    -- and what it leaves
    call_after : (c : Call) → ServesCall vs p frames c → length bytes ≡ length v.bytes
        → after s p c ≡ filled_state (frame_at v) (bytes_kept frames bytes c) base
    call_after (call.Load addr size) k long = loaded_same s p addr size
        (each_page addr size (λ page. Serves vs p page (frames page) Read) (Touched s.spaces p) (λ page q. touched_there page (frames page) Read q) k)
    call_after (call.Store addr size value) k long =
        let there : EachTouched addr size (IsThere s.spaces p) = each_page addr size (λ page. Serves vs p page (frames page) Write) (IsThere s.spaces p)
        (λ page q. ap is_some (there_filled page (frames page) Write q)) k in
        (λ i. record s { spaces = all_stored (with_touched-same s.spaces p addr size there i) p addr (bytes_of (byte_count size) value) })
        ∙ ap (λ (S : Spaces). record s { spaces = S })
        (all_put (frame_at v) base.spaces p frames (byte_count size) value addr bytes
        (λ i l. held (length bytes) (page_number (addr + i)) frames long (each_byte addr size (λ page. Serves vs p page (frames page) Write) k i l)))
    call_after _ k long = absurd k

module _ (v : View) (core : IsCore v) (base : State) (alike : Alike v.state base) (well : IsWellFormed base) (bytes : List ℕ) (frames : ℕ → ℕ) (a : Event) (served : ServesEvent (with_state v base) frames a) where
  -- the process is live
  pub served_live : is_live base a.pid ≡ true
  served_live = grind (arith, lives, live)

  -- such an access is answered by the bytes there
  pub kept_answer : answer (filled_state (frame_at v) bytes base) a ≡ reply_kept frames bytes a.call
  kept_answer = grind (arith, filled_state, served_live, call_answer)

  completing : completes (answer (filled_state (frame_at v) bytes base) a) ≡ true
  completing = grind (arith, kept_answer)

  -- and leaves a state whose cells have the bytes that it leaves
  pub kept_next : length bytes ≡ length v.bytes → next (filled_state (frame_at v) bytes base) a ≡ filled_state (frame_at v) (bytes_kept frames bytes a.call) base
  kept_next long = next-goes (filled_state (frame_at v) bytes base) a completing ∙ call_after v core base alike well a.pid bytes frames a.call served long

  -- in frames that are no pages no byte changes
  pub kept_beside : (f : ℕ) → length bytes ≡ length v.bytes → ((c : ℕ) → slice_get v.roles f ≡ Some (Page c) → ⊥)
      → frame_bytes (bytes_kept frames bytes a.call) f ≡ frame_bytes bytes f
  kept_beside f long none = by a.call served
    where
      by : (c : Call) → ServesCall (with_state v base) a.pid frames c → frame_bytes (bytes_kept frames bytes c) f ≡ frame_bytes bytes f
      by (call.Load addr size) k = refl
      by (call.Store addr size value) k = frames_beside frames (byte_count size) value bytes addr f (λ i l.
          let page : ℕ = page_number (addr + i) in
          let s = each_byte addr size (λ page. Serves (with_state v base) a.pid page (frames page) Write) k i l in
          let inside = inside_served v core base alike well a.pid page (frames page) s in (
            omega (arith, inside, long),
            λ same. (
                let role = role_served v core base alike well a.pid page (frames page) s in
                none role.0 (ap (slice_get v.roles) same ∙ role.1)),
          ))
      by _ k = absurd k

  pub kept_long : length (bytes_kept frames bytes a.call) ≡ length bytes
  kept_long = grind (arith, length-written)
