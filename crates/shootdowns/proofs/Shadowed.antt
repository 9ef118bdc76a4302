-- Uses of what was kept come after an event that gives lazy pages frames and leaves their zeros.
use Rattle.shootdowns.proofs.Prelude.{◌≡◌, ◌≢◌, ℕ, Bool, true, false, List, [], ◌∷◌, ◌+◌, refl, ap, sym, ◌∙◌, arith, Some, None, subst, is_some, ◌⊎◌, if◌then◌else◌, slice_get, slice_index, page_number, byte_count, EachTouched, Size, frame_bytes, byte-frame, Read, Write, directory_at, is_lazy_at, kept_place, number_at, Slot, Cell, at_page, byte_at, value_of, each_byte, same_each, memory_of, State, is_mapped, View, touched_user, plan_at, each_page, walk_completes, Serves, ServesCall, ServesEvent, IsLoad, IsStore, reply_kept, answer, answer_of, after, next, completes, IsCore, IsLeft, Processors, AllAreRead, IsLoaded, LetsThrough, LetCall, Translation, translation, IsGiven, Ends, AreRead, ended_by, is_ended, Call, Event, Reply, Ended, goes-call, next-goes, Touched, loaded_same, live, kept_find, kept_reply, stores_leave_cores, left_read, read_at, answered, goes_frameless, told_planned, IsStale, Uses, ComeAfter, UsesComeAfterZeros}
use Rattle.page_words.specs.FiniteMap as map
use Rattle.page_words.specs.FiniteSet as set
use Rattle.process_table.specs.Calls as calls
use Rattle.kernel_calls.specs.Processors.{with_bytes}
use Rattle.kernel_calls.specs.declared.calls.Call.TheVariants as call
use Rattle.kernel_calls.specs.declared.calls.Reply.TheVariants as reply
use Rattle.kernel_calls.specs.declared.translations.Ended.TheVariants as end
use Rattle.shootdowns.specs.Shadows.{none, loaded, stored}
use Rattle.shootdowns.proofs.Accesses.{on_frame, lazy_zero, takes_served}
use Rattle.shootdowns.proofs.Alike.{alike_same}
use Rattle.shootdowns.proofs.Taking.{cell_bytes}
use Rattle.shootdowns.proofs.Turned.{Has, Mapped, next_grows}
use Rattle.shootdowns.proofs.Untouched.{Beside, Besides, after_beside}
use Rattle.shootdowns.proofs.Zeros.{Zeroed, zeroed_by, ended_lazy, word_lazy, takes_no_lazy}

-- ---- A load of bytes that are there

-- a page has the bytes of a frame, and accessed is set
record Finds (u : View) (p page frame : ℕ) : Type 0 where
  cell : Cell
  there : map.get u.state.spaces (at_page p page) ≡ Some cell
  accessed : cell.accessed ≡ true
  bytes : cell.bytes ≡ frame_bytes u.bytes frame

-- so it is with each page that a load touches
abbrev FindsCall : View → ℕ → (ℕ → ℕ) → Call → Type 0
FindsCall u p frames (call.Load addr size) = EachTouched addr size (λ page. Finds u p page (frames page))
FindsCall u p frames _ = ⊥

module _ (u : View) (core : IsCore u) (p : ℕ) (frames : ℕ → ℕ) where
  byte_found : (a : ℕ) → Finds u p (page_number a) (frames (page_number a)) → byte_at u.state.spaces p a ≡ slice_index u.bytes (kept_place frames a)
  byte_found a f = grind (arith, byte-frame)

  number_found : (addr : ℕ) (size : Size) → EachTouched addr size (λ page. Finds u p page (frames page)) → calls.loaded u.state p addr size ≡ number_at frames u.bytes addr size
  number_found addr size found = ap value_of (same_each (byte_at u.state.spaces p) (λ a. slice_index u.bytes (kept_place frames a)) addr (byte_count size)
      (λ i l. byte_found (addr + i) (each_byte addr size (λ page. Finds u p page (frames page)) found i l)))

  done_found : (addr : ℕ) (size : Size) → EachTouched addr size (λ page. Finds u p page (frames page)) → completes (answer_of u.state p (call.Load addr size)) ≡ true
  done_found addr size found =
      let mapped = each_page addr size (λ page. Finds u p page (frames page)) (λ page. is_mapped u.state (at_page p page) ≡ true) (λ page f. ap is_some f.there) found in
      sym (goes-call u p (call.Load addr size))
      ∙ goes_frameless (plan_at u p addr size Read) (walk_completes u p addr size Read (touched_user u.state p addr size core.well_formed mapped) mapped (λ w. cc))

  call_found : (c : Call) → FindsCall u p frames c → answer_of u.state p c ≡ reply_kept frames u.bytes c
  call_found x0 found = grind (arith, told_planned, done_found, number_found)

  call_same : (c : Call) → FindsCall u p frames c → after u.state p c ≡ u.state
  call_same (call.Load addr size) found = loaded_same u.state p addr size
      (each_page addr size (λ page. Finds u p page (frames page)) (Touched u.state.spaces p) (λ page f. record { cell = f.cell; there = f.there; set = f.accessed }) found)
  call_same _ found = absurd found

-- the load is answered by these bytes, and changes nothing
load_found : (u : View) (core : IsCore u) (frames : ℕ → ℕ) (a : Event) → FindsCall u a.pid frames a.call
    → (answer u.state a ≡ reply_kept frames u.bytes a.call) × (next u.state a ≡ u.state)
load_found u core frames a found = grind (arith, call_found, next-goes, call_same)

-- ---- What stays while what was kept is used

-- a translation of a page
abbrev kept : ℕ → ℕ → ℕ → Bool → Bool → Translation
kept p page frame write dirty = record { slot = at_page p page; frame = frame; write = write; dirty = dirty }

-- what the walks gave, and a change didn't end, they give afterwards
given_after : (v w : View) (ended : Ended) (t : Translation) → Ends ended v w → is_ended ended t.slot ≡ false → IsGiven v t → IsGiven w t
given_after v w ended t ends spared given = by (is_ended ended t.slot) spared (left_read ended v w (translation t ∷ []) ends (given, tt))
  where
    by : (b : Bool) → b ≡ false → AreRead w (if b then [] else translation t ∷ []) → IsGiven w t
    by x0 h read = grind arith

-- Memory is a core's. Walks give all that was kept and isn't ended. What is ended has zeros.
record After (v : View) (x : Ended) (keeps : Processors) (u : View) : Type 0 where
  core : IsCore u
  read : (i n : ℕ) (t : Translation) → slice_get (keeps i) n ≡ Some (translation t) → is_ended x t.slot ≡ false → IsGiven u t
  zeroed : (i n : ℕ) (t : Translation) → slice_get (keeps i) n ≡ Some (translation t) → is_ended x t.slot ≡ true → Zeroed v u.state t.slot

module _ (v : View) (before : IsCore v) (x : Ended) (keeps : Processors) (all : AllAreRead v keeps)
    (lazy : (slot : Slot) → is_ended x slot ≡ true → is_lazy_at (memory_of v) slot ≡ true) where
  given_before : (i n : ℕ) (t : Translation) → slice_get (keeps i) n ≡ Some (translation t) → IsGiven v t
  given_before i n t there = read_at v (keeps i) n (translation t) (all i) there

  module _ (u : View) (t : After v x keeps u) (i : ℕ) where
    finds : (p page frame : ℕ) → LetsThrough (keeps i) p page frame Read → Finds u p page frame
    finds p page frame l = by (is_ended x (at_page p page)) refl
      where
        by : (b : Bool) → is_ended x (at_page p page) ≡ b → Finds u p page frame
        by false spared =
            let g = t.read i l.place (kept p page frame l.write l.dirty) l.there spared in
            let o = on_frame u t.core u.state (alike_same u.state) t.core.well_formed p page frame Read (record { kept = kept p page frame l.write l.dirty; given = g; of_page = refl; on_frame = refl; written = l.right }) in
            record { cell = g.cell; there = g.mapped; accessed = g.accessed; bytes = cell_bytes u t.core (at_page p page) g.cell o.word g.mapped o.there ∙ ap (frame_bytes u.bytes) o.names }
        by true ended =
            let z = t.zeroed i l.place (kept p page frame l.write l.dirty) l.there ended in
            let o = on_frame v before v.state (alike_same v.state) before.well_formed p page frame Read
            (record { kept = kept p page frame l.write l.dirty; given = given_before i l.place (kept p page frame l.write l.dirty) l.there; of_page = refl; on_frame = refl; written = l.right }) in
            let zero : frame ≡ 0 = sym o.names ∙ lazy_zero v before (at_page p page) o.word o.there (word_lazy v (at_page p page) o.word o.there (lazy (at_page p page) ended)) in
            record { cell = z.cell; there = z.there; accessed = z.accessed; bytes = z.bytes ∙ sym t.core.image.memory.sound.zero_frame ∙ ap (frame_bytes u.bytes) (sym zero) }

    load_finds : (p : ℕ) (frames : ℕ → ℕ) (c : Call) → IsLoad c → LetCall (keeps i) p frames c → FindsCall u p frames c
    load_finds p frames (call.Load addr size) load lets =
        each_page addr size (λ page. LetsThrough (keeps i) p page (frames page) Read) (λ page. Finds u p page (frames page)) (λ page l. finds p page (frames page) l) lets
    load_finds p frames _ load lets = absurd load

    one_load : (a : Event) (q : Reply) → IsLoaded (keeps i) u a q → (q ≡ answer u.state a) × (next u.state a ≡ u.state)
    one_load a q l = grind (arith, load_found, load_finds)

    -- what lets a store through isn't ended
    record Stores (p page frame : ℕ) : Type 0 where
      served : Serves u p page frame Write
      mapped : (c : Cell) × (map.get v.state.spaces (at_page p page) ≡ Some c)
      spared : is_ended x (at_page p page) ≡ false

    stores : (p page frame : ℕ) → LetsThrough (keeps i) p page frame Write → Stores p page frame
    stores p page frame l = by (is_ended x (at_page p page)) refl
      where
        by : (b : Bool) → is_ended x (at_page p page) ≡ b → Stores p page frame
        by false spared =
            let g = given_before i l.place (kept p page frame l.write l.dirty) l.there in
            record {
              served = record { kept = kept p page frame l.write l.dirty; given = t.read i l.place (kept p page frame l.write l.dirty) l.there spared; of_page = refl; on_frame = refl; written = l.right };
              mapped = (g.cell, g.mapped);
              spared = spared;
            }
        by true ended = absurd (
            let real = takes_served v before v.state (alike_same v.state) before.well_formed p page frame
            (record { kept = kept p page frame l.write l.dirty; given = given_before i l.place (kept p page frame l.write l.dirty) l.there; of_page = refl; on_frame = refl; written = l.right }) in
            takes_no_lazy v (at_page p page) (lazy (at_page p page) ended) real)

    module _ (a : Event) (q : Reply) (bytes : List ℕ) (l : IsStale (keeps i) u a q bytes) where
      use_served : ServesEvent u l.frames a
      use_served = by a.call l.store l.through
        where
          by : (c : Call) → IsStore c → LetCall (keeps i) a.pid l.frames c → ServesCall u a.pid l.frames c
          by (call.Store addr size value) store lets =
              each_page addr size (λ page. LetsThrough (keeps i) a.pid page (l.frames page) Write) (λ page. Serves u a.pid page (l.frames page) Write)
              (λ page k. (stores a.pid page (l.frames page) k).served) lets
          by _ store lets = absurd store

      store_home : (d : ℕ) × (directory_at (memory_of u) a.pid ≡ Some d)
      store_home = grind (arith, use_served, live)

      store_told : q ≡ answer u.state a
      store_told =
          let d = store_home in
          l.found ∙ sym (answered u a d.0 t.core (kept_find u l.frames a use_served) d.1 ∙ kept_reply u l.frames a d.0 use_served d.1)

      store_done : completes (answer u.state a) ≡ true
      store_done = grind (arith, store_told)

      store_mapped : Mapped u.state a.pid a.call
      store_mapped = by a.call use_served
        where
          by : (c : Call) → ServesCall u a.pid l.frames c → Mapped u.state a.pid c
          by (call.Load addr size) k = each_page addr size (λ page. Serves u a.pid page (l.frames page) Read) (λ page. Has u.state.spaces (at_page a.pid page)) (λ page s. (s.given.cell, sym (ap (map.get u.state.spaces) s.of_page) ∙ s.given.mapped)) k
          by (call.Store addr size value) k = each_page addr size (λ page. Serves u a.pid page (l.frames page) Write) (λ page. Has u.state.spaces (at_page a.pid page)) (λ page s. (s.given.cell, sym (ap (map.get u.state.spaces) s.of_page) ∙ s.given.mapped)) k
          by _ k = absurd k

      abbrev store_view : View
      store_view = record u { bytes = bytes; state = next u.state a }

      store_left : IsLeft u store_view
      store_left = subst (λ b. IsLeft u (with_bytes u (next u.state a) b)) (sym l.left) (stores_leave_cores u a l.frames t.core use_served l.store)

      -- a store is beside what is ended
      store_beside : (slot : Slot) → Zeroed v u.state slot → is_ended x slot ≡ true → Besides u.state slot a.pid a.call
      store_beside slot z ended = by a.call l.store l.through
        where
          one : (page : ℕ) → LetsThrough (keeps i) a.pid page (l.frames page) Write → Beside u.state.spaces slot (at_page a.pid page)
          one page k =
              let s = stores a.pid page (l.frames page) k in
              let there : map.get u.state.spaces (at_page a.pid page) ≡ Some s.served.given.cell = sym (ap (map.get u.state.spaces) s.served.of_page) ∙ s.served.given.mapped in
              record { cell = s.served.given.cell; there = there; apart = differ s; out = out s there (set.contains s.served.given.cell.holders slot) refl }
            where
              differ : Stores a.pid page (l.frames page) → slot ≢ at_page a.pid page
              differ s same = let k : true ≡ false = sym ended ∙ ap (is_ended x) same ∙ s.spared in cc

              out : (s : Stores a.pid page (l.frames page)) → map.get u.state.spaces (at_page a.pid page) ≡ Some s.served.given.cell
                  → (b : Bool) → set.contains s.served.given.cell.holders slot ≡ b → set.contains s.served.given.cell.holders slot ≡ false
              out s there false is = is
              out s there true is = absurd (
                  let here = t.core.well_formed.cells (at_page a.pid page) s.served.given.cell there in
                  let other = here.alike slot is in
                  let q : other.0 ≡ z.cell = cc in
                  alone s (z.alone (at_page a.pid page) (ap (λ (c : Cell). set.contains c.holders (at_page a.pid page)) (sym q) ∙ ap (λ g. set.contains g (at_page a.pid page)) other.2 ∙ here.own)))
                where
                  alone : Stores a.pid page (l.frames page) → (at_page a.pid page ≡ slot) ⊎ (map.get v.state.spaces (at_page a.pid page) ≡ None) → ⊥
                  alone s x1 = grind arith

          by : (c : Call) → IsStore c → LetCall (keeps i) a.pid l.frames c → Besides u.state slot a.pid c
          by (call.Store addr size value) store lets =
              each_page addr size (λ page. LetsThrough (keeps i) a.pid page (l.frames page) Write) (λ page. Beside u.state.spaces slot (at_page a.pid page)) one lets
          by _ store lets = absurd store

      still_zeroed : (slot : Slot) → is_ended x slot ≡ true → Zeroed v u.state slot → Zeroed v (next u.state a) slot
      still_zeroed slot ended z =
          let d = (next_grows u.state a store_done store_mapped).cells slot z.cell z.there in
          let kept = after_beside u.state slot a.pid a.call z.cell (store_beside slot z ended) z.there in
          let e : Some kept.0 ≡ Some d.0 = sym kept.1 ∙ sym (ap (λ (s : State). map.get s.spaces slot) (next-goes u.state a store_done)) ∙ d.1 in
          let q : kept.0 ≡ d.0 = cc in
          record {
            cell = d.0;
            there = d.1;
            bytes = ap (λ (c : Cell). c.bytes) (sym q) ∙ kept.2 ∙ z.bytes;
            accessed = d.3.0 z.accessed;
            alone = λ other h. z.alone other (sym (ap (λ g. set.contains g other) d.2.holders) ∙ h);
          }

      store_after : After v x keeps store_view
      store_after = record {
        core = store_left.core;
        read = λ j n k there spared. given_after u store_view end.Nothing k store_left.ends refl (t.read j n k there spared);
        zeroed = λ j n k there ended. still_zeroed k.slot ended (t.zeroed j n k there ended);
      }

  all_uses : {u y : View} {events : List Event} {replies : List Reply} → Uses keeps u events replies y → After v x keeps u → ComeAfter u events replies y
  all_uses none t = record { replies = refl; state = refl; core = t.core }
  all_uses (loaded {u = u} {a = a} {q = q} {events = events} {replies = replies} i l more) t =
      let here = one_load u t i a q l in
      let later = all_uses more t in
      grind arith
  all_uses (stored {u = u} {a = a} {q = q} {bytes = bytes} {events = events} {replies = replies} i l more) t =
      let later = all_uses more (store_after u t i a q bytes l) in
      record { replies = (λ j. store_told u t i a q bytes l j ∷ later.replies j); state = later.state; core = later.core }

pub uses_come_after_zeros : UsesComeAfterZeros
uses_come_after_zeros v w x keeps e r events replies core all b leaves uses =
    all_uses v core (ended_by v e) keeps all (ended_lazy v e leaves) uses (record {
      core = b.carried.core;
      read = λ i n t there spared. given_after v w (ended_by v e) t b.carried.ends spared (given_before v core (ended_by v e) keeps all (ended_lazy v e leaves) i n t there);
      zeroed = λ i n t there ended.
          let g = read_at v (keeps i) n (translation t) (all i) there in
          zeroed_by v w e r core b leaves t.slot ended g.cell g.mapped g.accessed;
    })
