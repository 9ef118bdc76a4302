-- The access of one byte that changes none.
use Rattle.kernel_acts.proofs.Prelude.{◌≡◌, ℕ, zero, suc, ◌%◌, ◌<◌, ◌^◌, ◌&&◌, true, false, length, List, [], ◌∷◌, refl, sym, ap, subst, ◌∙◌, Option, Some, None, unwrap_or, inl, inr, arith, slice_index, option_map, some_value, nat_lt, page_number, offset_number, touched, IsUserPage, same_cases, walk_of, Read, Write, is_lazy_at, takes_stores, Slot, slot_order, Cell, Spaces, slot_at, fresh, cell_or_fresh, byte_at, accessed, stored, write_at, with_pages, way_parts, FramesStay, none_goes, stays_most, memory_of, State, is_live, is_mapped, View, after_stores, IsWellFormed, get-inserted, plan_of, step_of, Goes, ready, all_user, same_cells, answer, answer_of, next, completes, carried, is_some, ended_by, Ends, load_byte, store_byte, Event, Reply, Ended, cases_Bool, get_or-replicate, All-get_or, One, is_write, zeros, write_at-nothing, stored-flags, each_right, next-goes, next-stays, IsCore, walks_of, ways_of, mapped_way, went-on, walk_finds, has_right, gone_by}
use Rattle.std.specs.Result.{is_ok}
use Rattle.std.proofs.lemmas.Bool.Decides.{nat_tests}
use Rattle.page_words.specs.FiniteMap as map
use Rattle.page_words.specs.FiniteSet as set
use Rattle.phys_memory.specs.Bytes.{frame_bytes}
use Rattle.table_walk.specs.declared.Access.{Access}
use Rattle.address_space.specs.ByWalk.{finds_at}
use Rattle.kernel_calls.proofs.Leaving.{event_ends}
use Rattle.process_table.specs.declared.causes.Cause.TheVariants as cause
use Rattle.kernel_calls.specs.declared.calls.Reply.TheVariants as reply
use Rattle.kernel_calls.specs.declared.translations.Ended.TheVariants as end
use Rattle.kernel_acts.specs.Touched.{access_of_byte, AreMarked, TakesNoStore, Touches}
use Rattle.kernel_acts.proofs.LoadedBytes.{bytes_in, alike, page_long, own_bytes, beside_bytes}
use Rattle.kernel_acts.proofs.TransferSteps.{one_page, part_stored, takes, byte_accessed, FirstStored, first_stored, first_loaded}

-- ---- What the walk finds

low : (a : ℕ) → a < 2 ^ 32 → (nat_lt a 0x100000000 && true) ≡ true
low a h = grind (arith, nat_tests)

-- the walk of a mapped page lets a read through, and a write where the page takes stores
finds_here : (v : View) → IsCore v → (p a : ℕ) (access : Access) → IsUserPage (page_number a) → is_mapped v.state (slot_at p a) ≡ true
    → (is_write access ≡ true → takes_stores v.state.spaces (memory_of v) (slot_at p a) ≡ true) → finds_at (memory_of v) p access a ≡ true
finds_here v now p a access user there right =
    let way = mapped_way v now.image (slot_at p a) there in
    let small : a < 2 ^ 32 = omega (arith, user.1) in
    let walk = walk_finds v now p way.0 a way.1 access small way.2 (λ is. has_right v now (slot_at p a) (right (ap is_write is))) in
    let live = (way_parts (memory_of v) (slot_at p a) way.0 way.1 way.2).live in
    ap (λ o. nat_lt a 0x100000000 && unwrap_or (option_map (λ d. is_ok (walk_of v.bytes d a access)) o) false) live
    ∙ ap (λ r. nat_lt a 0x100000000 && is_ok r) walk ∙ low a small

-- ---- The byte that is there

-- a byte that is written where it was
put_back : (xs : List ℕ) (at : ℕ) → at < length xs → write_at xs at (slice_index xs at ∷ []) ≡ xs
put_back [] at inside = absurd (omega (arith, inside))
put_back (x ∷ xs) zero inside = refl
put_back (x ∷ xs) (suc at) inside = grind (arith, (put_back xs at (omega (arith, inside))))

-- a byte of a page is below 256
byte_small : (s : State) (p a : ℕ) → IsWellFormed s → byte_at s.spaces p a < 256
byte_small s p a w = by (map.get s.spaces (slot_at p a)) refl
  where
    inside : offset_number a < 4096
    inside = omega arith

    by : (x : Option Cell) → map.get s.spaces (slot_at p a) ≡ x → slice_index (unwrap_or x (fresh (slot_at p a) true)).bytes (offset_number a) < 256
    by None none = let zero_there = get_or-replicate {A = ℕ} 4096 (offset_number a) 0 0 inside in omega (arith, zero_there)
    by (Some c) some =
        let cell = w.cells (slot_at p a) c some in
        All-get_or (λ b. b < 256) c.bytes (offset_number a) 0 (let l = cell.long in omega (arith, l, inside)) cell.small

-- it is itself as a store writes it
byte_whole : (s : State) (p a : ℕ) → IsWellFormed s → byte_at s.spaces p a % 256 ≡ byte_at s.spaces p a
byte_whole s p a w = let small = byte_small s p a w in omega (arith, small)

-- a store of it leaves the page's bytes
own_same : (s : State) (p a : ℕ) → IsWellFormed s → write_at (bytes_in s.spaces (slot_at p a)) (offset_number a) (byte_at s.spaces p a ∷ []) ≡ bytes_in s.spaces (slot_at p a)
own_same s p a w = grind (arith, page_long, put_back, bytes_in)

-- and those of every other page
stored_alike : (s : State) (W : Spaces) (own : Slot) (at : ℕ) (new : List ℕ) → IsWellFormed s → ((q : Slot) → cell_or_fresh W q ≡ cell_or_fresh s.spaces q)
    → write_at (bytes_in s.spaces own) at new ≡ bytes_in s.spaces own → (q : Slot) → bytes_in (stored W own at new) q ≡ bytes_in s.spaces q
stored_alike s W own at new well cells same q = elim (same_cases slot_order q own) [
  | inl here ↦ ap (bytes_in (stored W own at new)) here.0 ∙ own_bytes W own at new ∙ written ∙ sym (ap (bytes_in s.spaces) here.0)
  | inr other ↦ elim (beside_bytes W own at new q other.0) [
    | inl stays ↦ stays ∙ ap (λ (c : Cell). c.bytes) (cells q)
    | inr group ↦ group.1 ∙ written ∙ sym (alike s own q well other.0 (sym (ap (λ (c : Cell). set.contains c.holders q) (cells own)) ∙ group.0))
  ]
]
  where
    written : write_at (bytes_in W own) at new ≡ bytes_in s.spaces own
    written = ap (λ (c : Cell). write_at c.bytes at new) (cells own) ∙ same

-- ---- A read

accessed_set : (S : Spaces) (slot : Slot) → (cell_or_fresh (accessed S slot) slot).accessed ≡ true
accessed_set S slot = ap (λ (o : Option Cell). (unwrap_or o (fresh slot true)).accessed) (get-inserted S slot (record (cell_or_fresh S slot) { accessed = true }))

-- the state after the load of a byte
loaded_state : (s : State) (p a : ℕ) → completes (answer s (load_byte p a)) ≡ true
    → next s (load_byte p a) ≡ record s { spaces = accessed (with_pages s.spaces p (touched a One)) (slot_at p a) }
loaded_state s p a done = grind (arith, next-goes, one_page)

pub read_touches : (v w : View) (p a : ℕ) (told : Reply) (ended : Ended) → IsCore v → IsCore w → told ≡ answer v.state (load_byte p a) → ended ≡ ended_by v (load_byte p a)
    → w.state ≡ next v.state (load_byte p a) → Ends ended v w → FramesStay (gone_by v.state (load_byte p a)) (memory_of v) (memory_of w) → (completes told ≡ false → w ≡ v) → Touches v (load_byte p a) p a Read told ended w
read_touches v w p a told ended now later reply ended_is state ends stay kept = record {
  reply = reply;
  ended_is = ended_is;
  state = state;
  ends = ends;
  stay = stay;
  kept = kept;
  bytes = λ q x. elim (cases_Bool (completes told)) [
    | inl done ↦
        ap (λ (t : State). byte_at t.spaces q x) (after done) ∙ byte_accessed W slot q x
        ∙ ap (λ (c : Cell). slice_index c.bytes (offset_number x)) (same_cells v.state.spaces p (touched a One) (slot_at q x))
    | inr stops ↦ ap (λ (u : View). byte_at u.state.spaces q x) (kept stops)
  ];
  user = λ done. (first done).0;
  finds = λ done. finds_here w later p a Read (first done).0 (first done).1 (λ is. cc);
  marked = λ done. record {
    accessed = ap (λ (t : State). (cell_or_fresh t.spaces slot).accessed) (after done) ∙ accessed_set W slot;
    dirty = λ is. cc;
  };
}
  where
    slot : Slot
    slot = slot_at p a

    W : Spaces
    W = with_pages v.state.spaces p (touched a One)

    done_by : completes told ≡ true → completes (answer v.state (load_byte p a)) ≡ true
    done_by done = sym (ap completes reply) ∙ done

    after : completes told ≡ true → w.state ≡ record v.state { spaces = accessed W slot }
    after done = state ∙ loaded_state v.state p a (done_by done)

    first : (done : completes told ≡ true) → IsUserPage (page_number a) × (is_mapped w.state slot ≡ true)
    first done = let f = first_loaded v.state w.state p a 0 (done_by done) state (omega arith) in (f.user, f.there)

-- ---- A write

-- where a store completed, the page takes stores
takes_here : (s : State) (v : View) (p a b : ℕ) → FirstStored s v.state p a b → IsCore v → takes_stores v.state.spaces (memory_of v) (slot_at p a) ≡ true
takes_here s v p a b f core = let stands = core.image in let ways = ways_of core in grind arith

-- the state after the store of a byte
stored_state : (s : State) (p a b : ℕ) → completes (answer s (store_byte p a b)) ≡ true
    → next s (store_byte p a b) ≡ record s { spaces = stored (with_pages s.spaces p (touched a One)) (slot_at p a) (offset_number a) (b % 256 ∷ []) }
stored_state s p a b done = next-goes s (store_byte p a b) done

-- what a store of the byte that is there leaves
record Wrote (v w : View) (p a : ℕ) : Type 0 where
  user : IsUserPage (page_number a)
  finds : finds_at (memory_of w) p Write a ≡ true
  marked : AreMarked w.state.spaces (slot_at p a) Write
  bytes : (q at : ℕ) → byte_at w.state.spaces q at ≡ byte_at v.state.spaces q at

wrote : (v w : View) (p a b : ℕ) → IsCore v → IsCore w → completes (answer v.state (store_byte p a b)) ≡ true → w.state ≡ next v.state (store_byte p a b)
    → b % 256 ≡ byte_at v.state.spaces p a → Wrote v w p a
wrote v w p a b now later done state same =
    grind (arith, first_stored, takes_here, stored_state, stored-flags, own_same, finds_here, stored_alike, same_cells)

-- ---- A page that takes stores is marked

-- the store of the byte that is there, and the marks alone, leave one state
marks_only : (s : State) (p a : ℕ) → IsWellFormed s → after_stores s p a [] ≡ after_stores s p a (byte_at s.spaces p a ∷ [])
marks_only s p a w = grind (arith, write_at-nothing, bytes_in, own_same)

marked_ends : (v : View) (p a b : ℕ) → takes_stores v.state.spaces (memory_of v) (slot_at p a) ≡ true → end.Nothing ≡ ended_by v (store_byte p a b)
marked_ends v p a b taken = grind (arith, one_page)

pub marks_touch : (v w : View) (p a : ℕ) → IsCore v → IsCore w → is_live v.state p ≡ true → IsUserPage (page_number a) → takes_stores v.state.spaces (memory_of v) (slot_at p a) ≡ true
    → w.state ≡ after_stores v.state p a [] → FramesStay none_goes (memory_of v) (memory_of w) → Touches v (access_of_byte v.state p a Write) p a Write reply.Done end.Nothing w
marks_touch v w p a now later live user taken after stay =
    let s = v.state in
    let b = byte_at s.spaces p a in
    let e = store_byte p a b in
    let well = now.well_formed in
    let k = takes v (slot_at p a) taken in
    let small = byte_small s p a well in
    let place : offset_number a < 4096 = omega arith in
    let run = part_stored s p a (b ∷ []) live user k.there k.right (omega (arith, place)) (omega arith) (one_small b small) in
    let done : completes (answer s e) ≡ true = carried_one s e run.all in
    let state : w.state ≡ next s e = after ∙ marks_only s p a well ∙ sym run.after in
    let f = first_stored s w.state p a b done state in
    let made = wrote v w p a b now later done state (byte_whole s p a well) in
    let none = marked_ends v p a b taken in
    record {
      reply = sym f.told;
      ended_is = none;
      state = state;
      ends = subst (λ (x : Ended). Ends x v w) (sym none) (event_ends v w e now later state (stays_most stay));
      stay = stays_most stay;
      kept = λ stops. cc;
      bytes = made.bytes;
      user = λ _. made.user;
      finds = λ _. made.finds;
      marked = λ _. made.marked;
    }
  where
    one_small : (b : ℕ) → b < 256 → (i : ℕ) → slice_index (b ∷ []) i < 256
    one_small b small x2 = grind arith

    carried_one : (s : State) (e : Event) → carried s (e ∷ []) ≡ e ∷ [] → completes (answer s e) ≡ true
    carried_one s e h = grind arith

-- ---- A page that takes no store

-- a lazy page has zeros
lazy_zero : (v : View) → IsCore v → frame_bytes v.bytes 0 ≡ zeros → (p a : ℕ) → IsUserPage (page_number a) → is_mapped v.state (slot_at p a) ≡ true → is_lazy_at (memory_of v) (slot_at p a) ≡ true
    → bytes_in v.state.spaces (slot_at p a) ≡ zeros
lazy_zero v now zero_frame p a user there lazy =
    grind (arith, mapped_way, way_parts, some_value, ways_of, walks_of, nat_tests)

-- where a store completes in such a page, the byte there is 0
byte_zero : (v : View) → IsCore v → frame_bytes v.bytes 0 ≡ zeros → (p a : ℕ) → TakesNoStore v p a → completes (answer v.state (store_byte p a 0)) ≡ true → byte_at v.state.spaces p a ≡ 0
byte_zero v now zero_frame p a none done = by (map.get v.state.spaces slot) refl
  where
    s : State
    s = v.state

    slot : Slot
    slot = slot_at p a

    e : Event
    e = store_byte p a 0

    inside : offset_number a < 4096
    inside = omega arith

    goes : completes (answer_of s p e.call) ≡ true
    goes = grind (arith, s)

    plan : Goes (step_of s p) s p a One Write
    plan = ready (step_of s p) s p a One Write (went-on (plan_of s p a One Write) _ goes)

    user : IsUserPage (page_number a)
    user = (all_user a One plan.outside).0

    right : (cell_or_fresh s.spaces slot).write ≡ true
    right = (each_right s p a One Write plan.allowed refl).0

    lazy_where : is_mapped s slot ≡ true → is_lazy_at (memory_of v) slot ≡ true
    lazy_where there = grind (arith, s, slot, right, user)

    by : (x : Option Cell) → map.get s.spaces slot ≡ x → byte_at s.spaces p a ≡ 0
    by None is = ap (λ (x : Option Cell). slice_index (unwrap_or x (fresh slot true)).bytes (offset_number a)) is ∙ get_or-replicate {A = ℕ} 4096 (offset_number a) 0 0 inside
    by (Some c) is =
        let there : is_mapped s slot ≡ true = ap is_some is in
        ap (λ xs. slice_index xs (offset_number a)) (lazy_zero v now zero_frame p a user there (lazy_where there)) ∙ get_or-replicate {A = ℕ} 4096 (offset_number a) 0 0 inside

-- the store of a zero is then the store of the byte that is there
zero_next : (s : State) (p a b : ℕ) → (completes (answer s (store_byte p a 0)) ≡ true → b ≡ 0) → next s (store_byte p a 0) ≡ next s (store_byte p a b)
zero_next s p a b zero_there = grind (arith, cases_Bool, next-stays)

pub zero_touches : (v w : View) (p a : ℕ) (told : Reply) (ended : Ended) → IsCore v → IsCore w → frame_bytes v.bytes 0 ≡ zeros → TakesNoStore v p a
    → told ≡ answer v.state (store_byte p a 0) → ended ≡ ended_by v (store_byte p a 0) → w.state ≡ next v.state (store_byte p a 0) → Ends ended v w → FramesStay (gone_by v.state (store_byte p a 0)) (memory_of v) (memory_of w) → (completes told ≡ false → w ≡ v)
    → Touches v (access_of_byte v.state p a Write) p a Write told ended w
zero_touches v w p a told ended now later zero_frame none reply ended_is state ends stay kept = record {
  reply = reply;
  ended_is = ended_is;
  state = state ∙ zero_next s p a (byte_at s.spaces p a) zero_there;
  ends = ends;
  stay = stay;
  kept = kept;
  bytes = λ q x. elim (cases_Bool (completes told)) [
    | inl done ↦ (made done).bytes q x
    | inr stops ↦ ap (λ (u : View). byte_at u.state.spaces q x) (kept stops)
  ];
  user = λ done. (made done).user;
  finds = λ done. (made done).finds;
  marked = λ done. (made done).marked;
}
  where
    s : State
    s = v.state

    zero_there : completes (answer s (store_byte p a 0)) ≡ true → byte_at s.spaces p a ≡ 0
    zero_there = byte_zero v now zero_frame p a none

    made : completes told ≡ true → Wrote v w p a
    made done =
        let goes = sym (ap completes reply) ∙ done in
        wrote v w p a 0 now later goes state (sym (zero_there goes))
