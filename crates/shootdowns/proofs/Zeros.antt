-- A lazy page that an event gives a frame has zeros afterwards, as before.
use Rattle.shootdowns.proofs.Prelude.{◌≡◌, ◌≢◌, ℕ, zero, suc, ◌+◌, ◌<◌, Bool, true, false, cond, ◌||◌, List, [], ◌∷◌, refl, ap, sym, ◌∙◌, subst, arith, inl, Option, Some, None, unwrap_or, is_some, ◌⊎◌, if◌then◌else◌, IfSome, slice_set, option_map, offset_number, byte_count, EachTouched, Size, same, is_lazy, contains-insert, same_or_not, some_value, frame_bytes, page_word, is_lazy_at, takes_stores, Slot, slot_order, Cell, Spaces, at_page, slot_at, zeros, with_bytes, with_holders, write_at, stored, all_stored, bytes_of, joined, is_slot, IsThere, with_touched-same, each_byte, byte_is_write, after_store, memory_of, State, View, each_page, answer, answer_of, after, completes, IsCore, ended_by, is_ended, of_call, of_pages, Call, Event, Reply, next-goes, not-refused, Begins, LeavesZeros, accept_refusal, offered}
use Rattle.std.proofs.lemmas.List.{set-get_or, get_or-replicate}
use Rattle.page_words.specs.FiniteMap as map
use Rattle.page_words.specs.FiniteSet as set
use Rattle.process_table.proofs.Refusals.{may_accept}
use Rattle.kernel_calls.specs.declared.calls.Call.TheVariants as call
use Rattle.kernel_calls.specs.declared.calls.Reply.TheVariants as reply
use Rattle.kernel_calls.specs.declared.translations.Ended.TheVariants as end
use Rattle.kernel_calls.proofs.Untouched.{wider, widen, get_joined}
use Rattle.shootdowns.proofs.Accesses.{lazy_zero}
use Rattle.shootdowns.proofs.Cells.{written, grouped, get_stored, first_of, rest_of}
use Rattle.shootdowns.proofs.Filled.{completed}
use Rattle.shootdowns.proofs.Onward.{stands_at}
use Rattle.shootdowns.proofs.Taking.{mapped_word, cell_bytes}
use Rattle.shootdowns.proofs.Turned.{bytes_grow}

-- ---- Zeros stored to zeros

same_zeros : (o : ℕ) → o < 4096 → write_at zeros o (0 ∷ []) ≡ zeros
same_zeros o l =
    sym (byte_is_write zeros o 0 (omega (arith, l)))
    ∙ ap (slice_set zeros o) (sym (get_or-replicate 4096 o 0 0 l))
    ∙ set-get_or zeros o 0

-- a slot whose cell has zeros
abbrev HasZeros : Spaces → Slot → Type 0
HasZeros S b = (c : Cell) × (map.get S b ≡ Some c) × (c.bytes ≡ zeros)

zero_byte : (S : Spaces) (b r : Slot) (o : ℕ) → o < 4096 → HasZeros S b → HasZeros S r → HasZeros (stored S b o (0 ∷ [])) r
zero_byte S b r o l h k = by (same slot_order r b) refl
  where
    new : write_at h.0.bytes o (0 ∷ []) ≡ zeros
    new = ap (λ (l : List ℕ). write_at l o (0 ∷ [])) h.2 ∙ same_zeros o l

    get : (q : Bool) → same slot_order r b ≡ q → map.get (stored S b o (0 ∷ [])) r ≡ cond q (Some (written h.0 o (0 ∷ []))) (Some (grouped h.0 o (0 ∷ []) r k.0))
    get q is = get_stored S b h.0 h.1 o (0 ∷ []) r ∙ (λ i. cond (is i) (Some (written h.0 o (0 ∷ []))) (option_map (grouped h.0 o (0 ∷ []) r) (k.1 i)))

    put_zeros : (m : Bool) → (if m then with_bytes k.0 (write_at h.0.bytes o (0 ∷ [])) else k.0).bytes ≡ zeros
    put_zeros x0 = grind (arith, new)

    by : (q : Bool) → same slot_order r b ≡ q → HasZeros (stored S b o (0 ∷ [])) r
    by true is = (written h.0 o (0 ∷ []), get true is, new)
    by false is = (grouped h.0 o (0 ∷ []) r k.0, get false is, put_zeros (set.contains h.0.holders r))

zero_bytes : (k a p : ℕ) (S : Spaces) (r : Slot) → ((i : ℕ) → i < k → HasZeros S (slot_at p (a + i))) → HasZeros S r → HasZeros (all_stored S p a (bytes_of k 0)) r
zero_bytes zero a p S r each here = here
zero_bytes (suc k) a p S r each here =
    let first = first_of (λ n. HasZeros S (slot_at p n)) k a each in
    zero_bytes k (a + 1) p (stored S (slot_at p a) (offset_number a) (0 ∷ [])) r
    (λ i l. zero_byte S (slot_at p a) (slot_at p (a + 1 + i)) (offset_number a) (omega arith) first (rest_of (λ n. HasZeros S (slot_at p n)) k a each i l))
    (zero_byte S (slot_at p a) r (offset_number a) (omega arith) first here)

-- ---- The event

-- a lazy page has a word, which is lazy
lazy_word : (v : View) (slot : Slot) → is_lazy_at (memory_of v) slot ≡ true → (n : ℕ) × (page_word (memory_of v) slot ≡ Some n) × (is_lazy n ≡ true)
lazy_word v slot h = grind (arith, unwrap_or)

-- the word of a page that is lazy is
pub word_lazy : (v : View) (slot : Slot) (n : ℕ) → page_word (memory_of v) slot ≡ Some n → is_lazy_at (memory_of v) slot ≡ true → is_lazy n ≡ true
word_lazy v slot n there h = sym (ap (λ (y : Option ℕ). unwrap_or (option_map is_lazy y) false) there) ∙ h

-- a lazy page takes no store as memory is
pub takes_no_lazy : (v : View) (slot : Slot) → is_lazy_at (memory_of v) slot ≡ true → takes_stores v.state.spaces (memory_of v) slot ≡ true → ⊥
takes_no_lazy v slot lazy takes = grind arith

-- what is ended was lazy
pub ended_lazy : (v : View) (e : Event) → LeavesZeros v e.pid e.call → (slot : Slot) → is_ended (ended_by v e) slot ≡ true → is_lazy_at (memory_of v) slot ≡ true
ended_lazy v e leaves slot = by (completes (answer v.state e))
  where
    one : (p page : ℕ) → is_lazy_at (memory_of v) (at_page p page) ≡ true → is_slot p page slot ≡ true → is_lazy_at (memory_of v) slot ≡ true
    one p page lazy is = pick (same_or_not slot_order (at_page p page) slot)
      where
        pick : ((at_page p page ≡ slot) × (same slot_order (at_page p page) slot ≡ true)) ⊎ (same slot_order (at_page p page) slot ≡ false) → is_lazy_at (memory_of v) slot ≡ true
        pick x0 = grind arith

    if_is : (p page : ℕ) (b : Bool) → is_lazy_at (memory_of v) (at_page p page) ≡ b → IfSome (if b then Some page else None) (λ n. is_lazy_at (memory_of v) (at_page p n) ≡ true)
    if_is p page x2 h = grind arith

    pages : (p : ℕ) (x y : Option ℕ) → IfSome x (λ n. is_lazy_at (memory_of v) (at_page p n) ≡ true) → IfSome y (λ n. is_lazy_at (memory_of v) (at_page p n) ≡ true)
        → is_ended (of_pages p x y) slot ≡ true → is_lazy_at (memory_of v) slot ≡ true
    pages p x1 x2 a b h = grind (arith, one)

    of_kind : (c : Call) → LeavesZeros v e.pid c → is_ended (of_call v e.pid c) slot ≡ true → is_lazy_at (memory_of v) slot ≡ true
    of_kind x0 leaves h = grind (arith, pages, if_is)

    by : (q : Bool) → is_ended (if q then of_call v e.pid e.call else end.Nothing) slot ≡ true → is_lazy_at (memory_of v) slot ≡ true
    by x0 h = grind (arith, of_kind)

-- ---- What an event leaves of a lazy page

-- A slot has zeros, and accessed is set. Of its group only it was mapped before.
pub record Zeroed (v : View) (s : State) (slot : Slot) : Type 0 where
  pub cell : Cell
  pub there : map.get s.spaces slot ≡ Some cell
  pub bytes : cell.bytes ≡ zeros
  pub accessed : cell.accessed ≡ true
  pub alone : (other : Slot) → set.contains cell.holders other ≡ true → (other ≡ slot) ⊎ (map.get v.state.spaces other ≡ None)

module _ (v : View) (core : IsCore v) where
  lazy_zeros : (slot : Slot) → is_lazy_at (memory_of v) slot ≡ true → HasZeros v.state.spaces slot
  lazy_zeros slot h =
      let n = lazy_word v slot h in
      let c = some_value (map.get v.state.spaces slot) (mapped_word v core slot n.0 n.1) in
      (c.0, c.1, cell_bytes v core slot c.0 n.0 c.1 n.1 ∙ ap (frame_bytes v.bytes) (lazy_zero v core slot n.0 n.1 n.2) ∙ core.image.memory.sound.zero_frame)

  module _ (slot : Slot) (lazy : is_lazy_at (memory_of v) slot ≡ true) (c : Cell) (there : map.get v.state.spaces slot ≡ Some c) (accessed : c.accessed ≡ true) where
    zeros_there : c.bytes ≡ zeros
    zeros_there = grind (arith, lazy_zeros)

    -- it is alone in its group
    lone : (other : Slot) → set.contains c.holders other ≡ true → other ≡ slot
    lone other inside = grind (arith, lazy_word, stands_at)

    -- zeros stored to lazy pages
    after_zeros : (p addr : ℕ) (size : Size) → EachTouched addr size (λ page. is_lazy_at (memory_of v) (at_page p page) ≡ true) → Zeroed v (after_store v.state p addr size 0) slot
    after_zeros p addr size touched =
        let S = v.state.spaces in
        let has = each_page addr size (λ page. is_lazy_at (memory_of v) (at_page p page) ≡ true) (λ page. HasZeros S (at_page p page)) (λ page h. lazy_zeros (at_page p page) h) touched in
        let each = λ (i : ℕ) (l : i < byte_count size). each_byte addr size (λ page. HasZeros S (at_page p page)) has i l in
        let z = zero_bytes (byte_count size) addr p S slot each (c, there, zeros_there) in
        let d = (bytes_grow (byte_count size) 0 addr p S (λ i l. (let h = each i l in (h.0, h.1)))).cells slot c there in
        let q : z.0 ≡ d.0 = cc in
        let same = with_touched-same S p addr size (each_page addr size (λ page. HasZeros S (at_page p page)) (IsThere S p) (λ page h. ap is_some h.1) has) in
        subst (λ (T : Spaces). Zeroed v (record v.state { spaces = all_stored T p addr (bytes_of (byte_count size) 0) }) slot) (sym same)
        (record {
          cell = d.0;
          there = d.1;
          bytes = ap (λ (x : Cell). x.bytes) (sym q) ∙ z.2;
          accessed = d.3.0 accessed;
          alone = λ other h. inl (lone other (sym (ap (λ g. set.contains g other) d.2.holders) ∙ h));
        })

    -- the page is accepted by another slot, which wasn't mapped
    after_joined : (p page : ℕ) (right : Bool) → map.get v.state.spaces (at_page p page) ≡ None → Zeroed v (record v.state { spaces = joined v.state.spaces slot (at_page p page) right }) slot
    after_joined p page right none = record {
      cell = with_holders c (wider v.state p slot.pid slot.page page right core.well_formed c there);
      there = get_joined v.state p slot.pid slot.page page right core.well_formed c there slot apart
          ∙ ap (option_map (widen v.state p slot.pid slot.page page right core.well_formed c there slot)) there
          ∙ ap (λ b. Some (if b then with_holders c (wider v.state p slot.pid slot.page page right core.well_formed c there) else c)) (core.well_formed.cells slot c there).own;
      bytes = zeros_there;
      accessed = accessed;
      alone = λ other h. either other (same_or_not slot_order other (at_page p page)) (sym (contains-insert c.holders (at_page p page) other) ∙ h);
    }
      where
        apart : slot ≢ at_page p page
        apart is = let k : ◌≡◌ {A = Option Cell} None (Some c) = sym none ∙ ap (map.get v.state.spaces) (sym is) ∙ there in cc

        either : (other : Slot) → ((other ≡ at_page p page) × (same slot_order other (at_page p page) ≡ true)) ⊎ (same slot_order other (at_page p page) ≡ false)
            → (same slot_order other (at_page p page) || set.contains c.holders other) ≡ true → (other ≡ slot) ⊎ (map.get v.state.spaces other ≡ None)
        either other x1 h = grind (arith, lone)

-- so it is with what the event ended
pub zeroed_by : (v w : View) (e : Event) (r : Reply) → IsCore v → Begins v e r w → LeavesZeros v e.pid e.call → (slot : Slot) → is_ended (ended_by v e) slot ≡ true
    → (c : Cell) → map.get v.state.spaces slot ≡ Some c → c.accessed ≡ true → Zeroed v w.state slot
zeroed_by v w e r core b leaves slot ended c there accessed = by (completes (answer v.state e)) refl ended
  where
    lazy : is_lazy_at (memory_of v) slot ≡ true
    lazy = ended_lazy v e leaves slot ended

    slot_is : (p page : ℕ) (x : Bool) → is_lazy_at (memory_of v) (at_page p page) ≡ x → is_ended (of_pages p (if x then Some page else None) None) slot ≡ true → at_page p page ≡ slot
    slot_is p page true is h = pick (same_or_not slot_order (at_page p page) slot)
      where
        pick : ((at_page p page ≡ slot) × (same slot_order (at_page p page) slot ≡ true)) ⊎ (same slot_order (at_page p page) slot ≡ false) → at_page p page ≡ slot
        pick x0 = grind arith
    slot_is p page false is h = cc

    of_kind : (k : Call) → LeavesZeros v e.pid k → is_ended (of_call v e.pid k) slot ≡ true → completes (answer_of v.state e.pid k) ≡ true → Zeroed v (after v.state e.pid k) slot
    of_kind (call.Store addr size value) leaves h done =
        subst (λ n. Zeroed v (after_store v.state e.pid addr size n) slot) (sym leaves.0) (after_zeros v core slot lazy c there accessed e.pid addr size leaves.1)
    of_kind (call.Accept giver giver_page page) leaves h done =
        let may = may_accept v.state e.pid giver giver_page page (not-refused (accept_refusal v.state e.pid giver giver_page page) reply.Done done) in
        let same = slot_is giver giver_page (is_lazy_at (memory_of v) (at_page giver giver_page)) refl h in
        let right = offered v.state giver giver_page e.pid in
        let joins = after_joined v core slot lazy c there accessed e.pid page right may.none in
        let z : Zeroed v (record v.state { spaces = joined v.state.spaces (at_page giver giver_page) (at_page e.pid page) right }) slot =
        subst (λ (x : Slot). Zeroed v (record v.state { spaces = joined v.state.spaces x (at_page e.pid page) right }) slot) (sym same) joins in
        record { cell = z.cell; there = z.there; bytes = z.bytes; accessed = z.accessed; alone = z.alone }
    of_kind _ leaves h done = absurd leaves

    by : (q : Bool) → completes (answer v.state e) ≡ q → is_ended (if q then of_call v e.pid e.call else end.Nothing) slot ≡ true → Zeroed v w.state slot
    by true done h = subst (λ (t : State). Zeroed v t slot) (sym (b.carried.state ∙ next-goes v.state e done)) (of_kind e.call leaves h (completed v.state e done))
    by false stops h = cc
