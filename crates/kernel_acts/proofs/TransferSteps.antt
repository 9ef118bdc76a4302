-- The effect of loads and stores of bytes in one page.
use Rattle.kernel_acts.proofs.Prelude.{leb-true, le-ltb, and_parts, ◌≡◌, ℕ, zero, suc, ◌+◌, ◌*◌, ◌%◌, ◌<◌, ◌≤◌, true, false, List, [], ◌∷◌, length, drop, length-drop, ◌-◌, refl, ap, sym, subst, ◌∙◌, arith, Option, None, unwrap_or, eq-eqb, get_or-drop, if◌then◌else◌, slice_index, range_with_len, page_number, offset_number, second_page, page_and, touched, IsUserPage, same, first_by_page, page_stays, same_or_not, same-true, get-insert, Read, Write, Slot, Cell, Spaces, at_page, slot_at, cell_or_fresh, fresh, byte_at, accessed, stored, with_pages, all_accessed, takes_stores, of_lazy, kept, key-stored, need-in_one, State, is_live, is_mapped, View, IsCore, memory_of, after_loads, after_stores, get-inserted, outside, plan_of, step_of, Goes, ready, all_user, same_cells, mapped_right, page_is_user, answer, answer_of, next, completes, planned_or, gone_by, load_byte, store_byte, of_lazy_pages, AreLoaded, AreStored, Event, map as each, One, stored-stored, stored-flags, stored-write, ways_of, next-goes, went-on}
use Rattle.kernel_acts.proofs.TransferLemmas.{loaded-none, loaded-first, stored-none, stored-first}
use Rattle.page_words.specs.FiniteMap as map
use Rattle.process_table.specs.declared.causes.Cause.TheVariants as cause
use Rattle.kernel_calls.specs.declared.calls.Reply.TheVariants as reply
use Rattle.address_space.proofs.entries.Refinement.{insert_there}
use Rattle.address_space.proofs.costs.MapFirst.{IsThere, touched-there, load_in_page}
use Rattle.process_table.proofs.Overdrawn.{extra_touched}

-- a byte lies in one page
pub one_page : (a : ℕ) → second_page a One ≡ None
one_page a = grind arith

-- ---- A byte of a mapped page

module _ (s : State) (p a : ℕ) (live : is_live s p ≡ true) (user : IsUserPage (page_number a)) (there : is_mapped s (slot_at p a) ≡ true) where
  stays : outside a One ≡ None
  stays = grind (arith, first_by_page, page_is_user, one_page)

  plain : (b : ℕ) → b + 256 * 0 ≡ b
  plain b = omega arith

  pub load_told : answer s (load_byte p a) ≡ reply.Value (byte_at s.spaces p a)
  load_told = grind (arith, stays, need-in_one, one_page, extra_touched, le-ltb, plain)

  pub load_next : next s (load_byte p a) ≡ after_loads s p a
  load_next = grind (arith, next-goes, load_told, load_in_page, one_page)

-- ---- Loads of a page

module _ (S : Spaces) (slot : Slot) where
  abbrev touched_cell : Cell
  touched_cell = record (cell_or_fresh S slot) { accessed = true }

  cell_there : cell_or_fresh (accessed S slot) slot ≡ touched_cell
  cell_there = ap (λ (x : Option Cell). unwrap_or x (fresh slot true)) (get-inserted S slot touched_cell)

  -- accessed is set once
  pub accessed_twice : accessed (accessed S slot) slot ≡ accessed S slot
  accessed_twice =
      ap (λ (c : Cell). map.insert (accessed S slot) slot (record c { accessed = true })) cell_there
      ∙ insert_there (accessed S slot) slot touched_cell (get-inserted S slot touched_cell)

  same_bytes : (q : Slot) → (cell_or_fresh (accessed S slot) q).bytes ≡ (cell_or_fresh S q).bytes
  same_bytes q = grind (arith, same_or_not, cell_there, get-insert)

  -- and no byte changes
  pub byte_accessed : (p b : ℕ) → byte_at (accessed S slot) p b ≡ byte_at S p b
  byte_accessed p b = ap (λ bytes. slice_index bytes (offset_number b)) (same_bytes (slot_at p b))

-- the page of the first of some bytes in one page
first_page : (b k page : ℕ) → ((i : ℕ) → i < suc k → page_number (b + i) ≡ page) → page_number b ≡ page
first_page b k page pages = let z : b ≡ b + 0 = omega arith in ap page_number z ∙ pages 0 (omega arith)

-- and that of the others
rest_pages : (b k page : ℕ) → ((i : ℕ) → i < suc k → page_number (b + i) ≡ page) → (i : ℕ) → i < k → page_number (b + 1 + i) ≡ page
rest_pages b k page pages i l = let e : b + 1 + i ≡ b + suc i = omega arith in ap page_number e ∙ pages (suc i) (omega (arith, l))

-- loads of a page whose accessed is set change nothing
rest_loaded : (s : State) (p page b k : ℕ) → is_live s p ≡ true → IsUserPage page → is_mapped s (at_page p page) ≡ true → ((i : ℕ) → i < k → page_number (b + i) ≡ page)
    → accessed s.spaces (at_page p page) ≡ s.spaces → AreLoaded s p b k (each (byte_at s.spaces p) (range_with_len b k)) s
rest_loaded s p page b zero live user there pages same = loaded-none s p b
rest_loaded s p page b (suc k) live user there pages same =
    let first = first_page b k page pages in
    let here : is_mapped s (slot_at p b) ≡ true = ap (λ g. is_mapped s (at_page p g)) first ∙ there in
    let open_page : IsUserPage (page_number b) = subst IsUserPage (sym first) user in
    loaded-first s s s p b k (byte_at s.spaces p b) (each (byte_at s.spaces p) (range_with_len (b + 1) k))
    (load_told s p b live open_page here)
    (load_next s p b live open_page here ∙ ap (λ g. record s { spaces = accessed s.spaces (at_page p g) }) first ∙ ap (λ (T : Spaces). record s { spaces = T }) same)
    (rest_loaded s p page (b + 1) k live user there (rest_pages b k page pages) same)

-- the bytes behind the first lie in its page
others_in_page : (a n : ℕ) → offset_number a + suc n ≤ 4096 → (i : ℕ) → i < n → page_number (a + 1 + i) ≡ page_number a
others_in_page a n fits i l = let e : a + 1 + i ≡ a + (1 + i) = omega arith in ap page_number e ∙ page_stays a (1 + i) (omega (arith, fits, l))

-- loads of bytes in a mapped page
pub part_loaded : (s : State) (p a n : ℕ) → is_live s p ≡ true → IsUserPage (page_number a) → is_mapped s (slot_at p a) ≡ true → offset_number a + suc n ≤ 4096
    → AreLoaded s p a (suc n) (each (byte_at s.spaces p) (range_with_len a (suc n))) (after_loads s p a)
part_loaded s p a n live user there fits =
    let t : State = after_loads s p a in
    let slot : Slot = slot_at p a in
    loaded-first s t t p a n (byte_at s.spaces p a) (each (byte_at s.spaces p) (range_with_len (a + 1) n))
    (load_told s p a live user there) (load_next s p a live user there)
    (subst (λ (f : ℕ → ℕ). AreLoaded t p (a + 1) n (each f (range_with_len (a + 1) n)) t) (λ i b. byte_accessed s.spaces slot p b i)
    (rest_loaded t p (page_number a) (a + 1) n live user (kept s.spaces slot _ there slot ∙ there) (others_in_page a n fits) (accessed_twice s.spaces slot)))

-- ---- The first byte of a page, by a call

-- what a call of a process that completes tells
record Completes (s : State) (e : Event) : Type 0 where
  live : is_live s e.pid ≡ true
  goes : completes (answer_of s e.pid e.call) ≡ true

completed : (s : State) (e : Event) → completes (answer s e) ≡ true → Completes s e
completed s e h = grind arith

-- after a load that completes the page is mapped, and the loads of all bytes of a part of it go on
pub record FirstLoaded (s t : State) (p a n : ℕ) : Type 0 where
  pub user : IsUserPage (page_number a)
  pub there : is_mapped t (slot_at p a) ≡ true
  pub loaded : AreLoaded s p a (suc n) (each (byte_at t.spaces p) (range_with_len a (suc n))) (after_loads t p a)

pub first_loaded : (s t : State) (p a n : ℕ) → completes (answer s (load_byte p a)) ≡ true → t ≡ next s (load_byte p a) → offset_number a + suc n ≤ 4096 → FirstLoaded s t p a n
first_loaded s t p a n done is fits =
    let e : Event = load_byte p a in
    let slot : Slot = slot_at p a in
    let W : Spaces = with_pages s.spaces p (touched a One) in
    let u : State = record s { spaces = accessed W slot } in
    let c : Completes s e = completed s e done in
    let g : Goes (step_of s p) s p a One Read = ready (step_of s p) s p a One Read (went-on (plan_of s p a One Read) _
    c.goes) in
    let user : IsUserPage (page_number a) = (all_user a One g.outside).0 in
    let mapped : IsThere W p (page_number a) = (touched-there s.spaces p a One).0 in
    let there : is_mapped u slot ≡ true = kept W slot _ mapped slot ∙ mapped in
    let moved : next s e ≡ u = next-goes s e done ∙ ap (λ x. record s {
      spaces = all_accessed W p (page_and
          (page_number a) x);
    }) (one_page a) in
    let again : after_loads u p a ≡ u = ap (λ (T : Spaces). record s { spaces = T }) (accessed_twice W slot) in
    let same : byte_at s.spaces p a ≡ byte_at u.spaces p a = sym (byte_accessed W slot p a ∙ ap (λ (x : Cell).
    slice_index x.bytes (offset_number a)) (same_cells s.spaces p (touched a One) slot)) in
    let told : answer s e ≡ reply.Value (byte_at u.spaces p a) = grind (arith, e, c, g, plain, same) in
    subst (λ (x : State). FirstLoaded s x p a n) (sym (is ∙ moved))
    (record {
      user = user;
      there = there;
      loaded = subst (λ (x : State). AreLoaded s p a (suc n) (each (byte_at u.spaces p) (range_with_len a (suc n))) x) (sym again)
          (loaded-first s u u p a n (byte_at u.spaces p a) (each (byte_at u.spaces p) (range_with_len (a + 1) n)) told moved
          (rest_loaded u p (page_number a) (a + 1) n c.live user there (others_in_page a n fits) (accessed_twice W slot)));
    })
  where
    plain : (b : ℕ) → b + 256 * 0 ≡ b
    plain b = omega arith

-- ---- Stores to a page

-- bytes of a list are below 256
abbrev pub AreSmall : List ℕ → Type 0
AreSmall bytes = (i : ℕ) → slice_index bytes i < 256

-- a store to a page that may be written
record Stepped (s : State) (p page a o b : ℕ) : Type 0 where
  told : answer s (store_byte p a b) ≡ reply.Done
  moved : next s (store_byte p a b) ≡ record s { spaces = stored s.spaces (at_page p page) o (b ∷ []) }

stepped : (s : State) (p page a o b : ℕ) → is_live s p ≡ true → IsUserPage page → is_mapped s (at_page p page) ≡ true → (cell_or_fresh s.spaces (at_page p page)).write ≡ true
    → page_number a ≡ page → offset_number a ≡ o → b < 256 → Stepped s p page a o b
stepped s p page a o b live user there right first place small = grind arith

-- the place of the first of some bytes in one page
first_place : (a o k : ℕ) → ((i : ℕ) → i < suc k → offset_number (a + i) ≡ o + i) → offset_number a ≡ o
first_place a o k places = let z : a ≡ a + 0 = omega arith in let e = ap offset_number z ∙ places 0 (omega arith) in omega (arith, e)

-- and those of the others
rest_places : (a o k : ℕ) → ((i : ℕ) → i < suc k → offset_number (a + i) ≡ o + i) → (i : ℕ) → i < k → offset_number (a + 1 + i) ≡ o + 1 + i
rest_places a o k places i l = grind arith

-- stores to it, one after the other
stored_in : (s : State) (p page a o b : ℕ) (bytes : List ℕ) → is_live s p ≡ true → IsUserPage page → is_mapped s (at_page p page) ≡ true → (cell_or_fresh s.spaces (at_page p page)).write ≡ true
    → ((i : ℕ) → i < suc (length bytes) → page_number (a + i) ≡ page) → ((i : ℕ) → i < suc (length bytes) → offset_number (a + i) ≡ o + i) → AreSmall (b ∷ bytes)
    → AreStored s p a (b ∷ bytes) (record s { spaces = stored s.spaces (at_page p page) o (b ∷ bytes) })
stored_in s p page a o b [] live user there right pages places small =
    let t : State = record s { spaces = stored s.spaces (at_page p page) o (b ∷ []) } in
    let one = stepped s p page a o b live user there right (first_page a 0 page pages) (first_place a o 0 places) (small 0) in
    stored-first s t t p a b [] one.told one.moved (stored-none t p (a + 1))
stored_in s p page a o b (x ∷ xs) live user there right pages places small =
    let slot : Slot = at_page p page in
    let t : State = record s { spaces = stored s.spaces slot o (b ∷ []) } in
    let one = stepped s p page a o b live user there right (first_page a (suc (length xs)) page pages) (first_place a o (suc (length xs)) places) (small 0) in
    let there_still : is_mapped t slot ≡ true = key-stored s.spaces slot o (b ∷ []) (cell_or_fresh s.spaces slot) slot ∙ kept s.spaces slot (cell_or_fresh s.spaces slot) there slot ∙ there in
    let right_still : (cell_or_fresh t.spaces slot).write ≡ true = stored-write s.spaces slot o (b ∷ []) ∙ right in
    stored-first s t (record s { spaces = stored s.spaces slot o (b ∷ x ∷ xs) }) p a b (x ∷ xs) one.told one.moved
    (subst (λ (T : Spaces). AreStored t p (a + 1) (x ∷ xs) (record s { spaces = T })) (stored-stored s.spaces slot o b (x ∷ xs))
    (stored_in t p page (a + 1) (o + 1) x xs live user there_still right_still (rest_pages a (suc (length xs)) page pages) (rest_places a o (suc (length xs)) places) (λ i. small (suc i))))

-- stores of bytes to one page that may be written
pub part_stored : (s : State) (p a : ℕ) (bytes : List ℕ) → is_live s p ≡ true → IsUserPage (page_number a) → is_mapped s (slot_at p a) ≡ true → (cell_or_fresh s.spaces (slot_at p a)).write ≡ true
    → offset_number a + length bytes ≤ 4096 → 0 < length bytes → AreSmall bytes → AreStored s p a bytes (after_stores s p a bytes)
part_stored s p a [] live user there right fits some small = absurd (omega (arith, some))
part_stored s p a (b ∷ bytes) live user there right fits some small =
    stored_in s p (page_number a) a (offset_number a) b bytes live user there right
    (λ i l. page_stays a i (omega (arith, fits, l)))
    (λ i l. let s : offset_number a + i < 4096 = omega (arith, fits, l) in omega (arith, s)) small

-- a page that takes stores is mapped, with the right to write
pub record Takes (S : Spaces) (slot : Slot) : Type 0 where
  pub there : map.contains_key S slot ≡ true
  pub right : (cell_or_fresh S slot).write ≡ true

pub takes : (v : View) (slot : Slot) → takes_stores v.state.spaces (memory_of v) slot ≡ true → Takes v.state.spaces slot
takes v slot h = grind (arith, and_parts)

-- after a store that completes the page is mapped, may be written and is dirty
pub record FirstStored (s t : State) (p a b : ℕ) : Type 0 where
  pub live : is_live t p ≡ true
  pub user : IsUserPage (page_number a)
  pub there : is_mapped t (slot_at p a) ≡ true
  pub right : (cell_or_fresh t.spaces (slot_at p a)).write ≡ true
  pub dirty : (cell_or_fresh t.spaces (slot_at p a)).dirty ≡ true
  pub told : answer s (store_byte p a b) ≡ reply.Done
  pub moved : next s (store_byte p a b) ≡ t

pub first_stored : (s t : State) (p a b : ℕ) → completes (answer s (store_byte p a b)) ≡ true → t ≡ next s (store_byte p a b) → FirstStored s t p a b
first_stored s t p a b done is =
    let e : Event = store_byte p a b in
    let slot : Slot = slot_at p a in
    let W : Spaces = with_pages s.spaces p (touched a One) in
    let bytes : List ℕ = b % 256 ∷ [] in
    let u : State = record s { spaces = stored W slot (offset_number a) bytes } in
    let c : Completes s e = completed s e done in
    let g : Goes (step_of s p) s p a One Write = ready (step_of s p) s p a One Write (went-on (plan_of s p a One Write)
    _ c.goes) in
    let mapped : IsThere W p (page_number a) = (touched-there s.spaces p a One).0 in
    let moved : next s e ≡ u = next-goes s e done in
    subst (λ (x : State). FirstStored s x p a b) (sym (is ∙ moved))
    (record {
      live = c.live;
      user = (all_user a One g.outside).0;
      there = key-stored W slot (offset_number a) bytes (cell_or_fresh W slot) slot ∙ kept W slot (cell_or_fresh W slot) mapped slot ∙ mapped;
      right = stored-write W slot (offset_number a) bytes ∙ (mapped_right s p a One Write g.allowed refl).0;
      dirty = (stored-flags W slot (offset_number a) bytes).1;
      told = ap (λ b. if b then answer_of s p e.call else reply.Refused cause.NoProcess) c.live ∙ ap (λ x. planned_or x reply.Done) g.is;
      moved = moved;
    })

-- ---- As the code has it

-- the bytes of a part of a mapped page
pub mapped_loads : (s t : State) (p a n : ℕ) (bytes : List ℕ) → is_live s p ≡ true → IsUserPage (page_number a) → is_mapped s (slot_at p a) ≡ true → 0 < n → offset_number a + n ≤ 4096
    → bytes ≡ each (byte_at s.spaces p) (range_with_len a n) → t ≡ after_loads s p a → AreLoaded s p a n bytes t
mapped_loads s t p a zero bytes live user there some fits told after = absurd (omega (arith, some))
mapped_loads s t p a (suc n) bytes live user there some fits told after =
    subst (λ (x : State). AreLoaded s p a (suc n) bytes x) (sym after)
    (subst (λ (xs : List ℕ). AreLoaded s p a (suc n) xs (after_loads s p a)) (sym told) (part_loaded s p a n live user there fits))

-- those of a page whose first byte was loaded by a call
pub record FirstLoads (s t : State) (p a n : ℕ) : Type 0 where
  pub user : IsUserPage (page_number a)
  pub there : is_mapped t (slot_at p a) ≡ true
  pub loaded : (u : State) (bytes : List ℕ) → bytes ≡ each (byte_at t.spaces p) (range_with_len a n) → u ≡ after_loads t p a → AreLoaded s p a n bytes u

pub first_loads : (s t : State) (p a n : ℕ) → completes (answer s (load_byte p a)) ≡ true → t ≡ next s (load_byte p a) → 0 < n → offset_number a + n ≤ 4096 → FirstLoads s t p a n
first_loads s t p a zero done is some fits = absurd (omega (arith, some))
first_loads s t p a (suc n) done is some fits =
    let f = first_loaded s t p a n done is fits in
    grind arith

-- bytes to a page that takes stores
pub taken_stores : (v : View) (t : State) (p a : ℕ) (bytes : List ℕ) → is_live v.state p ≡ true → IsUserPage (page_number a) → takes_stores v.state.spaces (memory_of v) (slot_at p a) ≡ true
    → 0 < length bytes → offset_number a + length bytes ≤ 4096 → AreSmall bytes → t ≡ after_stores v.state p a bytes → AreStored v.state p a bytes t
taken_stores v t p a bytes live user taken some fits small after =
    let k = takes v (slot_at p a) taken in
    subst (λ (x : State). AreStored v.state p a bytes x) (sym after) (part_stored v.state p a bytes live user k.there k.right fits some small)

-- the first byte, which was stored by a call, and the others
pub first_stores : (s t u : State) (p a : ℕ) (part rest : List ℕ) → FirstStored s t p a (slice_index part 0) → 0 < length part → rest ≡ drop 1 part → AreStored t p (a + 1) rest u → AreStored s p a part u
first_stores s t u p a x5 rest f some is stored = grind (arith, stored-first)

-- the page takes the others
pub record RestTaken (v : View) (p a : ℕ) : Type 0 where
  pub user : IsUserPage (page_number a)
  pub taken : takes_stores v.state.spaces (memory_of v) (slot_at p a) ≡ true

pub rest_taken : (s : State) (v : View) (p a b : ℕ) → FirstStored s v.state p a b → IsCore v → offset_number a + 1 < 4096 → RestTaken v p (a + 1)
rest_taken s v p a b f core fits = let stands = core.image in let ways = ways_of core in grind (arith, page_stays)

small_rest : (part : List ℕ) → AreSmall part → AreSmall (drop 1 part)
small_rest part small i = let e = get_or-drop 1 part i 0 in let h = small (1 + i) in omega (arith, e, h)

-- the bytes behind the first, as one
pub rest_stores : (s u : State) (v : View) (p a x : ℕ) (part rest : List ℕ) → FirstStored s v.state p a (slice_index part 0) → x ≡ a + 1 → rest ≡ drop 1 part → 1 < length part → offset_number a + length part ≤ 4096
    → AreSmall part → IsUserPage (page_number x) → takes_stores v.state.spaces (memory_of v) (slot_at p x) ≡ true → u ≡ after_stores v.state p x rest → AreStored s p a part u
rest_stores s u v p a x part rest f is same more fits small user taken after =
    let size : length rest ≡ length part - 1 = ap length same ∙ length-drop 1 part in
    let place : offset_number x ≡ offset_number a + 1 = ap offset_number is ∙ next_place a (omega (arith, more, fits)) in
    let few : AreSmall rest = subst AreSmall (sym same) (small_rest part small) in
    first_stores s v.state u p a part rest f (omega (arith, more)) same
    (subst (λ k. AreStored v.state p k rest u) is
    (taken_stores v u p x rest f.live user taken (omega (arith, size, more)) (omega (arith, size, place, fits, more)) few after))
  where
    next_place : (a : ℕ) → offset_number a + 1 < 4096 → offset_number (a + 1) ≡ offset_number a + 1
    next_place a h = omega (arith, h)

-- ---- Which ways stay

-- a load ends no way
pub load_goes : (s : State) (p a : ℕ) (slot : Slot) (f : ℕ) → gone_by s (load_byte p a) slot f ≡ false
load_goes s p a slot f = grind arith

-- a store to a byte ends that of its page alone, where it is lazy
pub store_goes : (s : State) (p a b : ℕ) (slot : Slot) (f : ℕ) → of_lazy p (page_number a) slot f ≡ false → gone_by s (store_byte p a b) slot f ≡ false
store_goes s p a b slot f stays = grind (arith, one_page)

-- so one of the pages of a transfer
pub part_goes : (p a n done page : ℕ) (slot : Slot) (f : ℕ) → page ≡ page_number (a + done) → done < n → of_lazy_pages p a n slot f ≡ false → of_lazy p page slot f ≡ false
part_goes p a n done page slot f is within stays = grind (arith, eq-eqb, same-true)

-- the pages of fewer bytes are among those of more
pub more_goes : (p a m n : ℕ) (slot : Slot) (f : ℕ) → m ≤ n → of_lazy_pages p a n slot f ≡ false → of_lazy_pages p a m slot f ≡ false
more_goes p a m n slot f fewer stays = grind (arith, leb-true)
