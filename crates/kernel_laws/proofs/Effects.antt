-- The effect of each call that completes, and the slots that become unmapped.
use Rattle.kernel_laws.proofs.Prelude.{◌≡◌, ◌≢◌, ℕ, zero, suc, ◌+◌, ◌-◌, ◌<◌, ◌≤◌, ◌/◌, ◌%◌, Bool, true, false, List, [], ◌∷◌, length, replicate, refl, sym, ap, subst, ◌∙◌, Option, Some, None, is_some, unwrap_or, arith, inl, inr, IsTrue, ◌⊎◌, slice_index, IfSome, option_map, page_number, offset_number, byte_count, second_page, page_and, touched, EachTouched, Size, same, same_itself, get-insert, contains-insert, some_value, no_value, same_cases, Slot, slot_order, Cell, Spaces, at_page, slot_at, fresh, cell_or_fresh, bytes_of, with_pages, set_holders, set_bytes, write_at, accessed, stored, all_accessed, all_stored, AreThere, IsThere, first_there, rest_there, touched-there, bytes_there, each_byte, offer_key, Write, State, is_live, is_mapped, map_refusal, accept_refusal, offered, after_load, after_store, after_accept, IsWellFormed, get-inserted, get-inserted_other, may_map, may_accept, well_formed-bytes, well_formed-touched, plan_of, step_of, Goes, ready, all_user, same_cells, flags_of, flags_at, byte_in, shares, Tells, IsCovered, IsStoredAt, IsTogether, Does, DoneMeansDone, SlotsGo, answer, answer_of, after, next, completes, Call, Event, in_lone, sharing_by_consent, next-goes, exits_end, unmaps_end, offers_end, marks_all_stored, not-refused, went-on, sharing_stays, completes_by_kind, caller_live, own_byte, new_in, own_cell, still_there, many_bytes}
use Rattle.page_words.specs.FiniteMap as map
use Rattle.page_words.specs.FiniteSet as set
use Rattle.kernel_calls.specs.declared.calls.Call.TheVariants as call
use Rattle.kernel_calls.specs.declared.calls.Reply.TheVariants as reply

-- ---- The bytes that an access covers

covered_page : (address : ℕ) (size : Size) (P : ℕ → Type 0) → EachTouched address size P → (a : ℕ)
    → IsCovered address size a → P (page_number a)
covered_page address size P h a c = grind (arith, each_byte)

second_is : (address : ℕ) (size : Size) → IfSome (second_page address size) (λ page. page ≡ page_number address + 1)
second_is address size = grind arith

pages_apart : (q page other : ℕ) → other ≡ page + 1 → at_page q other ≢ at_page q page
pages_apart q page other next e = let same = ap (λ (x : Slot). x.page) e in absurd (omega (arith, next, same))

zero_in : (n i : ℕ) → slice_index (replicate n 0) i ≡ 0
zero_in zero i = refl
zero_in (suc n) zero = refl
zero_in (suc n) (suc i) = zero_in n i

-- ---- Loads

module _ (T : Spaces) (q : ℕ) where
  abbrev looked : ℕ → Cell
  looked page = record (cell_or_fresh T (at_page q page)) { accessed = true }

  each_accessed : (address : ℕ) (size : Size) → EachTouched address size
      (λ page. map.get (all_accessed T q (touched address size)) (at_page q page) ≡ Some (looked page))
  each_accessed address size = by (second_page address size) (second_is address size)
    where
      first : ℕ
      first = page_number address

      by : (x : Option ℕ) → IfSome x (λ page. page ≡ page_number address + 1)
          → (map.get (all_accessed T q (page_and (page_number address) x)) (at_page q (page_number address))
          ≡ Some (looked (page_number address)))
          × IfSome x (λ page. map.get (all_accessed T q (page_and (page_number address) x)) (at_page q page)
          ≡ Some (looked page))
      by None h = (get-inserted T (at_page q first) (looked first), tt)
      by (Some n) h =
          let U : Spaces = accessed T (at_page q first) in
          let c : Cell = record (cell_or_fresh U (at_page q n)) { accessed = true } in (
            get-inserted_other U (at_page q n) c (at_page q first) (λ e. pages_apart q first n h (sym e))
                ∙ get-inserted T (at_page q first) (looked first),
            get-inserted U (at_page q n) c
                ∙ ap (λ (x : Option Cell). Some (record (unwrap_or x (fresh (at_page q n) true)) { accessed = true }))
                (get-inserted_other T (at_page q first) (looked first) (at_page q n) (pages_apart q first n h)),
          )

loaded_at : (s : State) (q address : ℕ) (size : Size) (a : ℕ) → IsCovered address size a
    → map.get (after_load s q address size).spaces (slot_at q a)
    ≡ Some (record (cell_or_fresh s.spaces (slot_at q a)) { accessed = true })
loaded_at s q address size a c =
    let T : Spaces = with_pages s.spaces q (touched address size) in
    covered_page address size (λ page. map.get (all_accessed T q (touched address size)) (at_page q page)
    ≡ Some (looked T q page)) (each_accessed T q address size) a c
    ∙ ap (λ (c : Cell). Some (record c { accessed = true })) (same_cells s.spaces q (touched address size) (slot_at q a))

-- ---- Stores

-- the slot of each byte is accessed and dirty then
record IsDirty (U : Spaces) (slot : Slot) : Type 0 where
  cell : Cell
  there : map.get U slot ≡ Some cell
  accessed : cell.accessed ≡ true
  dirty : cell.dirty ≡ true

stored_marks : (S : Spaces) (q addr k v i : ℕ) → i < k
    → IsDirty (all_stored S q addr (bytes_of k v)) (slot_at q (addr + i))
stored_marks S q addr zero v i l = absurd (omega (arith, l))
stored_marks S q addr (suc k) v zero l =
    let target : Slot = slot_at q addr in
    let c : Cell = cell_or_fresh S target in
    let bytes : List ℕ = write_at c.bytes (offset_number addr) (v % 256 ∷ []) in
    let new : Cell = record c { bytes = bytes; accessed = true; dirty = true } in
    let m = marks_all_stored (stored S target (offset_number addr) (v % 256 ∷ [])) q (addr + 1) (bytes_of k (v / 256))
    target new (get-inserted (set_bytes S c.holders bytes) target new) in
    let here : addr ≡ addr + 0 = omega arith in
    subst (λ a. IsDirty (all_stored S q addr (bytes_of (suc k) v)) (slot_at q a)) here
    (record { cell = m.0; there = m.1; accessed = m.2.accessed refl; dirty = m.2.dirty refl })
stored_marks S q addr (suc k) v (suc i) l =
    let here : addr + 1 + i ≡ addr + suc i = omega arith in
    subst (λ a. IsDirty (all_stored S q addr (bytes_of (suc k) v)) (slot_at q a)) here
    (stored_marks (stored S (slot_at q addr) (offset_number addr) (v % 256 ∷ [])) q (addr + 1) k (v / 256) i
    (omega (arith, l)))

-- bytes of one access lie at places of their own
places_apart : (addr b k : ℕ) → k ≤ 4 → addr + 1 ≤ b → b < addr + 1 + k → offset_number b ≡ offset_number addr → ⊥
places_apart addr b k few low high same = omega (arith, few, low, high, same)

abbrev Written : Spaces → ℕ → ℕ → ℕ → Type 0
Written U q a byte = slice_index (cell_or_fresh U (slot_at q a)).bytes (offset_number a) ≡ byte

stored_byte : (s : State) (q addr k v : ℕ) → IsWellFormed s → AreThere s.spaces q addr k → k ≤ 4 → (i : ℕ) → i < k
    → Written (all_stored s.spaces q addr (bytes_of k v)) q (addr + i) (slice_index (bytes_of k v) i)
stored_byte s q addr zero v w there few i l = absurd (omega (arith, l))
stored_byte s q addr (suc k) v w there few i l = by (λ t. stored_byte t q (addr + 1) k (v / 256)) i l
  where
    target : Slot
    target = slot_at q addr

    T : Spaces
    T = stored s.spaces (slot_at q addr) (offset_number addr) (bytes_of 1 v)

    first : map.contains_key s.spaces (slot_at q addr) ≡ true
    first = first_there s.spaces q addr k there

    rest : AreThere T q (addr + 1) k
    rest = rest_there s.spaces q addr k (offset_number addr) (v % 256) there

    well : IsWellFormed (record s { spaces = T })
    well = well_formed-bytes s q addr 1 v w (λ i l. let z : i ≡ 0 = omega (arith, l) in
        ap (λ j. map.contains_key s.spaces (at_page q (page_number (addr + j)))) z ∙ there 0 (omega arith))

    cell : Cell
    cell = cell_or_fresh s.spaces (slot_at q addr)

    at : map.get s.spaces (slot_at q addr) ≡ Some cell
    at = own_cell s q addr v w first

    written : Written T q addr (v % 256)
    written =
        let is = w.cells target cell at in
        let long : length cell.bytes ≡ 4096 = is.long in
        let fits : offset_number addr < length cell.bytes = omega (arith, long) in
        ap (λ xs. slice_index xs (offset_number addr)) (new_in s q addr v w first target cell at is.own)
        ∙ own_byte cell.bytes (offset_number addr) v fits

    head : Written (all_stored T q (addr + 1) (bytes_of k (v / 256))) q addr (v % 256)
    head =
        let next_cell = still_there s q addr v w first target cell at in
        elim (many_bytes (record s { spaces = T }) q (addr + 1) k (v / 256) well rest target next_cell.0
        (offset_number addr) next_cell.1) [
          | inl same ↦ grind (arith, target, written)
          | inr r ↦ absurd (places_apart addr r.byte k (omega (arith, few)) r.first r.last r.there)
        ]

    by : ((t : State) → IsWellFormed t → AreThere t.spaces q (addr + 1) k → k ≤ 4 → (i : ℕ) → i < k
        → Written (all_stored t.spaces q (addr + 1) (bytes_of k (v / 256))) q (addr + 1 + i)
        (slice_index (bytes_of k (v / 256)) i)) → (i : ℕ) → i < suc k
        → Written (all_stored T q (addr + 1) (bytes_of k (v / 256))) q (addr + i)
        (slice_index (v % 256 ∷ bytes_of k (v / 256)) i)
    by law zero l = grind (arith, T, head)
    by law (suc i) l =
        let here : addr + 1 + i ≡ addr + suc i = omega arith in
        subst (λ a. Written (all_stored T q (addr + 1) (bytes_of k (v / 256))) q a (slice_index (bytes_of k (v / 256)) i))
        here (law (record s { spaces = T }) well rest (omega (arith, few)) i
        (omega (arith, l)))

four_at_most : (size : Size) → byte_count size ≤ 4
four_at_most size = grind arith

-- a slot that no accept maps is in a group of its own at first
alone : (s : State) (e : Event) (slot : Slot) → IsWellFormed s → map.get s.spaces slot ≡ None
    → ((giver page own : ℕ) → e.call ≡ call.Accept giver page own → ⊥)
    → (other : Slot) → shares (next s e) slot other ≡ true → other ≡ slot
alone s e slot w none no_accept other h = elim (same_cases slot_order other slot) [
  | inl same ↦ same.0
  | inr differ ↦ grind (arith, (sharing_by_consent s e slot other w (λ x. differ.0 (sym x)) h))
]

-- what holds a page of a cell, or of a new one, is in its group
together : (s : State) (own slot : Slot) → set.contains (cell_or_fresh s.spaces own).holders slot ≡ true
    → IsTogether s own slot
together s own slot = grind (arith, same_cases, in_lone)

-- ---- What each call does

module _ (s : State) (e : Event) (w : IsWellFormed s) (live : is_live s e.pid ≡ true)
    (done : completes (answer s e) ≡ true) where
  load_does : (address : ℕ) (size : Size) → e.call ≡ call.Load address size
      → next s e ≡ after_load s e.pid address size → Does s (next s e) e.pid (call.Load address size)
  load_does address size is goes a place c = grind (arith, alone, no_value, loaded_at)

  store_does : (address : ℕ) (size : Size) (value : ℕ) → e.call ≡ call.Store address size value
      → completes (answer_of s e.pid (call.Store address size value)) ≡ true
      → next s e ≡ after_store s e.pid address size value
      → Does s (next s e) e.pid (call.Store address size value)
  store_does address size value is h goes a place c =
      let marks : IsDirty U slot = subst (λ b. IsDirty U (slot_at e.pid b)) here (stored_marks T e.pid address _ value
      _ inside) in
      let new_flags : flags_at (next s e) slot
      ≡ Some (record (flags_of (cell_or_fresh s.spaces slot)) { accessed = true; dirty = true }) =
      grind (
        arith,
        (marks_all_stored T e.pid address (bytes_of (byte_count size) value) slot (cell_or_fresh T slot) at),
        marks,
        cell_is,
      ) in (
        record {
          has = new_flags;
          alone = grind (arith, alone);
        },
        ap (λ (t : State). byte_in t slot (offset_number a)) goes ∙ written,
        bytes,
      )
    where
      slot : Slot
      slot = slot_at e.pid a

      T : Spaces
      T = with_pages s.spaces e.pid (touched address size)

      U : Spaces
      U = (after_store s e.pid address size value).spaces

      low : address ≤ a
      low = c.0

      high : a < address + byte_count size
      high = c.1

      here : address + (a - address) ≡ a
      here = let l = low in omega (arith, l)

      inside : a - address < byte_count size
      inside = let l = low in let k = high in omega (arith, l, k)

      ready_to : Goes (step_of s e.pid) s e.pid address size Write
      ready_to = ready (step_of s e.pid) s e.pid address size Write (went-on (plan_of s e.pid address size Write) _ h)

      well : IsWellFormed (record s { spaces = T })
      well = well_formed-touched s e.pid address size w live (all_user address size ready_to.outside) ready_to.room

      there : AreThere T e.pid address (byte_count size)
      there = bytes_there T e.pid address size (touched-there s.spaces e.pid address size)

      cell_is : cell_or_fresh T slot ≡ cell_or_fresh s.spaces slot
      cell_is = same_cells s.spaces e.pid (touched address size) slot

      at : map.get T slot ≡ Some (cell_or_fresh T slot)
      at =
          let x = some_value (map.get T slot) (covered_page address size (IsThere T e.pid)
          (touched-there s.spaces e.pid address size) a c) in
          x.1 ∙ ap (λ (y : Option Cell). Some (unwrap_or y (fresh slot true))) (sym x.1)

      written : byte_in (after_store s e.pid address size value) slot (offset_number a)
          ≡ slice_index (bytes_of (byte_count size) value) (a - address)
      written = subst (λ b. Written U e.pid b (slice_index (bytes_of (byte_count size) value) (a - address))) here
          (stored_byte (record s { spaces = T }) e.pid address (byte_count size) value well there (four_at_most size)
          (a - address) inside)

      bytes : (byte_in (next s e) slot place ≡ byte_in s slot place)
          ⊎ ((b : ℕ) × IsStoredAt s e.pid address size b slot place
          × (byte_in (next s e) slot place ≡ slice_index (bytes_of (byte_count size) value) (b - address)))
      bytes = elim (many_bytes (record s { spaces = T }) e.pid address (byte_count size) value well there slot
          (cell_or_fresh T slot) place at) [
            | inl same ↦ grind (arith, cell_is)
            | inr r ↦ grind (arith, together, same_cells)
          ]

  map_does : (page : ℕ) (write : Bool) → e.call ≡ call.Map page write → is_mapped s (at_page e.pid page) ≡ false
      → next s e ≡ after s e.pid (call.Map page write) → Does s (next s e) e.pid (call.Map page write)
  map_does page write is free goes place = (
    ap (option_map flags_of) at,
    alone s e (at_page e.pid page) w (no_value (map.get s.spaces (at_page e.pid page)) free)
        (λ giver from own takes. let x = is in let y = takes in cc),
    ap (λ (x : Option Cell). slice_index (unwrap_or x (fresh (at_page e.pid page) true)).bytes place) at
        ∙ zero_in 4096 place,
  )
    where
      at : map.get (next s e).spaces (at_page e.pid page) ≡ Some (fresh (at_page e.pid page) write)
      at = grind (arith, get-inserted)

  accept_does : (giver giver_page page : ℕ) → e.call ≡ call.Accept giver giver_page page
      → accept_refusal s e.pid giver giver_page page ≡ None → answer s e ≡ reply.Done
      → next s e ≡ after_accept s e.pid giver giver_page page
      → Does s (next s e) e.pid (call.Accept giver giver_page page)
  accept_does giver giver_page page is allowed told goes =
      let slot : Slot = at_page e.pid page in
      let from : Slot = at_page giver giver_page in
      let c : Cell = cell_or_fresh s.spaces from in
      let pending : (b : Bool) × (map.get s.offers (offer_key giver giver_page e.pid) ≡ Some b) = some_value _
      (may_accept s e.pid giver giver_page page allowed).there in
      let given : (c : Cell) × (map.get s.spaces from ≡ Some c) × (IsTrue pending.0 → IsTrue c.may) = (w.offers
      (offer_key giver giver_page e.pid) pending.0 pending.1).offered in
      let right : Bool = offered s giver giver_page e.pid in
      let new : Cell = record {
        write = right;
        may = right;
        accessed = false;
        dirty = false;
        bytes = c.bytes;
        holders =
            set.insert c.holders slot;
      } in
      let at : map.get (next s e).spaces slot ≡ Some new = ap (λ (t : State). map.get t.spaces slot) goes ∙
      get-inserted (set_holders s.spaces c.holders _) slot new in
      record {
        right = pending.0;
        offered = pending.1;
        has = grind (arith, at);
        group = grind (arith, at, contains-insert, given);
        gone = offers_end s e (offer_key giver giver_page e.pid) (inr (refl, (page, is))) told;
      }

  does : (c : Call) → e.call ≡ c → completes (answer_of s e.pid c) ≡ true → next s e ≡ after s e.pid c
      → Tells s e.pid c (answer s e) → Does s (next s e) e.pid c
  does (call.Load address size) is h goes told = load_does address size is goes
  does (call.Store address size value) is h goes told = store_does address size value is h goes
  does (call.Map page write) is h goes told =
      map_does page write is (ap is_some (may_map s e.pid page (not-refused (map_refusal s e.pid page) _ h)).none) goes
  does (call.Unmap page) is h goes told = unmaps_end s e page is told
  does (call.Accept giver giver_page page) is h goes told = grind (arith, accept_does, not-refused)
  does call.Exit is h goes told = exits_end s e is told
  does _ is h goes told = grind (arith, get-inserted, get-insert, same_itself, offers_end)

pub done_means_done : DoneMeansDone
done_means_done s e w done = grind (arith, caller_live, does, next-goes, completes_by_kind)

-- ---- All calls

pub slots_go : SlotsGo
slots_go s e slot w was now =
    let c = some_value (map.get s.spaces slot) was in
    let own : shares s slot slot ≡ true =
    ap (λ (x : Option Cell). unwrap_or (option_map (λ (c : Cell). set.contains c.holders slot) x) false) c.1
    ∙ (w.cells slot c.0 c.1).own in
    elim (sharing_stays s e slot slot w own) [
      | inl still ↦ grind arith
      | inr leaves ↦ grind arith
    ]
