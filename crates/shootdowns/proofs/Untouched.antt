-- What an access leaves of the bytes of slots that it doesn't touch, and what an event that only takes away leaves.
use Rattle.shootdowns.proofs.Prelude.{◌≡◌, ◌≢◌, ℕ, zero, suc, ◌+◌, ◌/◌, ◌%◌, ◌<◌, Bool, true, false, cond, List, [], ◌∷◌, refl, ap, sym, ◌∙◌, subst, inl, inr, Option, Some, None, unwrap_or, is_some, ◌⊎◌, if◌then◌else◌, IfSome, option_map, page_number, offset_number, page_and, second_page, byte_count, touched, EachTouched, same, same_or_not, get-insert, some_value, Slot, slot_order, Cell, Spaces, at_page, slot_at, cell_or_fresh, fresh, with_bytes, write_at, stored, all_stored, bytes_of, accessed, all_accessed, protected, without, is_slot, is_of, IsThere, with_touched-same, each_byte, State, each_page, answer, answer_of, after, next, completes, Call, Event, fewer, get_gone, next-stays, next-goes, only_takes, arith}
use Rattle.std.proofs.Common.{not}
use Rattle.page_words.specs.FiniteMap as map
use Rattle.page_words.specs.FiniteSet as set
use Rattle.kernel_calls.specs.declared.calls.Call.TheVariants as call
use Rattle.shootdowns.proofs.Cells.{written, get_accessed, get_stored, first_of, rest_of}
use Rattle.shootdowns.proofs.Filled.{protects_mapped, completed}
use Rattle.shootdowns.proofs.Turned.{Grows, has_then, grows_accessed, grows_stored}

-- ---- Bytes of a slot that an access leaves

accessed_bytes : (S : Spaces) (b slot : Slot) (k c : Cell) → map.get S b ≡ Some k → map.get S slot ≡ Some c
    → (d : Cell) × (map.get (accessed S b) slot ≡ Some d) × (d.bytes ≡ c.bytes)
accessed_bytes S b slot k c has at = by (same_or_not slot_order slot b)
  where
    get : (q : Bool) → same slot_order slot b ≡ q → map.get (accessed S b) slot ≡ cond q (Some (record k { accessed = true })) (map.get S slot)
    get q is = get_accessed S b k has slot ∙ ap (λ x. cond x (Some (record k { accessed = true })) (map.get S slot)) is

    by : ((slot ≡ b) × (same slot_order slot b ≡ true)) ⊎ (same slot_order slot b ≡ false) → (d : Cell) × (map.get (accessed S b) slot ≡ Some d) × (d.bytes ≡ c.bytes)
    by (inl is) =
        let q : k ≡ c = cc in
        (record k { accessed = true }, get true is.1, ap (λ (z : Cell). z.bytes) q)
    by (inr other) = (c, get false other ∙ at, refl)

-- a slot that is neither stored to nor in the group
stored_beside : (S : Spaces) (b slot : Slot) (k : Cell) (o : ℕ) (ys : List ℕ) → map.get S b ≡ Some k → slot ≢ b → set.contains k.holders slot ≡ false
    → map.get (stored S b o ys) slot ≡ map.get S slot
stored_beside S b slot k o ys has apart out =
    get_stored S b k has o ys slot
    ∙ (λ i. cond (other (same_or_not slot_order slot b) i) (Some (written k o ys)) (option_map (λ (c : Cell). if out i then with_bytes c (write_at k.bytes o ys) else c) (map.get S slot)))
    ∙ by (map.get S slot)
  where
    other : ((slot ≡ b) × (same slot_order slot b ≡ true)) ⊎ (same slot_order slot b ≡ false) → same slot_order slot b ≡ false
    other x0 = grind arith

    by : (z : Option Cell) → option_map (λ (c : Cell). if false then with_bytes c (write_at k.bytes o ys) else c) z ≡ z
    by x0 = grind arith

-- a slot that is stored to, and has this one neither in its group nor as itself
pub record Beside (S : Spaces) (slot b : Slot) : Type 0 where
  pub cell : Cell
  pub there : map.get S b ≡ Some cell
  pub apart : slot ≢ b
  pub out : set.contains cell.holders slot ≡ false

beside_then : (S T : Spaces) (slot b : Slot) → Grows S T → Beside S slot b → Beside T slot b
beside_then S T slot b grows h =
    let d = grows.cells b h.cell h.there in
    record { cell = d.0; there = d.1; apart = h.apart; out = ap (λ g. set.contains g slot) d.2.holders ∙ h.out }

bytes_beside : (k v a p : ℕ) (S : Spaces) (slot : Slot) → ((i : ℕ) → i < k → Beside S slot (slot_at p (a + i)))
    → map.get (all_stored S p a (bytes_of k v)) slot ≡ map.get S slot
bytes_beside zero v a p S slot each = refl
bytes_beside (suc k) v a p S slot each =
    let T = stored S (slot_at p a) (offset_number a) (v % 256 ∷ []) in
    let here = first_of (λ n. Beside S slot (slot_at p n)) k a each in
    let first = grows_stored S (slot_at p a) here.cell (offset_number a) (v % 256 ∷ []) here.there in
    bytes_beside k (v / 256) (a + 1) p T slot
    (λ i l. beside_then S T slot (slot_at p (a + 1 + i)) first (rest_of (λ n. Beside S slot (slot_at p n)) k a each i l))
    ∙ stored_beside S (slot_at p a) slot here.cell (offset_number a) (v % 256 ∷ []) here.there here.apart here.out

-- each page of an access is such
abbrev pub Besides : State → Slot → ℕ → Call → Type 0
Besides s slot p (call.Load addr size) = EachTouched addr size (λ page. Beside s.spaces slot (at_page p page))
Besides s slot p (call.Store addr size value) = EachTouched addr size (λ page. Beside s.spaces slot (at_page p page))
Besides s slot p _ = ⊥

there_is : (S : Spaces) (slot : Slot) (p page : ℕ) → Beside S slot (at_page p page) → IsThere S p page
there_is S slot p page h = ap is_some h.there

pub after_beside : (s : State) (slot : Slot) (p : ℕ) (k : Call) (c : Cell) → Besides s slot p k → map.get s.spaces slot ≡ Some c
    → (d : Cell) × (map.get (after s p k).spaces slot ≡ Some d) × (d.bytes ≡ c.bytes)
after_beside s slot p (call.Load addr size) c h at =
    subst (λ (S : Spaces). (d : Cell) × (map.get (all_accessed S p (touched addr size)) slot ≡ Some d) × (d.bytes ≡ c.bytes))
    (sym (with_touched-same s.spaces p addr size (each_page addr size (λ page. Beside s.spaces slot (at_page p page)) (IsThere s.spaces p) (there_is s.spaces slot p) h)))
    (by (second_page addr size) h.1)
  where
    by : (x : Option ℕ) → IfSome x (λ page. Beside s.spaces slot (at_page p page))
        → (d : Cell) × (map.get (all_accessed s.spaces p (page_and (page_number addr) x)) slot ≡ Some d) × (d.bytes ≡ c.bytes)
    by None k = accessed_bytes s.spaces (at_page p (page_number addr)) slot h.0.cell c h.0.there at
    by (Some page) k =
        let T = accessed s.spaces (at_page p (page_number addr)) in
        let first = accessed_bytes s.spaces (at_page p (page_number addr)) slot h.0.cell c h.0.there at in
        let there = has_then s.spaces T (at_page p page) (grows_accessed s.spaces (at_page p (page_number addr)) h.0.cell h.0.there) (k.cell, k.there) in
        let second = accessed_bytes T (at_page p page) slot there.0 first.0 there.1 first.1 in
        (second.0, second.1, second.2 ∙ first.2)
after_beside s slot p (call.Store addr size value) c h at = (
  c,
  ap (λ (S : Spaces). map.get (all_stored S p addr (bytes_of (byte_count size) value)) slot)
      (with_touched-same s.spaces p addr size (each_page addr size (λ page. Beside s.spaces slot (at_page p page)) (IsThere s.spaces p) (there_is s.spaces slot p) h))
      ∙ bytes_beside (byte_count size) value addr p s.spaces slot (λ i l. each_byte addr size (λ page. Beside s.spaces slot (at_page p page)) h i l) ∙ at,
  refl,
)
after_beside s slot p _ c h at = absurd h

-- ---- What was there before an event that only takes away

-- the cell of a slot that stays mapped had the same bytes, and the right to write that it has
pub record Was (s : State) (slot : Slot) (d : Cell) : Type 0 where
  pub cell : Cell
  pub there : map.get s.spaces slot ≡ Some cell
  pub bytes : d.bytes ≡ cell.bytes
  pub write : d.write ≡ true → cell.write ≡ true
  pub accessed : d.accessed ≡ cell.accessed
  pub dirty : d.dirty ≡ cell.dirty

was_gone : (s : State) (gone : Slot → Bool) (slot : Slot) (d : Cell) → map.get (without s.spaces gone) slot ≡ Some d → Was s slot d
was_gone s gone slot d at = by (gone slot) refl (map.get s.spaces slot) refl (sym (get_gone s.spaces gone slot) ∙ at)
  where
    by : (b : Bool) → gone slot ≡ b → (z : Option Cell) → map.get s.spaces slot ≡ z → option_map (fewer gone) (cond (not (gone slot)) (map.get s.spaces slot) None) ≡ Some d → Was s slot d
    by true is z there h = absurd (let k : None ≡ Some d = sym (ap (λ b. option_map (fewer gone) (cond (not b) (map.get s.spaces slot) None)) is) ∙ h in cc)
    by false is None there h = absurd (let k : None ≡ Some d = sym (λ i. option_map (fewer gone) (cond (not (is i)) (there i) None)) ∙ h in cc)
    by false is (Some c) there h =
        let e : fewer gone c ≡ d = cc in
        record {
          cell = c;
          there = there;
          bytes = ap (λ (q : Cell). q.bytes) (sym e);
          write = λ w. ap (λ (q : Cell). q.write) e ∙ w;
          accessed = ap (λ (q : Cell). q.accessed) (sym e);
          dirty = ap (λ (q : Cell). q.dirty) (sym e);
        }

was_right : (s : State) (a slot : Slot) (d : Cell) → is_some (map.get s.spaces a) ≡ true → map.get (protected s.spaces a false) slot ≡ Some d → Was s slot d
was_right s a slot d mapped at = by (same_or_not slot_order slot a)
  where
    new : map.get (protected s.spaces a false) slot ≡ cond (same slot_order slot a) (Some (record (cell_or_fresh s.spaces a) { write = false })) (map.get s.spaces slot)
    new = get-insert s.spaces a (record (cell_or_fresh s.spaces a) { write = false }) slot

    by : ((slot ≡ a) × (same slot_order slot a ≡ true)) ⊎ (same slot_order slot a ≡ false) → Was s slot d
    by (inl is) =
        let c = some_value (map.get s.spaces a) mapped in
        let own : cell_or_fresh s.spaces a ≡ c.0 = ap (λ (z : Option Cell). unwrap_or z (fresh a true)) c.1 in
        let k : Some (record (cell_or_fresh s.spaces a) { write = false }) ≡ Some d = sym (ap (λ x. cond x (Some (record (cell_or_fresh s.spaces a) { write = false })) (map.get s.spaces slot)) is.1) ∙ sym new ∙ at in
        let e : record (cell_or_fresh s.spaces a) { write = false } ≡ d = cc in
        record {
          cell = c.0;
          there = ap (map.get s.spaces) is.0 ∙ c.1;
          bytes = ap (λ (q : Cell). q.bytes) (sym e) ∙ ap (λ (q : Cell). q.bytes) own;
          write = λ w. absurd (let n : false ≡ true = ap (λ (q : Cell). q.write) e ∙ w in cc);
          accessed = ap (λ (q : Cell). q.accessed) (sym e) ∙ ap (λ (q : Cell). q.accessed) own;
          dirty = ap (λ (q : Cell). q.dirty) (sym e) ∙ ap (λ (q : Cell). q.dirty) own;
        }
    by (inr other) = record {
      cell = d;
      there = sym (ap (λ x. cond x (Some (record (cell_or_fresh s.spaces a) { write = false })) (map.get s.spaces slot)) other) ∙ sym new ∙ at;
      bytes = refl;
      write = λ w. w;
      accessed = refl;
      dirty = refl;
    }

pub was : (s : State) (e : Event) (slot : Slot) (d : Cell) → only_takes e.call ≡ true → map.get (next s e).spaces slot ≡ Some d → Was s slot d
was s e slot d takes at = by (completes (answer s e)) refl
  where
    either : (c : Call) → only_takes c ≡ true → completes (answer_of s e.pid c) ≡ true → map.get (after s e.pid c).spaces slot ≡ Some d → Was s slot d
    either (call.Unmap page) h goes there = was_gone s (is_slot e.pid page) slot d there
    either call.Exit h goes there = was_gone s (is_of e.pid) slot d there
    either (call.Protect page false) h goes there = was_right s (at_page e.pid page) slot d (protects_mapped s e.pid page goes) there
    either _ h goes there = cc

    by : (b : Bool) → completes (answer s e) ≡ b → Was s slot d
    by false stops = record {
      cell = d;
      there = sym (ap (λ (t : State). map.get t.spaces slot) (next-stays s e stops)) ∙ at;
      bytes = refl;
      write = λ w. w;
      accessed = refl;
      dirty = refl;
    }
    by true goes = either e.call takes (completed s e goes) (sym (ap (λ (t : State). map.get t.spaces slot) (next-goes s e goes)) ∙ at)
