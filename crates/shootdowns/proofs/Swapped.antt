-- Accesses of mapped pages, and slots that go or lose a right, in either order.
use Rattle.shootdowns.proofs.Prelude.{◌≡◌, ◌≢◌, ℕ, Bool, true, false, cond, List, refl, ap, sym, ◌∙◌, subst, inl, inr, Option, Some, None, unwrap_or, ◌⊎◌, if◌then◌else◌, option_map, same, Set, same_map, same_or_not, same_itself, get-insert, get-map_values, contains-retain, Slot, slot_order, Cell, Spaces, cell_or_fresh, fresh, with_bytes, set_bytes, write_at, stored, accessed, protected, without, get-inserted, fewer, get_gone, bytes_gone, arith}
use Rattle.std.proofs.Common.{not, ◌&&◌}
use Rattle.page_words.specs.FiniteMap as map
use Rattle.page_words.specs.FiniteSet as set
use Rattle.kernel_calls.proofs.Commuting.{two_slots}
use Rattle.shootdowns.proofs.Cells.{written, grouped, cell_at, get_protected, get_stored}

-- what stands at a slot that stays
pub get_staying : (S : Spaces) (gone : Slot → Bool) (b : Slot) → gone b ≡ false → map.get (without S gone) b ≡ option_map (fewer gone) (map.get S b)
get_staying S gone b stays = get_gone S gone b ∙ ap (λ k. option_map (fewer gone) (cond (not k) (map.get S b) None)) stays

cell_staying : (S : Spaces) (gone : Slot → Bool) (b : Slot) (c : Cell) → gone b ≡ false → map.get S b ≡ Some c → cell_or_fresh (without S gone) b ≡ fewer gone c
cell_staying S gone b c stays at = ap (λ (z : Option Cell). unwrap_or z (fresh b true)) (get_staying S gone b stays ∙ ap (option_map (fewer gone)) at)

-- a slot that stays is set
set_gone : (S : Spaces) (gone : Slot → Bool) (b : Slot) (y : Cell) → gone b ≡ false → without (map.insert S b y) gone ≡ map.insert (without S gone) b (fewer gone y)
set_gone S gone b y stays = same_map _ _ (λ r.
    get_gone (map.insert S b y) gone r
    ∙ ap (λ (z : Option Cell). option_map (fewer gone) (cond (not (gone r)) z None)) (get-insert S b y r)
    ∙ by r (same_or_not slot_order r b)
    ∙ sym (get-insert (without S gone) b (fewer gone y) r ∙ ap (cond (same slot_order r b) (Some (fewer gone y))) (get_gone S gone r)))
  where
    by : (r : Slot) → ((r ≡ b) × (same slot_order r b ≡ true)) ⊎ (same slot_order r b ≡ false)
        → option_map (fewer gone) (cond (not (gone r)) (cond (same slot_order r b) (Some y) (map.get S r)) None)
        ≡ cond (same slot_order r b) (Some (fewer gone y)) (option_map (fewer gone) (cond (not (gone r)) (map.get S r) None))
    by r x1 = grind (arith, fewer)

-- a group's bytes, where some of the group are gone
group_gone : (S : Spaces) (gone : Slot → Bool) (h : Set slot_order) (new : List ℕ)
    → set_bytes (without S gone) (set.retain h (λ x. not (gone x))) new ≡ set_bytes (without S gone) h new
group_gone S gone h new = same_map _ _ (λ r.
    get-map_values slot_order (λ k (c : Cell). if set.contains (set.retain h (λ x. not (gone x))) k then with_bytes c new else c) (without S gone) r
    ∙ by r (gone r) refl
    ∙ sym (get-map_values slot_order (λ k (c : Cell). if set.contains h k then with_bytes c new else c) (without S gone) r))
  where
    inside : (b : Bool) → (b && not false) ≡ b
    inside x0 = grind arith

    by : (r : Slot) (b : Bool) → gone r ≡ b
        → option_map (λ (c : Cell). if set.contains (set.retain h (λ x. not (gone x))) r then with_bytes c new else c) (map.get (without S gone) r)
        ≡ option_map (λ (c : Cell). if set.contains h r then with_bytes c new else c) (map.get (without S gone) r)
    by r x1 is = grind (arith, get_gone, fewer, contains-retain, inside)

-- ---- One page

pub accessed_gone : (S : Spaces) (gone : Slot → Bool) (b : Slot) (c : Cell) → gone b ≡ false → map.get S b ≡ Some c
    → without (accessed S b) gone ≡ accessed (without S gone) b
accessed_gone S gone b c stays at =
    ap (λ (k : Cell). without (map.insert S b (record k { accessed = true })) gone) (cell_at S b c at)
    ∙ set_gone S gone b (record c { accessed = true }) stays
    ∙ sym (ap (λ (k : Cell). map.insert (without S gone) b (record k { accessed = true })) (cell_staying S gone b c stays at))

pub stored_gone : (S : Spaces) (gone : Slot → Bool) (b : Slot) (c : Cell) (o : ℕ) (ys : List ℕ) → gone b ≡ false → map.get S b ≡ Some c
    → without (stored S b o ys) gone ≡ stored (without S gone) b o ys
stored_gone S gone b c o ys stays at =
    ap (λ (k : Cell). without (map.insert (set_bytes S k.holders (write_at k.bytes o ys)) b (record k { bytes = write_at k.bytes o ys; accessed = true; dirty = true })) gone) (cell_at S b c at)
    ∙ set_gone (set_bytes S c.holders new) gone b (record c { bytes = new; accessed = true; dirty = true }) stays
    ∙ ap (λ (T : Spaces). map.insert T b (fewer gone (record c { bytes = new; accessed = true; dirty = true })))
    (bytes_gone S gone c.holders new ∙ sym (group_gone S gone c.holders new))
    ∙ sym (ap (λ (k : Cell). map.insert (set_bytes (without S gone) k.holders (write_at k.bytes o ys)) b (record k { bytes = write_at k.bytes o ys; accessed = true; dirty = true })) (cell_staying S gone b c stays at))
  where
    new : List ℕ
    new = write_at c.bytes o ys

twice : (S : Spaces) (a : Slot) (x y : Cell) → map.insert (map.insert S a x) a y ≡ map.insert S a y
twice S a x y = same_map _ _ (λ r.
    get-insert (map.insert S a x) a y r ∙ ap (cond (same slot_order r a) (Some y)) (get-insert S a x r)
    ∙ by (same slot_order r a) (map.get S r) ∙ sym (get-insert S a y r))
  where
    by : (b : Bool) (z : Option Cell) → cond b (Some y) (cond b (Some x) z) ≡ cond b (Some y) z
    by x0 z = grind arith

pub accessed_right : (S : Spaces) (a b : Slot) (w : Bool) → protected (accessed S b) a w ≡ accessed (protected S a w) b
accessed_right S a b w = by (same_or_not slot_order a b)
  where
    apart : same slot_order a b ≡ false → a ≢ b
    apart other is = let k : true ≡ false = sym (same_itself slot_order b) ∙ sym (ap (λ q. same slot_order q b) is) ∙ other in cc

    own : (T : Spaces) → protected (accessed T a) a w ≡ accessed (protected T a w) a
    own T =
        ap (λ (z : Option Cell). map.insert (accessed T a) a (record (unwrap_or z (fresh a true)) { write = w })) (get-inserted T a (record (cell_or_fresh T a) { accessed = true }))
        ∙ twice T a (record (cell_or_fresh T a) { accessed = true }) (record (cell_or_fresh T a) { accessed = true; write = w })
        ∙ sym (twice T a (record (cell_or_fresh T a) { write = w }) (record (cell_or_fresh T a) { accessed = true; write = w }))
        ∙ sym (ap (λ (z : Option Cell). map.insert (protected T a w) a (record (unwrap_or z (fresh a true)) { accessed = true })) (get-inserted T a (record (cell_or_fresh T a) { write = w })))

    by : ((a ≡ b) × (same slot_order a b ≡ true)) ⊎ (same slot_order a b ≡ false) → protected (accessed S b) a w ≡ accessed (protected S a w) b
    by (inl is) = subst (λ q. protected (accessed S q) a w ≡ accessed (protected S a w) q) is.0 (own S)
    by (inr other) = two_slots a b (apart other) (λ z. record (unwrap_or z (fresh a true)) { write = w }) (λ z. record (unwrap_or z (fresh b true)) { accessed = true }) S

pub stored_right : (S : Spaces) (a b : Slot) (c d : Cell) (w : Bool) (o : ℕ) (ys : List ℕ) → a ≢ b → map.get S b ≡ Some c → map.get S a ≡ Some d
    → protected (stored S b o ys) a w ≡ stored (protected S a w) b o ys
stored_right S a b c d w o ys apart at there = same_map _ _ (λ r.
    get_protected (stored S b o ys) a (grouped c o ys a d) left w r
    ∙ ap (cond (same slot_order r a) (Some (record (grouped c o ys a d) { write = w }))) (get_stored S b c at o ys r)
    ∙ by r (same_or_not slot_order r a) (same_or_not slot_order r b)
    ∙ sym (get_stored (protected S a w) b c right o ys r
    ∙ ap (λ (z : Option Cell). cond (same slot_order r b) (Some (written c o ys)) (option_map (grouped c o ys r) z)) (get_protected S a d there w r)))
  where
    other_slot : (x y : Slot) → x ≢ y → same slot_order x y ≡ false
    other_slot x y apart = flip (same_or_not slot_order x y)
      where
        flip : ((x ≡ y) × (same slot_order x y ≡ true)) ⊎ (same slot_order x y ≡ false) → same slot_order x y ≡ false
        flip x0 = grind arith

    left : map.get (stored S b o ys) a ≡ Some (grouped c o ys a d)
    left = get_stored S b c at o ys a ∙ (λ i. cond (other_slot a b apart i) (Some (written c o ys)) (option_map (grouped c o ys a) (there i)))

    right : map.get (protected S a w) b ≡ Some c
    right = get_protected S a d there w b ∙ ap (λ q. cond q (Some (record d { write = w })) (map.get S b)) (other_slot b a (λ is. apart (sym is))) ∙ at

    by : (r : Slot) → ((r ≡ a) × (same slot_order r a ≡ true)) ⊎ (same slot_order r a ≡ false) → ((r ≡ b) × (same slot_order r b ≡ true)) ⊎ (same slot_order r b ≡ false)
        → cond (same slot_order r a) (Some (record (grouped c o ys a d) { write = w })) (cond (same slot_order r b) (Some (written c o ys)) (option_map (grouped c o ys r) (map.get S r)))
        ≡ cond (same slot_order r b) (Some (written c o ys)) (option_map (grouped c o ys r) (cond (same slot_order r a) (Some (record d { write = w })) (map.get S r)))
    by r x1 x2 = grind (arith, grouped, written)
