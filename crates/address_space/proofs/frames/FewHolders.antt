-- A page has fewer holders than a count can say.
use Rattle.address_space.proofs.Prelude.{◌≡◌, ℕ, zero, suc, ◌*◌, ◌<◌, ◌≤◌, Bool, cond, List, [], ◌∷◌, length, refl, ap, arith, Option, Some, length-append, range_with_len, Page, PageEntry, Frames, change_each, collect, put_some, where_key, length-map, Slot, slot_order, user_slots, slots_below, len-insert, Entries, names, holders_of, nothing, Directories, Roles, entries_in, Pages, length-range_with_len}
use Rattle.page_words.specs.FiniteMap as map
use Rattle.page_words.specs.FiniteSet as set

-- a frame has at most as many holders as there are entries
few_holders : (E : Entries) (f n : ℕ) → map.len E ≤ n → set.len (holders_of E f) ≤ n
few_holders E f n h = let a = kept (map.map_values nothing E).entries in let b = changed E.entries in omega arith
  where
    kept : (es : List (Slot × Unit {0})) → length (where_key slot_order.cmp (λ slot. names f (map.get E slot)) es) ≤ length es
    kept [] = omega arith
    kept (e ∷ es) = step (names f (map.get E e.0)) (kept es)
      where
        step : (b : Bool) → length (where_key slot_order.cmp (λ slot. names f (map.get E slot)) es) ≤ length es
            → length (cond b (e ∷ where_key slot_order.cmp (λ slot. names f (map.get E slot)) es) (where_key slot_order.cmp (λ slot. names f (map.get E slot)) es)) ≤ length (e ∷ es)
        step b h = grind arith

    changed : (es : List (Slot × PageEntry)) → length (change_each nothing es) ≡ length es
    changed [] = refl
    changed (e ∷ es) = ap suc (changed es)

collected : (g : Slot → Option PageEntry) (ks : List Slot) → map.len (collect {o = slot_order} g ks) ≤ length ks
collected g [] = omega arith
collected g (k ∷ ks) = by (g k) (collected g ks)
  where
    by : (x : Option PageEntry) → map.len (collect {o = slot_order} g ks) ≤ length ks → map.len (put_some k x (collect {o = slot_order} g ks)) ≤ length (k ∷ ks)
    by x h = grind (arith, len-insert)

length-slots : (n a k : ℕ) → length (slots_below n (range_with_len a k)) ≡ n * k
length-slots zero a k = omega arith
length-slots (suc n) a k = grind (arith, length-append, length-map, length-range_with_len, length-slots n a k)

user_slots-count : length user_slots ≡ 64 * 0xb0000
unfolding user_slots
user_slots-count = length-slots 64 0x40000 0xb0000

user_slots-few : length user_slots < 4294967295
user_slots-few = let a = user_slots-count in omega (arith, a)

pub count_few : (D : Directories) (m : Frames) (R : Roles) (f c : ℕ) → Pages (entries_in D m) R → R f ≡ Some (Page c) → c < 4294967295
unfolding entries_in
count_few D m R f c h is = grind (arith, few_holders, collected, user_slots-few)
