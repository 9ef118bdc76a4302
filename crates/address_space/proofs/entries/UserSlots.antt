-- Every slot of the user range is one of the user slots.
use Rattle.address_space.proofs.Prelude.{◌≡◌, ℕ, zero, suc, ◌+◌, ◌<◌, ◌≤◌, true, false, ◌||◌, List, map, refl, sym, ap, ◌∙◌, arith, inl, inr, list_any, range_with_len, same, nat_order, same_or_not, same_itself, list_any-map, slot_order, at_page, user_slots, slots_below, or-true, list_any-append}

range_any : (x a n : ℕ) → a ≤ x → x < a + n → list_any (λ y. same nat_order x y) (range_with_len a n) ≡ true
range_any x a zero low high = absurd (omega arith)
range_any x a (suc n) low high =
    elim (same_or_not nat_order x a) [
      | inl h ↦ rw h.1 refl
      | inr h ↦ rw h (range_any x (a + 1) n (above x a low (not_same x a h)) (omega arith))
    ]
  where
    not_same : (x a : ℕ) → same nat_order x a ≡ false → (x ≡ a) → ⊥
    not_same x a h e = let b : same nat_order x x ≡ true = same_itself nat_order x in let c : same nat_order x a ≡ true = ap (same nat_order x) (sym e) ∙ b in cc

    above : (x a : ℕ) → a ≤ x → ((x ≡ a) → ⊥) → a + 1 ≤ x
    above x a low n = omega arith

slots_any : (p page n : ℕ) (pages : List ℕ) → p < n → list_any (λ y. same nat_order page y) pages ≡ true → list_any (same slot_order (at_page p page)) (slots_below n pages) ≡ true
slots_any p page zero pages low user = absurd (omega arith)
slots_any p page (suc n) pages low user =
    list_any-append (same slot_order (at_page p page)) (map (at_page n) pages) (slots_below n pages)
    ∙ elim (same_or_not nat_order p n) [
      | inl h ↦ grind (arith, list_any-map)
      | inr h ↦ ap (λ b. list_any (same slot_order (at_page p page)) (map (at_page n) pages) || b) (slots_any p page n pages (below p n low (apart p n h)) user)
          ∙ or-true (list_any (same slot_order (at_page p page)) (map (at_page n) pages))
    ]
  where
    apart : (p n : ℕ) → same nat_order p n ≡ false → (p ≡ n) → ⊥
    apart p n h e = let b : same nat_order p p ≡ true = same_itself nat_order p in let c : same nat_order p n ≡ true = ap (same nat_order p) (sym e) ∙ b in cc

    below : (p n : ℕ) → p < suc n → ((p ≡ n) → ⊥) → p < n
    below p n low d = omega arith

pub in_user_slots : (p page : ℕ) → p < 64 → 0x40000 ≤ page → page < 0xf0000 → list_any (same slot_order (at_page p page)) user_slots ≡ true
unfolding user_slots
in_user_slots p page small low high = slots_any p page 64 (range_with_len 0x40000 0xb0000) small (range_any page 0x40000 0xb0000 low (omega arith))
