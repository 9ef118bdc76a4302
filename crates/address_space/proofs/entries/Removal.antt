-- A map without a key, and the key put back.
use Rattle.address_space.proofs.Prelude.{arith, ◌≡◌, true, cond, ap, sym, ◌∙◌, inl, inr, Some, None, not, Map, same, Slot, slot_order, same_itself, same_or_not, same_map, get-insert, get-retain_keys}
use Rattle.page_words.specs.FiniteMap as map_of

get-remove : {X : Type 0} (m : Map slot_order X) (k q : Slot) → map_of.get (map_of.remove m k) q ≡ cond (not (same slot_order k q)) (map_of.get m q) None
get-remove m k q = get-retain_keys m (λ j. not (same slot_order k j)) q

pub removed : {X : Type 0} (m : Map slot_order X) (k : Slot) → map_of.get (map_of.remove m k) k ≡ None
removed m k = get-remove m k k ∙ ap (λ b. cond (not b) (map_of.get m k) None) (same_itself slot_order k)

pub kept_other : {X : Type 0} (m : Map slot_order X) (k q : Slot) → (q ≡ k → ⊥) → map_of.get (map_of.remove m k) q ≡ map_of.get m q
kept_other m k q n = get-remove m k q ∙ ap (λ b. cond b (map_of.get m q) None) apart
  where
    apart : not (same slot_order k q) ≡ true
    apart = grind (arith, same_or_not)

-- a map is what is left without a key, with that key put back
pub put_back : {X : Type 0} (m : Map slot_order X) (k : Slot) (x : X) → map_of.get m k ≡ Some x → map_of.insert (map_of.remove m k) k x ≡ m
put_back m k x found = same_map (map_of.insert (map_of.remove m k) k x) m (λ q.
    get-insert (map_of.remove m k) k x q
    ∙ elim (same_or_not slot_order q k) [
      | inl h ↦ ap (λ b. cond b (Some x) (map_of.get (map_of.remove m k) q)) h.1 ∙ sym (ap (map_of.get m) h.0 ∙ found)
      | inr h ↦ ap (λ b. cond b (Some x) (map_of.get (map_of.remove m k) q)) h ∙ kept_other m k q (λ e. let b = same_itself slot_order k in let c : same slot_order q k ≡ true = ap (λ y. same slot_order y k) e ∙ b in cc)
    ])
