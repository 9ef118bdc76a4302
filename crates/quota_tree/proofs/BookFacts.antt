-- Who is a child, and what one entry of the book more or less leaves of the others.
use Rattle.quota_tree.proofs.Prelude
use Prelude.{arith, ◌≡◌, ◌≢◌, ℕ, ◌&&◌, ◌==◌, not, true, false, refl, ap, ◌∙◌, get-insert, same_cases, Book, Member, is_child, eq-eqb, ne_eqb}
use Rattle.std.proofs.Math.Bool.{and-false}
use Rattle.page_words.specs.FiniteMap as map

-- a live process other than 0 is its parent's child
pub child_yes : (p k q : ℕ) → k ≢ 0 → is_child p (k, record { parent = p; quota = q }) ≡ true
child_yes p k q n = λ i. not (ne_eqb k 0 n i) && eq-eqb p p refl i

-- and nobody else's
pub child_no : (p x k q : ℕ) → p ≢ x → is_child x (k, record { parent = p; quota = q }) ≡ false
child_no p x k q n = ap (λ b. not (k == 0) && b) (ne_eqb p x n) ∙ and-false (not (k == 0))

-- one entry more leaves who is live
pub contains_key-insert : (book : Book) (k : ℕ) (m : Member) (x : ℕ) → map.contains_key book x ≡ true → map.contains_key (map.insert book k m) x ≡ true
contains_key-insert book k m x h = grind (arith, get-insert, same_cases)

-- and the other entries
pub get-insert_other : (book : Book) (k : ℕ) (m : Member) (x : ℕ) → x ≢ k → map.get (map.insert book k m) x ≡ map.get book x
get-insert_other book k m x n = grind (arith, get-insert, same_cases)
