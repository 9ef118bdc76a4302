-- Lists of eight numbers, one of which may differ.
use Rattle.std.proofs.Common.{◌≡◌, ◌≢◌, ◌==◌, ℕ, zero, suc, [], ◌∷◌, false, refl, arith}
use Rattle.std.specs.Prelude.{slice_index_or}
use Rattle.std.proofs.lemmas.Bool.Decides.{nat_tests}

-- where each number but the one at this place is as it was
pub same_elsewhere : (a0 a1 a2 a3 a4 a5 a6 a7 b0 b1 b2 b3 b4 b5 b6 b7 number : ℕ) → ((number == 0) ≡ false → a0 ≡ b0) → ((number == 1) ≡ false → a1 ≡ b1) → ((number == 2) ≡ false → a2 ≡ b2) → ((number == 3) ≡ false → a3 ≡ b3) → ((number == 4) ≡ false → a4 ≡ b4) → ((number == 5) ≡ false → a5 ≡ b5) → ((number == 6) ≡ false → a6 ≡ b6) → ((number == 7) ≡ false → a7 ≡ b7) → (k : ℕ) → k ≢ number
    → slice_index_or (a0 ∷ a1 ∷ a2 ∷ a3 ∷ a4 ∷ a5 ∷ a6 ∷ a7 ∷ []) k 0 ≡ slice_index_or (b0 ∷ b1 ∷ b2 ∷ b3 ∷ b4 ∷ b5 ∷ b6 ∷ b7 ∷ []) k 0
same_elsewhere a0 a1 a2 a3 a4 a5 a6 a7 b0 b1 b2 b3 b4 b5 b6 b7 number h0 h1 h2 h3 h4 h5 h6 h7 zero apart = h0 (grind (arith, nat_tests, apart))
same_elsewhere a0 a1 a2 a3 a4 a5 a6 a7 b0 b1 b2 b3 b4 b5 b6 b7 number h0 h1 h2 h3 h4 h5 h6 h7 (suc zero) apart = h1 (grind (arith, nat_tests, apart))
same_elsewhere a0 a1 a2 a3 a4 a5 a6 a7 b0 b1 b2 b3 b4 b5 b6 b7 number h0 h1 h2 h3 h4 h5 h6 h7 (suc (suc zero)) apart = h2 (grind (arith, nat_tests, apart))
same_elsewhere a0 a1 a2 a3 a4 a5 a6 a7 b0 b1 b2 b3 b4 b5 b6 b7 number h0 h1 h2 h3 h4 h5 h6 h7 (suc (suc (suc zero))) apart = h3 (grind (arith, nat_tests, apart))
same_elsewhere a0 a1 a2 a3 a4 a5 a6 a7 b0 b1 b2 b3 b4 b5 b6 b7 number h0 h1 h2 h3 h4 h5 h6 h7 (suc (suc (suc (suc zero)))) apart = h4 (grind (arith, nat_tests, apart))
same_elsewhere a0 a1 a2 a3 a4 a5 a6 a7 b0 b1 b2 b3 b4 b5 b6 b7 number h0 h1 h2 h3 h4 h5 h6 h7 (suc (suc (suc (suc (suc zero))))) apart = h5 (grind (arith, nat_tests, apart))
same_elsewhere a0 a1 a2 a3 a4 a5 a6 a7 b0 b1 b2 b3 b4 b5 b6 b7 number h0 h1 h2 h3 h4 h5 h6 h7 (suc (suc (suc (suc (suc (suc zero)))))) apart = h6 (grind (arith, nat_tests, apart))
same_elsewhere a0 a1 a2 a3 a4 a5 a6 a7 b0 b1 b2 b3 b4 b5 b6 b7 number h0 h1 h2 h3 h4 h5 h6 h7 (suc (suc (suc (suc (suc (suc (suc zero))))))) apart = h7 (grind (arith, nat_tests, apart))
same_elsewhere a0 a1 a2 a3 a4 a5 a6 a7 b0 b1 b2 b3 b4 b5 b6 b7 number h0 h1 h2 h3 h4 h5 h6 h7 (suc (suc (suc (suc (suc (suc (suc (suc k)))))))) apart = refl
