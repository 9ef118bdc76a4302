-- No bytes begin as a snapshot and as an image.
use Rattle.std.proofs.Common.{◌≡◌, ℕ, ◌&&◌, Bool, true, false, not, List, [], ◌∷◌, Option, Some, refl, ap, ◌∙◌}
use Rattle.std.specs.Prelude.{◌==◌, if◌then◌else◌}
use Rattle.std.proofs.lemmas.Bool.{and_parts, eqb-true}
use Rattle.memory_image.specs.declared.faults.ImageFault.TheVariants as image
use Rattle.memory_image.specs.Refusals.{begins, fault_of as image_fault}
use Rattle.wide_image.specs.declared.faults.WideImageFault.TheVariants.{NotImage}
use Rattle.wide_image.specs.Apart.{FormatsAreApart}
use Rattle.wide_image.specs.Faults.{fault_of}
use Rattle.wide_image.specs.FirstBytes.{begins_snapshot}

never : (b c : Bool) → c ≡ false → (b && c) ≡ false
never true c h = h
never false c h = refl

refused : {C : Type 0} (b : Bool) (c : C) (rest : Option C) → b ≡ false → (if not b then Some c else rest) ≡ Some c
refused true c rest h = cc
refused false c rest h = refl

-- the fourth byte is another
no_image : (xs : List ℕ) → begins_snapshot xs ≡ true → begins xs ≡ false
no_image [] h = refl
no_image (a ∷ []) h = refl
no_image (a ∷ b ∷ []) h = refl
no_image (a ∷ b ∷ c ∷ []) h = refl
no_image (a ∷ b ∷ c ∷ d ∷ rest) h =
    let k = and_parts (a == 0x6d && b == 0x43 && c == 0x32) (d == 0x57) h in
    never (a == 0x6d && b == 0x43 && c == 0x32) (d == 0x49) (ap (λ n. n == 0x49) (eqb-true d 0x57 k.1))

no_snapshot : (xs : List ℕ) → begins xs ≡ true → begins_snapshot xs ≡ false
no_snapshot [] h = refl
no_snapshot (a ∷ []) h = refl
no_snapshot (a ∷ b ∷ []) h = refl
no_snapshot (a ∷ b ∷ c ∷ []) h = refl
no_snapshot (a ∷ b ∷ c ∷ d ∷ rest) h =
    let k = and_parts (a == 0x6d && b == 0x43 && c == 0x32) (d == 0x49) h in
    never (a == 0x6d && b == 0x43 && c == 0x32) (d == 0x57) (ap (λ n. n == 0x57) (eqb-true d 0x49 k.1))

image_refused : (xs : List ℕ) → begins_snapshot xs ≡ true → image_fault xs ≡ Some image.NotImage
unfolding image_fault
image_refused xs h = refused (begins xs) image.NotImage _ (no_image xs h)

snapshot_refused : (xs : List ℕ) → begins xs ≡ true → fault_of xs ≡ Some NotImage
unfolding fault_of
snapshot_refused xs h = refused (begins_snapshot xs) NotImage _ (no_snapshot xs h)

pub formats_apart : FormatsAreApart
formats_apart xs = (image_refused xs, snapshot_refused xs)
