-- Bytes encode one image.
use Rattle.std.proofs.Common.{◌≡◌, ℕ, List, Result, Ok, Err, ap, sym, subst, ◌∙◌}
use Rattle.memory_image.specs.Image.{Image}
use Rattle.memory_image.specs.Spelling.{Spells}
use Rattle.memory_image.proofs.SpellingLemmas.{spelling_is_exact}
use Rattle.image_restore.specs.declared.faults.Failed.{Failed}
use Rattle.image_restore.specs.declared.faults.RestoreFault.{RestoreFault}
use Rattle.image_restore.specs.declared.faults.RestoreFault.TheVariants as fault
use Rattle.tower_images.specs.Audits.{SpellsOne}

-- bytes that spell one image spell no other
pub is_alone : (Holds : Image → Type 0) (bytes : List ℕ) (image : Image) → Spells bytes image → SpellsOne bytes Holds → Holds image
is_alone Holds bytes image spelled other = subst Holds (spelling_is_exact.alone bytes other.0 image other.1.0 spelled) other.1.1

pub ok_or_not : {A B : Type 0} (r : Result A B) (x : A) (y : B) → r ≡ Ok x → r ≡ Err y → ⊥
ok_or_not r x y a b = let h : Ok x ≡ Err y = sym a ∙ b in cc

pub one_fault : {A : Type 0} (r : Result A RestoreFault) (f : RestoreFault) (named : Failed) → r ≡ Err f → f ≡ fault.NotSound named
    → r ≡ Err fault.OldWords → ⊥
one_fault r f named a is b = let h : Err (fault.NotSound named) ≡ Err fault.OldWords = sym (a ∙ ap Err is) ∙ b in cc
