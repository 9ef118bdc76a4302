-- What the first bytes of a file say of it.
use Rattle.std.proofs.Common.{◌≡◌, ◌<◌, ℕ, List, [], ◌∷◌, ◌++◌, Option, Some, None, refl, sym, ap, arith, length}
use Rattle.std.specs.Io.KnownBytes.{Consumes, IsAtEnd}
use Rattle.std.specs.Fmt.{option_append}
use Rattle.command_answers.specs.Files.{IsContent, SaysWhole, says_whole}

-- they and the rest are the whole
pub content_again : (file rest : Option (List ℕ)) (front : List ℕ) → Consumes file rest front → IsContent file (option_append (Some front) rest)
content_again None rest front read = tt
content_again (Some bytes) None front read = absurd read
content_again (Some bytes) (Some left) front read = ap Some (sym read)

-- four bytes say what more bytes do
four : (front left : List ℕ) → (length front < 4 → left ≡ []) → says_whole (front ++ left) ≡ says_whole front
four [] left end = rw (end (omega arith)) refl
four (a ∷ []) left end = rw (end (omega arith)) refl
four (a ∷ b ∷ []) left end = rw (end (omega arith)) refl
four (a ∷ b ∷ c ∷ []) left end = rw (end (omega arith)) refl
four (a ∷ b ∷ c ∷ d ∷ more) left end = refl

pub says_again : (rest : Option (List ℕ)) (front : List ℕ) → (length front < 4 → IsAtEnd rest) → SaysWhole (says_whole front) (option_append (Some front) rest)
says_again None front end = tt
says_again (Some left) front end = four front left end
