-- What a writer holds after a write that may have been cut short.
use Rattle.std.specs.Prelude.{◌≡◌, ℕ, ◌<◌, List, ◌++◌, length, Option}
use Rattle.std.specs.Io.KnownBytes.{Appends}

-- Known bytes grew by a front of the text, and this rest of it was not written.
pub record LeavesUnwritten (old new : Option (List ℕ)) (text rest : List ℕ) : Type 0 where
  pub written : List ℕ
  pub whole : text ≡ written ++ rest
  pub grown : Appends old new written

-- Known bytes grew by a front of the text, and at least one byte of it was not written.
abbrev pub AppendsFront : Option (List ℕ) → Option (List ℕ) → List ℕ → Type 0
AppendsFront old new text = (rest : List ℕ) × (0 < length rest) × LeavesUnwritten old new text rest
