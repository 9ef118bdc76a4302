-- Tokens: the runs of bytes other than the space.
use Rattle.std.specs.Prelude.{ℕ, List, [], ◌∷◌, Bool, true, false, not, ◌==◌, filter}
use Rattle.std.specs.List.{slice_split}

-- whether a byte is a space
abbrev pub is_space : ℕ → Bool
is_space byte = byte == 32

-- whether a byte is no space
abbrev pub is_visible : ℕ → Bool
is_visible byte = not (is_space byte)

-- whether a list has a byte
abbrev pub is_run : List ℕ → Bool
is_run [] = false
is_run (byte ∷ bytes) = true

-- what stands between spaces, where it is not empty
unfoldable pub tokens_of : List ℕ → List (List ℕ)
tokens_of line = filter is_run (slice_split is_space line)
