-- What a snapshot begins with, which no image does.
use Rattle.std.specs.Prelude.{ℕ, Bool, false, ◌&&◌, ◌==◌, List, [], ◌∷◌}

-- the four bytes that a snapshot begins with
abbrev pub snapshot_magic : List ℕ
snapshot_magic = 0x6d ∷ 0x43 ∷ 0x32 ∷ 0x57 ∷ []

-- the bytes begin with the four of a snapshot
abbrev pub begins_snapshot : List ℕ → Bool
begins_snapshot (a ∷ b ∷ c ∷ d ∷ rest) = a == 0x6d && b == 0x43 && c == 0x32 && d == 0x57
begins_snapshot _ = false
