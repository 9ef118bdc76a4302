-- The records of frames, which a snapshot ends with: one for each frame that isn't free.
use Rattle.std.specs.Prelude.{◌≡◌, ℕ, ◌+◌, true, false, if◌then◌else◌, List, [], ◌∷◌, ◌++◌, take, drop, replicate}
use Rattle.alloc_table.specs.declared.Role.{Role}
use Rattle.alloc_table.specs.Roles.{is_free}
use Rattle.memory_image.specs.Spelling.{number, role_bytes}

-- a frame's record: its number, its role and its bytes; a free one has none
abbrev pub frame_text : ℕ → Role → List ℕ → List ℕ
frame_text f role part = if is_free role then [] else number f ++ (role_bytes role ++ part)

-- the records of frames from f on, with these roles and bytes
abbrev pub frames_text : ℕ → List Role → List ℕ → List ℕ
frames_text f [] bytes = []
frames_text f (role ∷ roles) bytes = frame_text f role (take 4096 bytes) ++ frames_text (f + 1) roles (drop 4096 bytes)

-- 0 for a free frame, which has no record, and 1 for any other
abbrev pub stored : Role → ℕ
stored role = if is_free role then 0 else 1

-- how many frames aren't free
abbrev pub frames_stored : List Role → ℕ
frames_stored [] = 0
frames_stored (role ∷ roles) = stored role + frames_stored roles

-- free frames hold zeros
abbrev pub AreBlank : List Role → List ℕ → Type 0
AreBlank [] bytes = Unit {0}
AreBlank (role ∷ roles) bytes = (is_free role ≡ true → take 4096 bytes ≡ replicate 4096 0) × AreBlank roles (drop 4096 bytes)

-- frames that aren't free hold the same bytes in both
abbrev pub HoldTheSame : List Role → List ℕ → List ℕ → Type 0
HoldTheSame [] bytes rest = Unit {0}
HoldTheSame (role ∷ roles) bytes rest = (is_free role ≡ false → take 4096 bytes ≡ take 4096 rest) × HoldTheSame roles (drop 4096 bytes) (drop 4096 rest)
