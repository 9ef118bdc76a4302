-- Handles that are filled from the front.
use Rattle.std.specs.Prelude.{ℕ, ◌<◌, List, length, slice_index_or}

-- each of the first so many has this fact
abbrev pub AreSeated : {H : Type 0} → (H → Type 0) → ℕ → List H → Type 0
AreSeated {H} P n handles = (k : ℕ) (d : H) → k < n → k < length handles → P (slice_index_or handles k d)
