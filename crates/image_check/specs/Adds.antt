-- Counts, one for each frame, and what was added to them.
use Rattle.std.specs.Prelude.{◌≡◌, ℕ, ◌+◌, ◌*◌, ◌<◌, ◌^◌, ◌==◌, List, length, slice_index, Option, None, Some, if◌then◌else◌}
use Rattle.page_words.specs.Words.{is_present}
use Rattle.address_space.specs.Image.{word_of, table_at}
use Rattle.page_map.specs.Pages.{count_range}
use Rattle.memory_image.specs.Image.{Image, memory_of}
use Rattle.address_space.specs.ImageWords.{own_frame}
use Rattle.image_check.specs.Counts.{is_this, names_by}

-- each frame's count grew by what k gives for it
pub record Adds (old new : List ℕ) (k : ℕ → ℕ) : Type 0 where
  pub same : length new ≡ length old
  pub each : (f : ℕ) → f < length old → slice_index new f ≡ slice_index old f + k f

-- each count may grow by that much
abbrev pub HaveRoom : List ℕ → ℕ → Type 0
HaveRoom counts most = (f : ℕ) → f < length counts → slice_index counts f + most < 2 ^ 32

-- each count may grow by what k gives for it
abbrev pub MayGrow : List ℕ → (ℕ → ℕ) → Type 0
MayGrow counts k = (f : ℕ) → f < length counts → slice_index counts f + k f < 2 ^ 32

-- counts that are all 0
abbrev pub AreZeros : List ℕ → Type 0
AreZeros counts = (f : ℕ) → f < length counts → slice_index counts f ≡ 0

-- the frame of its own that a word of a table names, where it is present
abbrev pub frame_named : Image → ℕ → ℕ → Option ℕ
frame_named image t i = if is_present (word_of (memory_of image) t i) then own_frame image.version (word_of (memory_of image) t i) else None

-- how many words of a table name the frame
abbrev pub words_naming : Image → ℕ → ℕ → ℕ
words_naming image t f = count_range (λ i. is_this f (frame_named image t i)) 0 1024

-- how many of so many directory words, from slot 256 on, name a frame
abbrev pub names_before : Image → ℕ → ℕ → ℕ → ℕ
names_before image p count t = count_range (λ s. is_this t (table_at (memory_of image) p s)) 256 count

-- how often a table counts at a slot that names it: at the first word that does, once for each
abbrev pub times_named : Image → ℕ → ℕ → ℕ → ℕ
times_named image p count t = if names_before image p count t == 0 then names_by image p t else 0

-- how many words of a slot's table name a frame, as often as the table counts there
abbrev pub naming_first : Image → ℕ → ℕ → ℕ → Option ℕ → ℕ
naming_first image p count f None = 0
naming_first image p count f (Some t) = times_named image p count t * words_naming image t f

-- what the slot after so many adds to a frame
abbrev pub maps_first : Image → ℕ → ℕ → ℕ → ℕ
maps_first image p count f = naming_first image p count f (table_at (memory_of image) p (256 + count))

-- these counts, of so many frames, are what k gives
pub record Counts (counts : List ℕ) (n : ℕ) (k : ℕ → ℕ) : Type 0 where
  pub long : length counts ≡ n
  pub each : (f : ℕ) → f < n → slice_index counts f ≡ k f
