-- What the words of an image name, counted: how often a frame is named as a table, and how often as a page.
use Rattle.std.specs.Prelude.{ℕ, zero, suc, ◌+◌, Bool, true, false, ◌&&◌, ◌==◌, Option, Some, None, is_some}
use Rattle.page_words.specs.Words.{is_present}
use Rattle.page_map.specs.Pages.{count_range}
use Rattle.address_space.specs.Spaces.{at_page}
use Rattle.address_space.specs.Image.{table_at, page_word, page_frame, word_of}
use Rattle.memory_image.specs.Image.{Image, memory_of}

-- the sum of what f gives for that many numbers from a first one on
unfoldable pub sum_range : (ℕ → ℕ) → ℕ → ℕ → ℕ
sum_range f first zero = 0
sum_range f first (suc count) = f first + sum_range f (first + 1) count

-- whether that many numbers from a first one on all pass
unfoldable pub all_range : (ℕ → Bool) → ℕ → ℕ → Bool
all_range p first zero = true
all_range p first (suc count) = p first && all_range p (first + 1) count

-- whether there is a number, and it is f
abbrev pub is_this : ℕ → Option ℕ → Bool
is_this f None = false
is_this f (Some g) = g == f

-- the frame of a process's page, where it is mapped and isn't lazy
abbrev pub frame_of : Image → ℕ → ℕ → Option ℕ
frame_of image p page = page_frame (memory_of image) (at_page p page)

-- ---- Of one process

-- how many of a process's directory words name the frame
abbrev pub names_by : Image → ℕ → ℕ → ℕ
names_by image p f = count_range (λ s. is_this f (table_at (memory_of image) p s)) 256 704

-- how many of its pages are mapped to the frame
abbrev pub maps_by : Image → ℕ → ℕ → ℕ
maps_by image p f = count_range (λ page. is_this f (frame_of image p page)) 0x40000 0xb0000

-- how many of its directory words name a table
abbrev pub tables_by : Image → ℕ → ℕ
tables_by image p = count_range (λ s. is_some (table_at (memory_of image) p s)) 256 704

-- how many of its pages are mapped
abbrev pub pages_by : Image → ℕ → ℕ
pages_by image p = count_range (λ page. is_some (page_word (memory_of image) (at_page p page))) 0x40000 0xb0000

-- ---- Of all

-- how often directories name frame f
unfoldable pub names : Image → ℕ → ℕ
names image f = sum_range (λ p. names_by image p f) 0 64

-- how often tables map frame f
unfoldable pub maps : Image → ℕ → ℕ
maps image f = sum_range (λ p. maps_by image p f) 0 64

-- how many words of a table are present
abbrev pub words_in : Image → ℕ → ℕ
words_in image t = count_range (λ i. is_present (word_of (memory_of image) t i)) 0 1024
