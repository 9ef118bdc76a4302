-- Laws of an image's text.
use Rattle.std.specs.Prelude.{◌≡◌, ℕ, Bool, false, List, [], ◌∷◌, map, Option, Some, None}
use Rattle.std.specs.List.{flat_map, range_with_len}
use Rattle.page_words.specs.FiniteMap as finite
use Rattle.page_words.specs.FiniteSet as set
use Rattle.page_words.specs.Words.{frame_number, is_accessed, is_dirty, has_may}
use Rattle.page_map.specs.Pages.{user_pages}
use Rattle.address_space.specs.Spaces.{Slot, Cell, at_page}
use Rattle.address_space.specs.Image.{page_word}
use Rattle.process_table.specs.State.{State}
use Rattle.memory_image.specs.Image.{Image, IsWideImage, role_at, memory_of}
use Rattle.memory_image.specs.Sound.{IsSound, StandsFor}
use Rattle.address_space.specs.ImageWords.{is_lazy_word, lets_write}
use Rattle.image_map.specs.declared.runs.Run.{Run}
use Rattle.image_map.specs.Runs.{runs_at, pages_in}
use Rattle.image_map.specs.Text.{run_line, pages_text, holders, limit}

-- a page, and the flags that its line shows
pub record Listed : Type 0 where
  pub page : ℕ
  pub write : Bool
  pub may : Bool
  pub accessed : Bool
  pub dirty : Bool

-- of a page with its word
abbrev pub listed : ℕ → ℕ × ℕ → Listed
listed version p = record { page = p.0; write = lets_write version p.1; may = has_may p.1; accessed = is_accessed p.1; dirty = is_dirty p.1 }

-- of a page with its cell, where it is mapped
abbrev pub listed_cell : ℕ → Option Cell → List Listed
listed_cell page None = []
listed_cell page (Some c) = record { page = page; write = c.write; may = c.may; accessed = c.accessed; dirty = c.dirty } ∷ []

-- the runs of a process, slot by slot
unfoldable pub runs_by : Image → ℕ → List Run
runs_by image p = flat_map (runs_at image p) (range_with_len 256 704)

-- of a sound image the text has a line for each run of a process
abbrev pub ListsEachRun : Type 0
ListsEachRun = (image : Image) (p : ℕ) → IsWideImage image → IsSound image → pages_text image (limit image) p ≡ flat_map (run_line image) (runs_by image p)

-- and the pages of these runs, one after the other, are the mapped pages of the process in ascending order, each once,
-- with the flags of its cell
abbrev pub ListsEachSlot : Type 0
ListsEachSlot = (image : Image) (s : State) (p : ℕ) → StandsFor image s
    → map (listed image.version) (flat_map pages_in (runs_by image p)) ≡ flat_map (λ page. listed_cell page (finite.get s.spaces (at_page p page))) user_pages

-- the number of holders of a page that isn't lazy is that of the slots of its group
abbrev pub HoldersAreSlots : Type 0
HoldersAreSlots = (image : Image) (s : State) (slot : Slot) (word : ℕ) (c : Cell) → StandsFor image s → page_word (memory_of image) slot ≡ Some word → is_lazy_word image.version word ≡ false
    → finite.get s.spaces slot ≡ Some c → holders (role_at image (frame_number word)) ≡ set.len c.holders
