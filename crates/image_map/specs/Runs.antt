-- The pages of a table in runs: pages in a row that have one word.
use Rattle.std.specs.Prelude.{ℕ, ◌+◌, ◌-◌, ◌*◌, Bool, true, false, ◌&&◌, ◌==◌, if◌then◌else◌, List, [], ◌∷◌, map, Option, Some, None}
use Rattle.std.specs.List.{flat_map, range_with_len}
use Rattle.page_words.specs.Words.{is_present}
use Rattle.address_space.specs.Image.{table_at, word_of}
use Rattle.memory_image.specs.Image.{Image, role_at, memory_of}
use Rattle.image_check.specs.Verdict.{is_table_of}
use Rattle.image_map.specs.declared.runs.Run.{Run}

-- the run of one page, where its word is present
abbrev pub page_of : ℕ → ℕ → List Run
page_of page word = if is_present word then record { first = page; last = page; word = word } ∷ [] else []

-- the pages of a table, which is that of a slot, in ascending order
unfoldable pub pages_of : Image → ℕ → ℕ → List Run
pages_of image s t = flat_map (λ i. page_of (1024 * s + i) (word_of (memory_of image) t i)) (range_with_len 0 1024)

-- the next run begins where the one ends, and has the same word
abbrev pub goes_on : Run → Run → Bool
goes_on run next = run.last + 1 == next.first && run.word == next.word

-- a run and those after it, each joined to it if it continues it
abbrev pub runs_from : Run → List Run → List Run
runs_from run [] = run ∷ []
runs_from run (next ∷ rest) = if goes_on run next then runs_from (record run { last = next.last }) rest else run ∷ runs_from next rest

-- pages joined into runs
abbrev pub runs_of : List Run → List Run
runs_of [] = []
runs_of (run ∷ rest) = runs_from run rest

-- the table of a process's slot, where the directory names one that has this role
abbrev pub own_if : Image → ℕ → ℕ → Option ℕ → Option ℕ
own_if image p s None = None
own_if image p s (Some t) = if is_table_of p s (role_at image t) then Some t else None

-- the table of process p for region s, if the frame's role says so
abbrev pub own_table : Image → ℕ → ℕ → Option ℕ
own_table image p s = own_if image p s (table_at (memory_of image) p s)

-- the runs of a slot's table
abbrev pub runs_in : Image → ℕ → Option ℕ → List Run
runs_in image s None = []
runs_in image s (Some t) = runs_of (pages_of image s t)

-- the runs of process p in region s
abbrev pub runs_at : Image → ℕ → ℕ → List Run
runs_at image p s = runs_in image s (own_table image p s)

-- the pages of a run, each with its word
abbrev pub pages_in : Run → List (ℕ × ℕ)
pages_in run = map (λ page. (page, run.word)) (range_with_len run.first (run.last + 1 - run.first))
