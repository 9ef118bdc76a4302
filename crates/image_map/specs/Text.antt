-- The text of an image: a line for the image, those of each live process, the frames, 64 in a row, and the verdict.
use Rattle.std.specs.Prelude.{ℕ, ◌+◌, ◌-◌, ◌*◌, ◌/◌, ◌%◌, ◌^◌, zero, suc, Bool, true, false, not, ◌||◌, ◌==◌, nat_lt, if◌then◌else◌, min, List, [], ◌∷◌, ◌++◌, map, length, take, replicate, Option, Some, None, codes, decimal}
use Rattle.std.specs.Char.{digit_char}
use Rattle.std.specs.List.{flat_map, list_all, range_with_len}
use Rattle.page_words.specs.Words.{frame_number, is_writable, is_user, is_accessed, is_dirty, has_may, is_granted}
use Rattle.page_map.specs.Pages.{count_range}
use Rattle.alloc_table.specs.declared.Role.{Role}
use Rattle.alloc_table.specs.declared.Role.TheVariants.{Reserved, Free, Directory, Table, Page}
use Rattle.memory_image.specs.declared.processes.Process.{Process}
use Rattle.memory_image.specs.Image.{Image, frames, process_at, role_at}
use Rattle.address_space.specs.ImageWords.{is_lazy_word, lets_write}
use Rattle.image_check.specs.Told.{fails_nothing, verdict_on}
use Rattle.image_check.specs.Text.{verdict_text}
use Rattle.image_map.specs.declared.formats.Format.{Format}
use Rattle.image_map.specs.declared.formats.Format.TheVariants as format
use Rattle.image_map.specs.declared.runs.Run.{Run}
use Rattle.image_map.specs.Runs.{runs_at}

-- ---- Frames

-- # reserved, . free, D directory, T table, P page, S page that more than one slot holds
abbrev pub letter : Option Role → ℕ
letter (Some Reserved) = 35
letter (Some Free) = 46
letter (Some (Directory p)) = 68
letter (Some (Table p s)) = 84
letter (Some (Page count)) = if nat_lt 1 count then 83 else 80
letter None = 32

-- how many frames have this letter
abbrev pub frames_with : Image → ℕ → ℕ
frames_with image c = count_range (λ f. letter (role_at image f) == c) 0 (frames image)

-- the letters of that many frames from a first one on
abbrev pub letters : Image → ℕ → ℕ → List ℕ
letters image first count = map (λ f. letter (role_at image f)) (range_with_len first count)

-- blanks before a number below 10000, so that it ends in the fourth column
abbrev pub padding : ℕ → List ℕ
padding n = if nat_lt n 10 then codes "   " else if nat_lt n 100 then codes "  " else if nat_lt n 1000 then codes " " else []

-- blanks before a number below 10000000, so that it ends in the seventh column
abbrev pub wide_padding : ℕ → List ℕ
wide_padding n =
    if nat_lt n 10 then codes "      " else if nat_lt n 100 then codes "     " else if nat_lt n 1000 then codes "    " else
    if nat_lt n 10000 then codes "   " else if nat_lt n 100000 then codes "  " else if nat_lt n 1000000 then codes " " else []

-- more frames than an image of version 1 or 2 can have
abbrev pub is_wide : Image → Bool
is_wide image = nat_lt 4096 (frames image)

-- how many rows the frames fill, 64 a row
abbrev pub rows : Image → ℕ
rows image = (frames image + 63) / 64

-- how many frames a row has
abbrev pub row_length : Image → ℕ → ℕ
row_length image row = min (frames image - 64 * row) 64

-- the blanks before the number of a row's first frame
abbrev pub margin_blanks : Image → ℕ → List ℕ
margin_blanks image first = if is_wide image then wide_padding first else padding first

-- the number of a row's first frame, and a blank
abbrev pub row_margin : Image → ℕ → List ℕ
row_margin image row = margin_blanks image (64 * row) ++ decimal (64 * row) ++ 32 ∷ []

-- the letters of a row
abbrev pub row_letters : Image → ℕ → List ℕ
row_letters image row = letters image (64 * row) (row_length image row)

-- a row of up to 64 frames, behind the number of the first
abbrev pub row_line : Image → ℕ → List ℕ
row_line image row = row_margin image row ++ row_letters image row ++ 10 ∷ []

-- whether all frames of a row are free
abbrev pub is_free_row : Image → ℕ → Bool
is_free_row image row = list_all (λ c. c == 46) (row_letters image row)

-- how many rows in sequence are free from one on, of so many
unfoldable pub free_rows : Image → ℕ → ℕ → ℕ
free_rows image row zero = 0
free_rows image row (suc left) = if is_free_row image row then suc (free_rows image (row + 1) left) else 0

-- whether a stretch of free rows begins with this one
abbrev pub begins_stretch : Image → ℕ → Bool
begins_stretch image row = row == 0 || not (is_free_row image (row - 1))

-- how many frames a stretch of so many rows has
abbrev pub stretch_length : Image → ℕ → ℕ → ℕ
stretch_length image row count = min (frames image - 64 * row) (64 * count)

-- the line of a stretch: the number of its first frame, and how many it has
unfoldable pub stretch_line : Image → ℕ → ℕ → List ℕ
stretch_line image row count = row_margin image row ++ (codes "free " ++ decimal (stretch_length image row count)) ++ 10 ∷ []

-- The line that begins with a row. Of more than 4,096 frames a stretch of free rows has one line.
unfoldable pub row_text : Image → ℕ → List ℕ
row_text image row =
    if not (is_wide image) || not (is_free_row image row) then row_line image row
    else if begins_stretch image row then stretch_line image row (free_rows image row (rows image - row))
    else []

-- the lines of all rows
unfoldable pub rows_text : Image → List ℕ
rows_text image = flat_map (row_text image) (range_with_len 0 (rows image))

-- the line above the rows, with the legend
abbrev pub frames_heading : List ℕ
frames_heading = codes "frames # reserved . free D directory T table P page S shared" ++ 10 ∷ []

-- the part about frames
unfoldable pub frames_text : Image → List ℕ
frames_text image = frames_heading ++ rows_text image

-- ---- Runs of pages

-- five hexadecimal digits in lower case, the highest first
unfoldable pub five_digits : ℕ → List ℕ
five_digits n = map (λ place. digit_char (n / 16 ^ place % 16)) (4 ∷ 3 ∷ 2 ∷ 1 ∷ 0 ∷ [])

-- a letter where it is so, and else -
abbrev pub letter_if : Bool → ℕ → ℕ
letter_if b c = if b then c else 45

-- r read, w write now, m may write, a accessed, d dirty
abbrev pub flags : ℕ → ℕ → List ℕ
flags version word = letter_if (is_user word) 114 ∷ letter_if (lets_write version word) 119 ∷ letter_if (has_may word) 109 ∷ letter_if (is_accessed word) 97 ∷ letter_if (is_dirty word) 100 ∷ []

-- how many slots hold a page, by its role
abbrev pub holders : Option Role → ℕ
holders (Some (Page count)) = count
holders _ = 0

-- the number of holders of a shared page
abbrev pub holders_text : ℕ → List ℕ
holders_text n = if nat_lt 1 n then codes " holders " ++ decimal n else []

-- lazy, or the frame, with its holders where it has more than one
abbrev pub place : Image → ℕ → List ℕ
place image word = if is_lazy_word image.version word then codes " lazy" else codes " frame " ++ decimal (frame_number word) ++ holders_text (holders (role_at image (frame_number word)))

-- from the first address to the last
unfoldable pub run_line : Image → Run → List ℕ
run_line image run = codes "  " ++ five_digits run.first ++ codes "000-" ++ five_digits run.last ++ codes "fff " ++ flags image.version run.word ++ place image run.word ++ 10 ∷ []

-- how many runs are not listed
unfoldable pub more_line : ℕ → List ℕ
more_line n = if nat_lt 0 n then codes "  runs left out " ++ decimal n ++ 10 ∷ [] else []

-- of a sound image all runs are listed, and else of each table as many as the image has frames
abbrev pub limit : Image → ℕ
limit image = if fails_nothing (verdict_on image) then 1024 else frames image

-- the runs of a slot's table, of which that many are listed at most
abbrev pub runs_text : Image → ℕ → List Run → List ℕ
runs_text image most runs = flat_map (run_line image) (take most runs) ++ more_line (length runs - most)

-- the runs of process p in region s
abbrev pub slot_text : Image → ℕ → ℕ → ℕ → List ℕ
slot_text image most p s = runs_text image most (runs_at image p s)

-- ---- Processes

-- how many of 40 marks a number has of a quota, one more where they aren't whole
abbrev pub marks : ℕ → ℕ → ℕ
marks n quota = if quota == 0 then 0 else (40 * n + (quota - 1)) / quota

-- the marks of a bar for what a process uses, at most 40
abbrev pub used_marks : Process → ℕ
used_marks r = min (marks r.used r.quota) 40

-- the marks of a bar for what a process gave
abbrev pub given_marks : Process → ℕ
given_marks r = min (marks r.given r.quota) (40 - used_marks r)

-- 40 marks: # used, g given, . room
abbrev pub bar : Process → List ℕ
bar r = replicate (used_marks r) 35 ++ replicate (given_marks r) 103 ++ replicate (40 - used_marks r - given_marks r) 46

-- the line of a process
unfoldable pub process_line : ℕ → Process → List ℕ
process_line p r =
    codes "process " ++ decimal p ++ codes " parent " ++ decimal r.parent ++ codes " quota " ++ decimal r.quota ++ codes " used " ++ decimal r.used ++ codes " given " ++ decimal r.given
    ++ codes " room " ++ decimal (r.quota - r.used - r.given) ++ 10 ∷ []

-- the line of a process's bar
unfoldable pub bar_line : Process → List ℕ
bar_line r = codes "  [" ++ bar r ++ codes "]" ++ 10 ∷ []

-- the runs of all its tables, in ascending order
unfoldable pub pages_text : Image → ℕ → ℕ → List ℕ
pages_text image most p = flat_map (slot_text image most p) (range_with_len 256 704)

-- the part about a process
unfoldable pub process_text : Image → ℕ → ℕ → Option Process → List ℕ
process_text image most p None = []
process_text image most p (Some r) = process_line p r ++ (bar_line r ++ pages_text image most p)

-- ---- The whole

-- what a file of this format has
abbrev pub format_words : Format → List ℕ
format_words (format.Image version) = codes "image version " ++ decimal version
format_words format.Snapshot = codes "snapshot"

-- the first line of a map, of a file of this format
unfoldable pub image_line : Format → Image → List ℕ
image_line kind image =
    format_words kind ++ codes " frames " ++ decimal (frames image) ++ codes " reserved " ++ decimal (frames_with image 35) ++ codes " free " ++ decimal (frames_with image 46)
    ++ codes " directory " ++ decimal (frames_with image 68) ++ codes " table " ++ decimal (frames_with image 84) ++ codes " page " ++ decimal (frames_with image 80) ++ codes " shared " ++ decimal (frames_with image 83) ++ 10 ∷ []

-- the part about processes
unfoldable pub processes_text : Image → ℕ → List ℕ
processes_text image most = flat_map (λ p. process_text image most p (process_at image p)) (range_with_len 0 64)

-- the text of an image's map, of a file of this format
unfoldable pub map_text : Format → Image → List ℕ
map_text kind image = image_line kind image ++ (processes_text image (limit image) ++ (frames_text image ++ verdict_text (verdict_on image)))
