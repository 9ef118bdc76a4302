-- The rows of a film's data, each a line of words and decimal numbers.
use Rattle.std.specs.Prelude.{ℕ, ◌/◌, ◌%◌, Bool, ◌&&◌, ◌==◌, not, nat_le, nat_lt, if◌then◌else◌, List, [], ◌∷◌, ◌++◌, Option, Some, None, codes, decimal}
use Rattle.std.specs.Char.{digit_char}
use Rattle.std.specs.List.{flat_map}
use Rattle.alloc_table.specs.declared.Role.{Role}
use Rattle.alloc_table.specs.declared.Role.TheVariants.{Reserved, Free, Directory, Table, Page}
use Rattle.kernel_calls.specs.declared.calls.Reply.{Reply}
use Rattle.memory_image.specs.declared.processes.Process.{Process}
use Rattle.script_run.specs.Replies.{reply_line}
use Rattle.script_film.specs.declared.ends.End.{End}
use Rattle.script_film.specs.declared.ends.End.TheVariants.{Whole, Malformed, Cut}

-- ---- A line of the script

-- what stands as it is: visible ASCII and the space, other than < and the backslash
abbrev pub is_plain : ℕ → Bool
is_plain byte = nat_le 32 byte && nat_lt byte 127 && not (byte == 60) && not (byte == 92)

-- any other byte is a backslash and two hexadecimal digits
abbrev pub escaped : ℕ → List ℕ
escaped byte = if is_plain byte then byte ∷ [] else 92 ∷ digit_char (byte / 16) ∷ digit_char (byte % 16) ∷ []

-- the row of a script's line
unfoldable pub line_row : List ℕ → List ℕ
line_row bytes = codes "line " ++ flat_map escaped bytes ++ 10 ∷ []

-- ---- Replies and changes

-- the row of a reply
unfoldable pub reply_row : Reply → List ℕ
reply_row reply = codes "reply " ++ reply_line reply

-- what a frame serves: R reserved, F free, D directory of a process, T table of a process and its slot, P page with
-- that many holders
abbrev pub role_text : Role → List ℕ
role_text Reserved = codes "R"
role_text Free = codes "F"
role_text (Directory p) = codes "D" ++ decimal p
role_text (Table p s) = codes "T" ++ decimal p ++ codes "." ++ decimal s
role_text (Page count) = codes "P" ++ decimal count

-- what a frame served before, and serves after
unfoldable pub role_row : ℕ → Role → Role → List ℕ
role_row f before after = codes "role " ++ decimal f ++ codes " " ++ role_text before ++ codes " " ++ role_text after ++ 10 ∷ []

-- a word of a frame by its index, before and after
unfoldable pub word_row : ℕ → ℕ → ℕ → ℕ → List ℕ
word_row f index before after = codes "word " ++ decimal f ++ codes " " ++ decimal index ++ codes " " ++ decimal before ++ codes " " ++ decimal after ++ 10 ∷ []

-- parent, quota, used, given, directory; a dash where it is not live
abbrev pub process_text : Option Process → List ℕ
process_text None = codes "-"
process_text (Some r) = decimal r.parent ++ codes "," ++ decimal r.quota ++ codes "," ++ decimal r.used ++ codes "," ++ decimal r.given ++ codes "," ++ decimal r.directory

-- what a process has, before and after
unfoldable pub process_row : ℕ → Option Process → Option Process → List ℕ
process_row p before after = codes "process " ++ decimal p ++ codes " " ++ process_text before ++ codes " " ++ process_text after ++ 10 ∷ []

-- ---- The film

-- the first row: the number of frames
unfoldable pub frames_row : ℕ → List ℕ
frames_row n = codes "frames " ++ decimal n ++ 10 ∷ []

-- the end of a film, in words
abbrev pub end_text : End → List ℕ
end_text Whole = codes "whole"
end_text (Malformed line) = codes "malformed " ++ decimal line
end_text Cut = codes "cut"

-- the last row
unfoldable pub end_row : End → List ℕ
end_row end = codes "end " ++ end_text end ++ 10 ∷ []
