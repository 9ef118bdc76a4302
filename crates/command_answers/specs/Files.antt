-- The word of a command line that names a file, and what is read of that file.
use Rattle.std.specs.Prelude.{◌≡◌, ℕ, Bool, true, List, [], take, Option, Some, IfSome, unwrap_or, slice_get, codes, option_map, option_and_then}
use Rattle.clap.specs.Words.{Row, Rule, Text, new_rule, all_of}
use Rattle.wide_image.specs.FirstBytes.{begins_snapshot}

-- FILE, which must be there
abbrev pub file_argument : Rule
file_argument = record (new_rule (codes "file")) { value_names = 1; required = true }

-- the name of a file as it was given
abbrev pub file_in : List Row → Text
file_in rows = unwrap_or (option_and_then (λ (values : List Text). slice_get values 0) (all_of (codes "file") rows)) []

-- what says that a file has this content, where that is known
abbrev pub Content : Type 1
Content = Option (List ℕ) → Type 0

-- the content of an opened file of that name, of which nothing is read yet
abbrev pub IsOf : {F : Type 0} → (F → Option (List ℕ)) → (Text → F → Type 0) → Text → Content
IsOf {F} remaining named name content = (file : F) × named name file × (content ≡ remaining file)

-- of a file as much is read as the longest image of version 1 or 2 has, and one byte more
abbrev pub IsRead : Option (List ℕ) → List ℕ → Type 0
IsRead remained bytes = IfSome (option_map (take 16844301) remained) (λ input. bytes ≡ input)

-- ---- Its first bytes

-- the first four bytes are those of a snapshot, of any version
abbrev pub says_whole : List ℕ → Bool
says_whole bytes = begins_snapshot bytes

-- this content is the file's, where that is known
abbrev pub IsContent : Option (List ℕ) → Option (List ℕ) → Type 0
IsContent file content = IfSome file (λ bytes. content ≡ Some bytes)

-- known content begins as a snapshot does, or does not
abbrev pub SaysWhole : Bool → Option (List ℕ) → Type 0
SaysWhole whole content = IfSome content (λ bytes. says_whole bytes ≡ whole)
