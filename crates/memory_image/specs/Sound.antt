-- When an image is sound, and which state it represents: as what a machine shows.
use Rattle.std.specs.Prelude.{◌≡◌, ℕ, Option}
use Rattle.std.specs.Option.{option_map}
use Rattle.process_table.specs.State.{State}
use Rattle.process_table.specs.Image as machine
use Rattle.process_table.specs.Image.{Account}
use Rattle.memory_image.specs.declared.processes.Process.{Process}
use Rattle.memory_image.specs.Image.{Image, process_at, memory_of}

-- what the record of a process says of it, apart from its directory
abbrev pub account_from : Process → Account
account_from r = record { parent = r.parent; quota = r.quota; used = r.used; given = r.given }

-- the account of process p
abbrev pub account_at : Image → ℕ → Option Account
account_at image p = option_map account_from (process_at image p)

-- the image as what a machine shows: its memory, by the words of its version, and its accounts
abbrev pub shown_by : Image → machine.Image
shown_by image = record { memory = memory_of image; accounts = account_at image }

-- frames, roles, words and records agree
abbrev pub IsSound : Image → Type 0
IsSound image = machine.IsSoundImage (shown_by image)

-- it is sound, its slots are those of the spaces, and its processes those of the book, charged what they cost;
-- an image holds no offers
abbrev pub StandsFor : Image → State → Type 0
StandsFor image s = machine.StandsFor (shown_by image) s

-- an image represents at most one pair of spaces and book
abbrev pub StandsForOne : Type 0
StandsForOne = (image : Image) (s t : State) → StandsFor image s → StandsFor image t → (s.spaces ≡ t.spaces) × (s.book ≡ t.book)
