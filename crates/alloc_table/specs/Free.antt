-- The free frames, by the roles of all.
use Rattle.std.specs.Prelude.{List, length, map}
use Rattle.page_words.specs.Marked.{marked_numbers}
use Rattle.frame_ledger.specs.FreeFrames.{FreeFrames}
use Rattle.alloc_table.specs.declared.Role.{Role}
use Rattle.alloc_table.specs.Roles.{is_free}

-- the ledger of the frames whose role is Free
abbrev pub free_by : List Role → FreeFrames
free_by roles = record { free = marked_numbers (map is_free roles); frames = length roles }
