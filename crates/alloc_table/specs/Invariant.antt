-- The invariant of a frame table: its ledger's free frames are exactly those whose role is Free.
use Rattle.std.specs.Prelude.{◌≡◌, List, length, map, Some, slice_get}
use Rattle.page_words.specs.Marked.{marked_numbers}
use Rattle.frame_ledger.specs.FreeFrames.{FreeFrames}
use Rattle.alloc_table.specs.declared.Role.{Role}
use Rattle.alloc_table.specs.declared.Role.TheVariants.{Reserved}
use Rattle.alloc_table.specs.Roles.{is_free}
use Rattle.alloc_table.specs.Weights.{EachPageHeld}

-- a frame table: a ledger of the free frames, and the roles
pub record IsFrameTable (ledger : FreeFrames) (roles : List Role) : Type 0 where
  pub frames : ledger.frames ≡ length roles
  pub free : ledger.free ≡ marked_numbers (map is_free roles)
  pub reserved : slice_get roles 0 ≡ Some Reserved
  pub held : EachPageHeld roles
