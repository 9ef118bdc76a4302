-- The laws of the weights: what a change of one role leaves of their sum.
use Rattle.std.specs.Prelude.{◌≡◌, ℕ, ◌+◌, ◌<◌, ◌≤◌, List, length, Some, slice_get}
use Rattle.alloc_table.specs.declared.Role.{Role}
use Rattle.alloc_table.specs.declared.Role.TheVariants.{Page}
use Rattle.alloc_table.specs.Roles.{IsTaken, IsHeld, IsReleased, weight, frames_weight, free_frames}

-- each page has a holder
abbrev pub EachPageHeld : List Role → Type 0
EachPageHeld roles = (frame count : ℕ) → slice_get roles frame ≡ Some (Page count) → 0 < count

-- taking a frame adds the weight of its role
abbrev pub TakingAddsTheRole : Type 0
TakingAddsTheRole = (old new : List Role) (frame : ℕ) (role : Role) → IsTaken old frame role new → frames_weight new ≡ frames_weight old + weight role

-- one more holder of a page adds 1
abbrev pub HoldingAddsOne : Type 0
HoldingAddsOne = (old new : List Role) (frame : ℕ) → IsHeld old frame new → frames_weight new ≡ frames_weight old + 1

-- one holder less takes 1 away
abbrev pub ReleasingTakesOne : Type 0
ReleasingTakesOne = (old new : List Role) (frame : ℕ) (release : IsReleased old frame new) → 1 ≤ weight release.role → frames_weight new + 1 ≡ frames_weight old

-- free frames and weights together cover all frames
abbrev pub FreeOrWeighed : Type 0
FreeOrWeighed = (roles : List Role) → EachPageHeld roles → length roles ≤ free_frames roles + frames_weight roles
