-- The role of each frame, as a list: the map from frame to role is `slice_get`.
use Rattle.std.specs.Prelude.{◌≡◌, ℕ, ◌+◌, ◌-◌, ◌<◌, Bool, true, false, List, replicate, Some, slice_get, slice_set, count_by, sum_by, nat_lt, if◌then◌else◌}
use Rattle.alloc_table.specs.declared.Role.{Role}
use Rattle.alloc_table.specs.declared.Role.TheVariants.{Reserved, Free, Directory, Table, Page}

-- whether a role is Free
abbrev pub is_free : Role → Bool
is_free Reserved = false
is_free Free = true
is_free (Directory pid) = false
is_free (Table pid slot) = false
is_free (Page count) = false

-- the number of free frames
abbrev pub free_frames : List Role → ℕ
free_frames roles = count_by is_free roles

-- frame 0 is reserved, and all others are free
unfoldable pub opening_roles : ℕ → List Role
opening_roles frames = slice_set (replicate frames Free) 0 Reserved

-- the role is one that a free frame may be given: a page has one holder at first
abbrev pub CanBeTaken : Role → Type 0
CanBeTaken Reserved = ⊥
CanBeTaken Free = ⊥
CanBeTaken (Directory pid) = Unit {0}
CanBeTaken (Table pid slot) = Unit {0}
CanBeTaken (Page count) = count ≡ 1

-- a free frame has taken a role
pub record IsTaken (old : List Role) (frame : ℕ) (role : Role) (new : List Role) : Type 0 where
  pub was_free : slice_get old frame ≡ Some Free
  pub now : new ≡ slice_set old frame role

-- the frame is a page with fewer holders than that
pub record IsPageBelow (roles : List Role) (frame most : ℕ) : Type 0 where
  pub count : ℕ
  pub page : slice_get roles frame ≡ Some (Page count)
  pub below : count < most

-- a page has one holder more
pub record IsHeld (old : List Role) (frame : ℕ) (new : List Role) : Type 0 where
  pub count : ℕ
  pub page : slice_get old frame ≡ Some (Page count)
  pub now : new ≡ slice_set old frame (Page (count + 1))

-- whether a frame with this role is a directory, a table or a page
abbrev pub is_in_use : Role → Bool
is_in_use Reserved = false
is_in_use Free = false
is_in_use (Directory pid) = true
is_in_use (Table pid slot) = true
is_in_use (Page count) = true

-- how many frames are directories, tables or pages
abbrev pub frames_in_use : List Role → ℕ
frames_in_use roles = count_by is_in_use roles

-- the frame is a directory, a table or a page
pub record IsInUse (roles : List Role) (frame : ℕ) : Type 0 where
  pub role : Role
  pub is : slice_get roles frame ≡ Some role
  pub in_use : is_in_use role ≡ true

-- a page with one holder less, and what else was in use is free
abbrev pub released : Role → Role
released Reserved = Free
released Free = Free
released (Directory pid) = Free
released (Table pid slot) = Free
released (Page count) = if nat_lt 1 count then Page (count - 1) else Free

-- a frame was released
pub record IsReleased (old : List Role) (frame : ℕ) (new : List Role) : Type 0 where
  pub role : Role
  pub was : slice_get old frame ≡ Some role
  pub now : new ≡ slice_set old frame (released role)

-- what a frame's role weighs: a page as much as it has holders
abbrev pub weight : Role → ℕ
weight Reserved = 1
weight Free = 0
weight (Directory pid) = 1
weight (Table pid slot) = 1
weight (Page count) = count

-- the weight of all frames
abbrev pub frames_weight : List Role → ℕ
frames_weight roles = sum_by weight roles
