-- What a handle holds.
use Rattle.std.specs.Prelude.{◌≡◌, is_some}
use Rattle.c_handle.specs.declared.handle.Tower.{Tower}

-- a handle is live where it holds a core; C gets such a handle by filling it with zeros
abbrev pub IsTower : Tower → Type 0
IsTower tower = tower.live ≡ is_some tower.hold.core
