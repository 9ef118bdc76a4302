-- What a handle of shadow tables holds.
use Rattle.std.specs.Prelude.{◌≡◌, is_some}
use Rattle.c_handle.specs.declared.shadow_handle.TowerShadow.{TowerShadow}

-- a handle is live where it holds tables; C gets such a handle by filling it with zeros
abbrev pub IsTowerShadow : TowerShadow → Type 0
IsTowerShadow shadow = shadow.live ≡ is_some shadow.hold.tables
