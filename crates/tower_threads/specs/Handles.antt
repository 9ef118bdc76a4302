-- What handles of CPUs and monitors hold.
use Rattle.std.specs.Prelude.{◌≡◌, List, All, Some, is_some, false}
use Rattle.core_handover.specs.Histories.{Known}
use Rattle.core_handover.specs.Seats.{Seat}
use Rattle.tower_threads.specs.declared.handles.TowerCpu.{TowerCpu}
use Rattle.tower_threads.specs.declared.handles.TowerMonitor.{TowerMonitor}

-- a handle is live where it holds a CPU; C gets such a handle by filling it with zeros
abbrev pub IsTowerCpu : TowerCpu → Type 0
IsTowerCpu cpu = cpu.live ≡ is_some cpu.hold.cpu

-- the same of a monitor
abbrev pub IsTowerMonitor : TowerMonitor → Type 0
IsTowerMonitor monitor = monitor.live ≡ is_some monitor.hold.monitor

-- the handle holds the CPU that is seen so
abbrev pub IsSeated : Seat → TowerCpu → Type 0
IsSeated x handle = (handle.hold.cpu ≡ Some x) × IsTowerCpu handle

-- the same of a monitor
abbrev pub IsWatching : Known → TowerMonitor → Type 0
IsWatching x handle = (handle.hold.monitor ≡ Some x) × IsTowerMonitor handle

-- none of these handles has a CPU or a monitor
abbrev pub AreFree : List TowerCpu → List TowerMonitor → Type 0
AreFree cpus monitors = All (λ c. c.live ≡ false) cpus × All (λ m. m.live ≡ false) monitors
