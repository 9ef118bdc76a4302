-- What the functions do, each as a relation of handles before and after.
use Rattle.std.specs.Prelude.{◌≡◌, List, [], ◌∷◌, ◌++◌, Option, Some, None, All, true, false}
use Rattle.c_handle.specs.declared.handle.Tower.{Tower}
use Rattle.core_handover.specs.Histories.{Begins, Known, given, known, last_core}
use Rattle.core_handover.specs.Seats.{Seat, seat}
use Rattle.core_handover.specs.declared.given.Given.{Given}
use Rattle.logbook.specs.Pages.{Book}
use Rattle.process_table.specs.View.{View}
use Rattle.tower_threads.specs.Handles.{IsSeated, IsWatching}
use Rattle.tower_threads.specs.declared.handles.TowerCpu.{TowerCpu}
use Rattle.tower_threads.specs.declared.handles.TowerMonitor.{TowerMonitor}

-- the core went from the handle to the room, and the CPUs and monitors know the history that begins with it
pub record IsShared (core : Option View) (tower : Tower) (cpus : List TowerCpu) (monitors : List TowerMonitor) : Type 0 where
  pub book : Book
  pub opening : View
  pub was : core ≡ Some opening
  pub gone : tower.hold.core ≡ None
  pub seats : All (IsSeated (seat book (given opening ∷ []) false)) cpus
  pub watchers : All (IsWatching (known book (given opening ∷ []))) monitors

-- a CPU took the core, which is the last one of the history that it knows then
pub record IsTaken (before : Seat) (after : Option Seat) (core : Option View) : Type 0 where
  pub log : List Given
  pub had : before.has ≡ false
  pub has : after ≡ Some (seat before.book log true)
  pub begins : Begins log before.log
  pub last : core ≡ Some (last_core log)

-- a CPU gave this core back, which the history has then
pub record IsGiven (before : Seat) (after : Option Seat) (core : View) : Type 0 where
  pub had : before.has ≡ true
  pub added : after ≡ Some (seat before.book (before.log ++ given core ∷ []) false)

-- a monitor read a report on a history that begins with the one that it knew
pub record IsRead (before : Known) (after : Option Known) : Type 0 where
  pub now : Known
  pub knows : after ≡ Some now
  pub book : now.book ≡ before.book
  pub begins : Begins now.log before.log
