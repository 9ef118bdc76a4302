-- What a handle of a monitor owns: the monitor at its pointer, or nothing.
use Rattle.std.specs.Prelude.{Option, None, Some}
use base.Fml.{Fml, ftrue}
use denote.RawPtr.{Ptr}
use Rattle.std.specs.Box.Ownership.{box_owns}
use Rattle.std.specs.contracts.alloc.Global as heap
use Rattle.std.specs.contracts.impls.GlobalAllocator.TheImpl.{ghosts}
use Rattle.core_handover.specs.Histories.{Known}
use Rattle.core_handover.specs.contracts.monitor.Monitor as monitor

-- ownership of the monitor's box, if there is one
abbrev pub monitor_at : Ptr → (heap.the_row).Denot → Option Known → Fml
monitor_at at alloc (Some view) = box_owns (ghosts.dealloc_token alloc) monitor.the_row at view
monitor_at at alloc None = ftrue
