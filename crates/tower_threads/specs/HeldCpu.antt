-- What a handle of a CPU owns: the CPU at its pointer, or nothing.
use Rattle.std.specs.Prelude.{Option, None, Some}
use base.Fml.{Fml, ftrue}
use denote.RawPtr.{Ptr}
use Rattle.std.specs.Box.Ownership.{box_owns}
use Rattle.std.specs.contracts.alloc.Global as heap
use Rattle.std.specs.contracts.impls.GlobalAllocator.TheImpl.{ghosts}
use Rattle.core_handover.specs.Seats.{Seat}
use Rattle.core_handover.specs.contracts.cpu.Cpu as cpu

-- ownership of the CPU's box, if there is one
abbrev pub cpu_at : Ptr → (heap.the_row).Denot → Option Seat → Fml
cpu_at at alloc (Some view) = box_owns (ghosts.dealloc_token alloc) cpu.the_row at view
cpu_at at alloc None = ftrue
