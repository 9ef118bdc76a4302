-- What a handle of shadow tables owns: the tables at its pointer, or nothing.
use Rattle.std.specs.Prelude.{Option, None, Some}
use base.Fml.{Fml, ftrue}
use denote.RawPtr.{Ptr}
use Rattle.std.specs.Box.Ownership.{box_owns}
use Rattle.std.specs.contracts.alloc.Global as heap
use Rattle.std.specs.contracts.impls.GlobalAllocator.TheImpl.{ghosts}
use Rattle.shadow_tables.specs.Shadow.{Shadow}
use Rattle.shadow_tables.specs.contracts.ShadowTables as tables

-- ownership of the tables' box, if there are any
abbrev pub tables_at : Ptr → (heap.the_row).Denot → Option Shadow → Fml
tables_at at alloc (Some view) = box_owns (ghosts.dealloc_token alloc) tables.the_row at view
tables_at at alloc None = ftrue
