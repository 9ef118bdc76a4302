-- The state after accesses to bytes in a row, of one mapped page.
use Rattle.std.specs.Prelude.{ℕ, List}
use Rattle.process_table.specs.Below.{offset_number, accessed, stored, slot_at}
use Rattle.process_table.specs.State.{State}

-- after loads of bytes from an address on
abbrev pub after_loads : State → ℕ → ℕ → State
after_loads s p address = record s { spaces = accessed s.spaces (slot_at p address) }

-- after stores of these bytes from an address on
abbrev pub after_stores : State → ℕ → ℕ → List ℕ → State
after_stores s p address bytes = record s { spaces = stored s.spaces (slot_at p address) (offset_number address) bytes }
