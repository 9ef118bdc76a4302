-- A worked run in long mode: a page fault, another access by what was cached, and an Unmap.
use Rattle.std.specs.Prelude.{◌≡◌, [], ◌∷◌}
use Rattle.process_table.specs.State.{open_with}
use Rattle.process_table.specs.View.{View}
use Rattle.kernel_acts.specs.Transfers.{load_byte, store_byte}
use Rattle.kernel_calls.specs.declared.calls.Call.TheVariants as call
use Rattle.kernel_calls.specs.declared.calls.Event.{Event}
use Rattle.kernel_calls.specs.declared.calls.Reply.TheVariants as reply
use Rattle.kernel_calls.specs.declared.translations.Ended.TheVariants as end
use Rattle.shootdowns.specs.Windows.{nobody, settled}
use Rattle.long_mode_machine.specs.LongMode.{LongMode}
use Rattle.long_mode_machine.specs.Moves.{IsOpening, Moves}

-- process 0 writes to the first byte of its first page, which is no page yet: the fault is a Store of a zero
abbrev pub touch_it : Event
touch_it = store_byte 0 0x40000000 0

-- it loads that byte
abbrev pub load_it : Event
load_it = load_byte 0 0x40000000

-- it unmaps the page
abbrev pub unmap_it : Event
unmap_it = record { cpu = 0; pid = 0; call = call.Unmap 0x40000 }

-- There are two processors. The first faults, the page gets its translation, and the first caches that. Then the core
-- carries out the Unmap. Before the tables have forgotten, the first processor loads by what it cached. Then they forget,
-- both invalidate, and the reply is returned. The order has the Load before the Unmap, and it reads a zero.
pub record WorkedRun (core : View) : Type 0 where
  pub start : View
  pub opened : start.state ≡ open_with 16
  pub tables : LongMode
  pub opening : IsOpening tables
  pub last : LongMode
  pub moves : Moves 2 (settled end.Nothing nobody start) tables (touch_it ∷ load_it ∷ unmap_it ∷ [])
      (reply.Done ∷ reply.Value 0 ∷ reply.Done ∷ []) (settled end.Nothing nobody core) last
