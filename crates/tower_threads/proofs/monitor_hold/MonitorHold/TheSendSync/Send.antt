-- A handle may pass to another thread: what it owns may, and its block may be freed there.
use Rattle.std.specs.Prelude.{Option, Some, None}
use mir.Raw.{raw}
use base.Fraction.{full_share}
use base.Shift.{Keyless}
use denote.Exit.{Exit, unchanged, leaves, hidden, under}
use denote.Memory.{lone}
use denote.Param.Send.{IsSend, Quiet, AllSend, owning_send, struct_send, part_keyless, sendable}
use denote.RattleType.{RattleType}
use denote.RawPtr.{Ptr, block_ptr, null_ptr, lies_at}
use denote.Struct.Owning.{shape, fields, to}
use denote.Struct.Struct.{exits_of}
use Rattle.std.proofs.Crossing.{frees}
use Rattle.std.specs.contracts.alloc.Global as heap
use Rattle.core_handover.specs.Histories.{Known}
use Rattle.core_handover.specs.contracts.monitor.Monitor as monitor
use Rattle.core_handover.proofs.monitor.Monitor.TheSendSync.{the_send as monitor_send}
use Rattle.tower_threads.specs.HeldMonitor.{monitor_at}
use Rattle.tower_threads.specs.contracts.monitor_hold.MonitorHold.{the_row, the_type}

quiet : {D X : Type 0} (to : D → X) (e : Exit X) → Quiet e → Quiet (hidden (under to e))
quiet to unchanged q = λ x w. tt
quiet to (leaves L l S s r₀) q = λ d. q (to d)

lies : (R : RattleType) → IsSend R → (p : Ptr) (x : R.Denot) → Keyless (lies_at R full_share p x)
lies R s (block_ptr b o) x = part_keyless R s full_share x b o
lies R s null_ptr x = tt

held : (p : Ptr) (a : (heap.the_row).Denot) (c : Option Known) → Keyless (monitor_at p a c)
held p a (Some x) = (lies monitor.the_row monitor_send p x, frees.frees a (raw (lone (monitor.the_row).mir)) p)
held p a None = tt

pub send : IsSend the_row
send =
    let O = the_type in let all : AllSend (fields O) = (search sendable, (search sendable, tt)) in
    owning_send O all (λ d. held d.at d.alloc d.monitor) (λ k. quiet (to O) (exits_of k (fields O)) ((struct_send (shape O) all).leaving k))
