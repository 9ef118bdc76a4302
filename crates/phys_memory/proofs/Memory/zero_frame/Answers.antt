use Rattle.std.proofs.Common.{◌≡◌, ◌+◌, ◌-◌, ◌*◌, arith}
use Rattle.phys_memory.proofs.Parts.{part_zeroed}
use Rattle.phys_memory.specs.Bytes.{with_frame_bytes}
use Rattle.phys_memory.proofs.Memory.zero_frame.Goals as goal

pub returns-clause-bytes : goal.returns-clause-bytes
unfolding with_frame_bytes
returns-clause-bytes c =
    let f = c.args.frame in
    let place : c.frame.inside.0 * 4096 ≡ 4096 * f = omega (arith, c.frame.view_is) in
    let size : 4096 * f + 4096 - 4096 * f ≡ 4096 = omega arith in
    let zeros = rw (c.deref_mut.ensures.value, c.self.view_is, place, size) at c.fill.ensures.after (λ y same. same) in
    let whole = rw c.self.view_is at c.self.invariant.0 in
    let long = rw (c.deref_mut.ensures.value, c.self.view_is) at c.deref_mut.ensures.len in
    rw (c.deref_mut.ensures.value, c.self.view_is, place, size)
    (part_zeroed c.args.self.now c.fill.new.self (4096 * f) 4096 c.self.inside.bytes.len (omega (arith, long)) (omega (arith, whole, c.requires)) zeros)
