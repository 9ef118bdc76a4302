use Rattle.std.proofs.Common.{◌*◌, take, drop, length, length-take, length-drop, ap, ◌∙◌, arith}
use Rattle.wide_image.proofs.WrittenWhole.{frame_part}
use Rattle.wide_image.proofs.machines.part_of.Goals as goal

pub returns-clause-is : goal.returns-clause-is
returns-clause-is c =
    c.part_at.ensures
    ∙ (λ i. take 4096 (drop (4096 * c.frame.view_is i) ((c.bytes.ensures ∙ c.memory.ensures) i)))
    ∙ frame_part c.args.core.now.bytes c.args.frame

pub returns-clause-length : goal.returns-clause-length
returns-clause-length c =
    let p = ap length c.part_at.ensures in
    let t = length-take 4096 (drop (4096 * c.frame.inside.0) c.bytes.result.now) in
    let d = length-drop (4096 * c.frame.inside.0) c.bytes.result.now in
    let b = ap length (c.bytes.ensures ∙ c.memory.ensures) in
    let v = c.frame.view_is in
    omega (arith, p, t, d, b, v, c.frames.ensures.bytes, c.frames.ensures.roles, c.requires)
