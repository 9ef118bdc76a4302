use Rattle.std.proofs.Common.{◌+◌, ◌++◌, ◌*◌, ◌-◌, length, length-take, length-drop, drop, replicate, ap, ◌∙◌, arith}
use Rattle.wide_image.proofs.frames.read_frame.Goals as goal

pub returns-clause-store : goal.returns-clause-store
returns-clause-store c = λ ok.
    c.add_frame.ensures.store ok
    ∙ (λ i. c.args.store.now.items ++ (replicate (4096 * (c.number_at-frame.ensures i - length c.args.roles.now.items)) 0 ++ c.part_at.ensures i))

pub returns-clause-room : goal.returns-clause-room
returns-clause-room c = λ a b.
    let n = c.number_at-frame.ensures in
    let p = ap length c.part_at.ensures in
    let t = length-take 4096 (drop (c.args.at + 20) c.args.bytes.now) in
    let d = length-drop (c.args.at + 20) c.args.bytes.now in
    c.add_frame.ensures.room (omega (arith, n, a)) (omega (arith, n, b, p, t, d, c.requires.inside))
