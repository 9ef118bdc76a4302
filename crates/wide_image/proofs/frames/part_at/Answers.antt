use Rattle.std.proofs.Common.{◌≡◌, ◌+◌, ◌-◌, ap, take, drop, arith}
use Rattle.wide_image.proofs.frames.part_at.Goals as goal

pub returns : goal.returns
returns c = ap (λ k. take k (drop c.args.at c.args.bytes.now)) (let e : c.args.at + 4096 - c.args.at ≡ 4096 = omega arith in e)
