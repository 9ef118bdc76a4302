use Rattle.kernel_acts.proofs.Prelude.{◌≡◌, ℕ, ◌+◌, ◌*◌, ◌-◌, ◌∙◌, ap, length, take, drop, arith, part-frame}
use Rattle.kernel_acts.proofs.peeking.copy_part.Goals as goal

pub returns : goal.returns
returns c =
    let n = length c.args.out.now in
    let view = c.frame.view_is in
    let place : ℕ = c.frame.inside.0 * 4096 + c.args.at in
    let count : place + n - place ≡ n = omega arith in
    let here : place ≡ 4096 * c.args.frame + c.args.at = omega (arith, view) in
    let told = rw (c.bytes.ensures, count) at c.copy_from_slice.ensures.after in
    told ∙ ap (λ at. take n (drop at c.args.memory.now)) here ∙ part-frame c.args.memory.now c.args.frame c.args.at n c.requires.inside c.requires.frame
