use Rattle.address_space.proofs.Prelude.{◌≡◌, ◌+◌, ◌-◌, ◌∙◌, length, arith, part-frame}
use Rattle.address_space.proofs.parts.copy_part.Goals as goal

pub returns : goal.returns
returns c =
    let n = length c.args.out.now in
    let place = c.place_of-place.result in
    let count : place + n - place ≡ n = omega arith in
    let told = rw (c.bytes.ensures, count, c.place_of-place.ensures) at c.copy_from_slice.ensures.after in
    told ∙ part-frame c.args.memory.now c.args.frame c.args.at n c.requires.inside c.requires.frame.fits
