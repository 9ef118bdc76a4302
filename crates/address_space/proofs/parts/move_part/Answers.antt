use Rattle.address_space.proofs.Prelude.{◌+◌, ap, ◌∙◌, length, splice, with_frame, frame_bytes, frames-with_part}
use Rattle.address_space.proofs.steps.Stores.{part_is_write}
use Rattle.address_space.proofs.parts.move_part.Goals as goal

pub returns-clause-frames : goal.returns-clause-frames
returns-clause-frames c =
    let f = c.args.frame in
    let part = c.args.part.now in
    ap frame_bytes (c.write_bytes.ensures.bytes ∙ ap (λ p. splice c.args.memory.now p (p + length part) part) c.place_of.ensures)
    ∙ frames-with_part c.args.memory.now part f c.args.at c.requires.inside c.requires.frame.fits
    ∙ ap (with_frame (frame_bytes c.args.memory.now) f) (part_is_write (frame_bytes c.args.memory.now f) c.args.at part)
