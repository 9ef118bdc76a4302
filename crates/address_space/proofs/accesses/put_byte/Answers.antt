use Rattle.address_space.proofs.Prelude.{◌%◌, ap, ◌∙◌, arith, slice_set, with_frame, frame_bytes, length-frame}
use Rattle.address_space.proofs.steps.Stores.{byte_placed, byte_is_write}
use Rattle.address_space.proofs.accesses.put_byte.Goals as goal

pub returns-clause-frames : goal.returns-clause-frames
returns-clause-frames c =
    let f = c.args.frame in
    let long = length-frame c.args.memory.now f c.requires.frame.fits in
    byte_placed c.args.memory.now c.write_byte.new.self f c.args.at (c.args.value % 256) c.requires.frame c.requires.inside
    (c.write_byte.ensures.bytes ∙ ap (λ p. slice_set c.args.memory.now p (c.args.value % 256)) c.place_of.ensures)
    ∙ ap (with_frame (frame_bytes c.args.memory.now) f) (byte_is_write (frame_bytes c.args.memory.now f) c.args.at c.args.value (omega (arith, long, c.requires.inside)))
