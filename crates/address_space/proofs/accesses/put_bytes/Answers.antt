use Rattle.address_space.proofs.Prelude.{◌≡◌, ap, sym, ◌∙◌, arith, with_word, with_frame, frame_bytes, byte_count, write_at, bytes_of}
use Rattle.address_space.proofs.steps.Stores.{word_placed, word_is_write}
use Rattle.address_space.proofs.accesses.put_bytes.Goals as goal

pub returns-in-Four-clause-frames : goal.returns-in-Four-clause-frames
returns-in-Four-clause-frames c =
    let f = c.args.frame in
    let m = frame_bytes c.args.memory.now in
    let four : byte_count c.args.size ≡ 4 = ap byte_count c.in-Four.is in
    word_placed c.args.memory.now c.write_word.new.self f c.args.at c.args.value c.requires.frame (omega (arith, c.requires.inside, four))
    (c.write_word.ensures.bytes ∙ ap (λ p. with_word c.args.memory.now p c.args.value) c.place_of.ensures)
    ∙ ap (with_frame m f) (word_is_write (m f) c.args.at c.args.value)
    ∙ ap (λ n. with_frame m f (write_at (m f) c.args.at (bytes_of n c.args.value))) (sym four)
