use Rattle.page_map.proofs.Prelude
use Prelude.{◌∙◌, frame_bytes, with_word_in, with_frame}
use Rattle.page_map.proofs.put_copy.Goals as goal

pub returns-clause-frames : goal.returns-clause-frames
returns-clause-frames c e is =
    let m = frame_bytes c.args.memory.now in
    c.set_word.ensures.frames ∙ (λ i. with_frame m c.args.table (with_word_in (m c.args.table) (c.index_of.ensures.value i) (c.copied_word.ensures e is i)))
