use Rattle.memory_image.proofs.ImageReads.{no_word}
use Rattle.memory_image.proofs.images.word_or_zero.Goals as goal

pub returns-else-frame-frames : goal.returns-else-frame-frames
returns-else-frame-frames c = no_word _ c.args.frames c.args.frame c.args.index c.requires.size c.if-frame-frames.false
