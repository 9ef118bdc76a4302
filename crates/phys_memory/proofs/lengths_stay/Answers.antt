use Rattle.phys_memory.proofs.Words.{length-with_word}
use Rattle.phys_memory.proofs.Frames.{length-frame, length-with_frame_bytes}
use Rattle.phys_memory.proofs.lengths_stay.Goals as goal

pub returns-clause-whole : goal.returns-clause-whole
returns-clause-whole c = length-frame

pub returns-clause-word : goal.returns-clause-word
returns-clause-word c = length-with_word

pub returns-clause-frame : goal.returns-clause-frame
returns-clause-frame c = length-with_frame_bytes
