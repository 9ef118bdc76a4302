use Rattle.phys_memory.proofs.Frames.{frames-with_word_at, frames-with_byte, frames-with_frame_bytes}
use Rattle.phys_memory.proofs.writes_change_one_frame.Goals as goal

pub returns-clause-word : goal.returns-clause-word
returns-clause-word c = frames-with_word_at

pub returns-clause-byte : goal.returns-clause-byte
returns-clause-byte c = frames-with_byte

pub returns-clause-frame : goal.returns-clause-frame
returns-clause-frame c = frames-with_frame_bytes
