use Rattle.std.proofs.Common.{sym, arith}
use Rattle.phys_memory.proofs.Frames.{frame-blank, frame_past, byte-frame, word_at-frame, word_in-zeros}
use Rattle.phys_memory.proofs.frames_hold_memory.Goals as goal

pub returns-clause-blank : goal.returns-clause-blank
returns-clause-blank c = frame-blank

pub returns-clause-past : goal.returns-clause-past
returns-clause-past c = frame_past

pub returns-clause-bytes : goal.returns-clause-bytes
returns-clause-bytes c = λ bytes frame offset inside. sym (byte-frame bytes frame offset inside)

pub returns-clause-words : goal.returns-clause-words
returns-clause-words c = word_at-frame

pub returns-clause-blank_words : goal.returns-clause-blank_words
returns-clause-blank_words c = λ index below. word_in-zeros 4096 index (omega arith)
