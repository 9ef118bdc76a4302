use Rattle.phys_memory.proofs.Words.{word_at-with_word_same, word_at-with_word_other, byte-with_word_other, word_at-lt}
use Rattle.phys_memory.proofs.words_stand_alone.Goals as goal

pub returns-clause-read_back : goal.returns-clause-read_back
returns-clause-read_back c = word_at-with_word_same

pub returns-clause-apart : goal.returns-clause-apart
returns-clause-apart c = λ bytes place other word. word_at-with_word_other bytes place other word

pub returns-clause-fit : goal.returns-clause-fit
returns-clause-fit c = word_at-lt

pub returns-clause-bytes : goal.returns-clause-bytes
returns-clause-bytes c = byte-with_word_other
