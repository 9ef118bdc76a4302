use Rattle.thread_tests.proofs.forever_tests.a_million_calls_in_constant_memory.Given as goal

-- the kernel that was just booted
abbrev pub ghosts-million : goal.ghosts-million
ghosts-million g a = record { frames = a.blank.frames; book = a.blank.book }
