use Rattle.thread_tests.proofs.memory_tests.is_ported_and_taken.Given as goal

-- the kernel that was just booted
abbrev pub ghosts-ported_and_taken : goal.ghosts-ported_and_taken
ghosts-ported_and_taken g a = record { frames = a.blank.frames; book = a.blank.book }
