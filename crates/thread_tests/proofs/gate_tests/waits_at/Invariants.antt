use Rattle.thread_tests.proofs.gate_tests.waits_at.Given as goal

-- the kernel that was just booted
abbrev pub ghosts-waited : goal.ghosts-waited
ghosts-waited g a = record { frames = a.blank.frames; book = a.blank.book }
