use Rattle.thread_tests.proofs.fork_tests.reports_a_copy.Given as goal

-- the kernel that was just booted
abbrev pub ghosts-copied : goal.ghosts-copied
ghosts-copied g a = record { frames = a.blank.frames; book = a.blank.book }
