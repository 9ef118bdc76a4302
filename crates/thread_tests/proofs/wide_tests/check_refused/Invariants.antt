use Rattle.thread_tests.proofs.wide_tests.check_refused.Given as goal

-- the kernel that was just booted
abbrev pub ghosts-empty : goal.ghosts-empty
ghosts-empty g a = record { frames = a.blank.frames; book = a.blank.book }
