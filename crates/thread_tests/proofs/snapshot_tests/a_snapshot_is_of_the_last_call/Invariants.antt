use Rattle.thread_tests.proofs.snapshot_tests.a_snapshot_is_of_the_last_call.Given as goal

-- the kernel that was just booted
abbrev pub ghosts-before_and_after : goal.ghosts-before_and_after
ghosts-before_and_after g a = record { frames = a.blank.frames; book = a.blank.book }
