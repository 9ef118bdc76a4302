use Rattle.thread_tests.proofs.wide_tests.a_wide_kernel_is_stored_and_resumed.Given as goal

-- the kernel that was just booted
abbrev pub ghosts-in_threads : goal.ghosts-in_threads
ghosts-in_threads g a = record { frames = a.blank.frames; book = a.blank.book }
