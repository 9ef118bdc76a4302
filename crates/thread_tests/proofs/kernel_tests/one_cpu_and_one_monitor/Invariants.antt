use Rattle.thread_tests.proofs.kernel_tests.one_cpu_and_one_monitor.Given as goal

-- the kernel that was just booted
abbrev pub ghosts-stored_and_loaded : goal.ghosts-stored_and_loaded
ghosts-stored_and_loaded g a = record { frames = a.blank.frames; book = a.blank.book }
