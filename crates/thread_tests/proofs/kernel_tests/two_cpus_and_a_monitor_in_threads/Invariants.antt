use Rattle.thread_tests.proofs.kernel_tests.two_cpus_and_a_monitor_in_threads.Given as goal

-- the kernel that was just booted
abbrev pub ghosts-in_threads : goal.ghosts-in_threads
ghosts-in_threads g a = record { frames = a.blank.frames; book = a.blank.book }
