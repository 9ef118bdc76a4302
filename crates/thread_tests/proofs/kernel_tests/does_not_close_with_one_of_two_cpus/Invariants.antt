use Rattle.thread_tests.proofs.kernel_tests.does_not_close_with_one_of_two_cpus.Given as goal

-- the kernel that was just booted
abbrev pub ghosts-one_missing : goal.ghosts-one_missing
ghosts-one_missing g a = record { frames = a.blank.frames; book = a.blank.book }
