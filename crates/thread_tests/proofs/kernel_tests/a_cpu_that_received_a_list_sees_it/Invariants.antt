use Rattle.thread_tests.proofs.kernel_tests.a_cpu_that_received_a_list_sees_it.Given as goal

-- the kernel that was just booted
abbrev pub ghosts-told_and_called : goal.ghosts-told_and_called
ghosts-told_and_called g a = record { frames = a.blank.frames; book = a.blank.book }
