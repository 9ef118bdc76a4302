use Rattle.thread_tests.proofs.gate_tests.a_second_cpu_waits_while_a_call_invalidates.Given as goal

-- the kernel that was just booted
abbrev pub ghosts-ended : goal.ghosts-ended
ghosts-ended g a = record { frames = a.blank.frames; book = a.blank.book }
