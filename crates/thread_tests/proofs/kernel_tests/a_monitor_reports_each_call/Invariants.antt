use Rattle.thread_tests.proofs.kernel_tests.a_monitor_reports_each_call.Given as goal

-- the kernel that was just booted
abbrev pub ghosts-in_turn : goal.ghosts-in_turn
ghosts-in_turn g a = record { frames = a.blank.frames; book = a.blank.book }
