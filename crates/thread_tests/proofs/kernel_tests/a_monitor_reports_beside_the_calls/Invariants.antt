use Rattle.thread_tests.proofs.kernel_tests.a_monitor_reports_beside_the_calls.Given as goal

-- the kernel that was just booted
abbrev pub ghosts-beside : goal.ghosts-beside
ghosts-beside g a = record { frames = a.blank.frames; book = a.blank.book }
