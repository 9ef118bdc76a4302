use Rattle.thread_tests.proofs.gate_tests.a_monitor_reports_while_a_call_is_held.Given as goal

-- the kernel that was just booted
abbrev pub ghosts-held : goal.ghosts-held
ghosts-held g a = record { frames = a.blank.frames; book = a.blank.book }
