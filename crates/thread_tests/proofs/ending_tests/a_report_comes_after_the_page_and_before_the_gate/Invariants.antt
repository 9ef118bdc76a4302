use Rattle.thread_tests.proofs.ending_tests.a_report_comes_after_the_page_and_before_the_gate.Given as goal

-- the kernel that was just booted
abbrev pub ghosts-watched : goal.ghosts-watched
ghosts-watched g a = record { frames = a.blank.frames; book = a.blank.book }
