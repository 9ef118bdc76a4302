use Rattle.thread_tests.proofs.gate_tests.a_call_is_published_before_it_is_back.Given as goal

-- the kernel that was just booted
abbrev pub ghosts-held : goal.ghosts-held
ghosts-held g a = record { frames = a.blank.frames; book = a.blank.book }
