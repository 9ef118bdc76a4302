use Rattle.thread_tests.proofs.ending_tests.a_call_tells_the_processors_what_it_ended.Given as goal

-- the kernel that was just booted
abbrev pub ghosts-told : goal.ghosts-told
ghosts-told g a = record { frames = a.blank.frames; book = a.blank.book }
