use Rattle.thread_tests.proofs.memory_tests.is_stored_and_loaded.Given as goal

-- the kernel that was just booted
abbrev pub ghosts-stored_and_loaded : goal.ghosts-stored_and_loaded
ghosts-stored_and_loaded g a = record { frames = a.blank.frames; book = a.blank.book }
