use Rattle.thread_tests.proofs.contention_tests.four_guests_count_in_one_word.Given as goal

-- the kernel that was just booted
abbrev pub ghosts-four_count : goal.ghosts-four_count
ghosts-four_count g a = record { frames = a.blank.frames; book = a.blank.book }
