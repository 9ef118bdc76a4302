use Rattle.round_tests.proofs.alone_tests.guests_of_a_kernel_one_after_the_other_run_out_of_turns.Given as goal

-- the kernel that was just booted
abbrev pub ghosts-one_by_one : goal.ghosts-one_by_one
ghosts-one_by_one g a = record { frames = a.blank.frames; book = a.blank.book }
