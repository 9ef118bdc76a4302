use Rattle.thread_tests.proofs.kernel_tests.ports_take_their_own_events.Given as goal

-- the kernel that was just booted
abbrev pub ghosts-ported : goal.ghosts-ported
ghosts-ported g a = record { frames = a.blank.frames; book = a.blank.book }
