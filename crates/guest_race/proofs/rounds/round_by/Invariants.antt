use Rattle.guest_race.proofs.rounds.round_by.Given as goal

-- the kernel that was just booted
abbrev pub ghosts-play_round : goal.ghosts-play_round
ghosts-play_round g a = record { frames = a.blank.frames; book = a.blank.book }
