use Rattle.std.proofs.Common.{[], ◌∷◌, ◌++◌, codes, sym, append_assoc}
use Rattle.std.specs.Prelude.{decimal}
use Rattle.tower_jobs.specs.Races.{line, race_heading}
use Rattle.tower_jobs.proofs.races.heading.Goals as goal

pub returns : goal.returns
unfolding race_heading
returns c = rw (c.push_word.ensures.items, c.push_number.ensures.items, c.new-text.ensures)
    (sym (append_assoc (codes "rounds " ++ decimal c.args.rounds) (10 ∷ []) (line (codes "history legal") ++ (line (codes "report equal") ++ line (codes "verdict sound")))))
