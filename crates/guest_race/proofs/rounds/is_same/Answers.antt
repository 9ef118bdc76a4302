use Rattle.std.proofs.Common.{◌∙◌, sym}
use Rattle.guest_race.proofs.SameLemmas.{same_rows}
use Rattle.guest_race.proofs.rounds.is_same.Goals as goal

pub returns : goal.returns
returns c = λ same. same_rows c.args.a.now c.args.b.now (sym c.eq.ensures ∙ same)
