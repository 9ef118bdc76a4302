use Rattle.script_film.proofs.FilmLemmas.{shows_boot}
use Rattle.std.proofs.Common.{◌∙◌, ap, ◌++◌}
use Rattle.script_film.specs.Changes.{changes}
use Rattle.std.specs.Prelude.{None}
use Rattle.script_film.proofs.recording.Recording.begin.Goals as goal

pub returns-clause-records : goal.returns-clause-records
returns-clause-records c = shows_boot c.args.frames c.push_changes.new.text.items c.in_ok-core.core.state c.in_ok-image.image (c.in_ok-push_changes.ensures ∙ ap (λ l. l ++ changes None c.in_ok-image.image) c.new-rows.ensures.items) c.in_ok-core.ensures.opening c.in_ok-image.ensures.stands
