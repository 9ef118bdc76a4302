use Rattle.std.proofs.Common.{sym, ◌∙◌}
use Rattle.image_check.specs.Counts.{names_by, maps_by}
use Rattle.image_check.proofs.AddLemmas.{adds_nothing}
use Rattle.image_check.proofs.SlotLemmas.{names_of_dead, maps_of_dead}
use Rattle.image_check.proofs.process_clauses.judge_process.Goals as goal

pub returns-in-None-clause-names : goal.returns-in-None-clause-names
returns-in-None-clause-names c = adds_nothing c.args.names.now (λ f. names_by c.args.image.now c.args.pid f) (names_of_dead c.args.image.now c.args.pid (sym c.process.ensures.process ∙ c.in-None.is))

pub returns-in-None-clause-maps : goal.returns-in-None-clause-maps
returns-in-None-clause-maps c = adds_nothing c.args.maps.now (λ f. maps_by c.args.image.now c.args.pid f) (maps_of_dead c.args.image.now c.args.pid (sym c.process.ensures.process ∙ c.in-None.is))
