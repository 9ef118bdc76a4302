use Rattle.std.proofs.Common.{map, ap, sym, ◌∙◌}
use Rattle.std.proofs.lemmas.Result.{err_from_is_err_and}
use Rattle.clap.specs.Words.{App, fault_of, found_of, is_simple, is_simple_and_free, rows_of, subcommand_of, takes}
use Rattle.tower_cli.proofs.CommandLemmas.{found_is, never_none}
use Rattle.tower_cli.proofs.JobLemmas.{tower_is_simple, tower_is_free}
use Rattle.std.specs.Option.{option_map}
use Rattle.tower_cli.specs.Jobs.{as_asked}
use Rattle.tower_cli.proofs.jobs.job_of.Goals as goal

pub returns-in_err-matches-clause-taken : goal.returns-in_err-matches-clause-taken
returns-in_err-matches-clause-taken g c =
    let p = err_from_is_err_and c.from_residual-in_err-matches.result c.from_residual-in_err-matches.ensures.1 in
    let words = map g.S.AsStr.text c.args.words.now in
    rw (p.1, p.2) (λ taken. c.in_err-matches.ensures.passes (ap (λ (app : App). takes app words) c.in_ok-tower_command.ensures.app ∙ taken))

pub returns-clause-fails : goal.returns-clause-fails
returns-clause-fails g c =
    let words = map g.S.AsStr.text c.args.words.now in
    let app = c.in_ok-tower_command.ensures.app in
    sym (ap (λ (a : App). fault_of a words) app) ∙ c.in_ok-matches.ensures.kinds (ap is_simple_and_free app ∙ tower_is_free)

pub unreachable-requires-in_default-job_named : goal.unreachable-requires-in_default-job_named
unreachable-requires-in_default-job_named g c =
    let words = map g.S.AsStr.text c.args.words.now in
    let app = c.in_ok-tower_command.ensures.app in
    let none = sym (ap (λ (a : App). fault_of a words) app) ∙ c.in_ok-matches.ensures.kinds (ap is_simple_and_free app ∙ tower_is_free) in
    let met = (c.in_ok-matches.ensures.matches (ap is_simple app ∙ tower_is_simple)).1 ∙ ap (λ (a : App). subcommand_of a words) app in
    let is = found_is c.in_ok-matches.matches words c.in-Some.name.now (rows_of (found_of c.in-Some.found.now)) met c.in-Some.ensures.name c.in-Some.ensures.rows in
    never_none words c.in-Some.name.now (rows_of (found_of c.in-Some.found.now)) none is (sym c.job_named.ensures.job ∙ ap (option_map as_asked) c.in_default-job_named.is)
