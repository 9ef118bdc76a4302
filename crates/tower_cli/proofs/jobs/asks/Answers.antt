use Rattle.std.proofs.Common.{◌≡◌, ◌∙◌, false, List, ℕ, Option, Some, None, ap, sym}
use Rattle.std.specs.Prelude.{codes, option_map}
use Rattle.std.specs.Option.{option_map_or}
use Rattle.std.specs.Str.{bytes_eq}
use Rattle.clap.specs.Words.{found_of}
use Rattle.command_answers.proofs.FirstValue.{first_is}
use Rattle.tower_cli.proofs.jobs.asks.Goals as goal

pub returns-in-Some : goal.returns-in-Some
returns-in-Some c =
    let read : option_map (λ s. s.now) c.get_str.result ≡ Some c.in-Some.text.now = ap (option_map (λ s. s.now)) c.in-Some.is in
    c.eq.ensures
    ∙ ap (λ (o : Option (List ℕ)). option_map_or (λ text. bytes_eq text (codes "true")) o false) (sym read ∙ c.get_str.ensures ∙ first_is (found_of c.args.matches.now) c.args.name.now)

pub returns-in-None : goal.returns-in-None
returns-in-None c =
    let read : option_map (λ s. s.now) c.get_str.result ≡ None = ap (option_map (λ s. s.now)) c.in-None.is in
    ap (λ (o : Option (List ℕ)). option_map_or (λ text. bytes_eq text (codes "true")) o false) (sym read ∙ c.get_str.ensures ∙ first_is (found_of c.args.matches.now) c.args.name.now)
