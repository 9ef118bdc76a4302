use Rattle.std.proofs.Common.{◌≡◌, ◌∙◌, List, [], ℕ, Option, Some, None, unwrap_or, ap, sym}
use Rattle.std.specs.Prelude.{option_map}
use Rattle.clap.specs.Words.{found_of}
use Rattle.std.specs.Prelude.{codes}
use Rattle.command_answers.proofs.FirstValue.{first_is}
use Rattle.command_answers.proofs.file_words.file_in.Goals as goal

pub returns-in-Some : goal.returns-in-Some
returns-in-Some c =
    let read : option_map (λ s. s.now) c.get_str.result ≡ Some c.in-Some.text.now = ap (option_map (λ s. s.now)) c.in-Some.is in
    ap (λ (o : Option (List ℕ)). unwrap_or o []) (sym read ∙ c.get_str.ensures ∙ first_is (found_of c.args.matches.now) (codes "file"))

pub returns-in-None : goal.returns-in-None
returns-in-None c =
    let read : option_map (λ s. s.now) c.get_str.result ≡ None = ap (option_map (λ s. s.now)) c.in-None.is in
    ap (λ (o : Option (List ℕ)). unwrap_or o []) (sym read ∙ c.get_str.ensures ∙ first_is (found_of c.args.matches.now) (codes "file"))
