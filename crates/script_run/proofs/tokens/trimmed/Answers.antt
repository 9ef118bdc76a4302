use Rattle.std.proofs.Common.{◌≡◌, Some, None, position, ap, ◌∙◌, sym}
use Rattle.std.proofs.lemmas.List.{take_rest}
use Rattle.script_run.specs.Operands.{is_trimmed}
use Rattle.script_run.specs.Tokens.{is_visible, tokens_of}
use Rattle.script_run.proofs.TokenLemmas.{no_tokens, same_tokens, trimmed_from}
use Rattle.script_run.proofs.tokens.trimmed.Goals as goal

pub returns-in-Some-clause-tokens : goal.returns-in-Some-clause-tokens
returns-in-Some-clause-tokens c =
    let at : position is_visible c.args.bytes.now ≡ Some c.in-Some.start = cc c.in-Some.ensures in
    ap tokens_of (take_rest c.args.bytes.now c.in-Some.start) ∙ same_tokens c.args.bytes.now c.in-Some.start at

pub returns-in-Some-clause-front : goal.returns-in-Some-clause-front
returns-in-Some-clause-front c =
    let at : position is_visible c.args.bytes.now ≡ Some c.in-Some.start = cc c.in-Some.ensures in
    ap is_trimmed (take_rest c.args.bytes.now c.in-Some.start) ∙ trimmed_from c.args.bytes.now c.in-Some.start at

pub returns-in-None-clause-tokens : goal.returns-in-None-clause-tokens
unfolding tokens_of
returns-in-None-clause-tokens c =
    let none : position is_visible c.args.bytes.now ≡ None = cc c.in-None.ensures in
    sym (no_tokens c.args.bytes.now none)
