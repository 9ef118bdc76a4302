use Rattle.std.proofs.Common.{Some, ap, ◌∙◌, arith}
use Rattle.std.proofs.lemmas.List.{take_rest}
use Rattle.script_run.specs.Tokens.{tokens_of}
use Rattle.script_run.proofs.FirstNumbers.{size_in_front}
use Rattle.script_run.proofs.lines.next_size.Goals as goal

pub returns : goal.returns
returns c =
    ap (λ xs. Some (c.in_ok-size.size, tokens_of xs)) (take_rest c.args.line.now 2)
    ∙ size_in_front c.args.line.now c.in_ok-size.size (omega arith) (omega arith) (c.ends_at.ensures.ends c.if-not-ends_at.false) c.in_ok-size.ensures
