use Rattle.std.proofs.Common.{ap, sym, ◌∙◌, arith}
use Rattle.std.specs.Prelude.{codes}
use Rattle.std.proofs.lemmas.Slice.Eq.{text_from_reads}
use Rattle.script_run.specs.Lines.{right_of}
use Rattle.script_run.specs.Operands.{first_by}
use Rattle.script_run.specs.Tokens.{tokens_of}
use Rattle.script_run.proofs.FirstNumbers.{last_to_read, last_to_write}
use Rattle.script_run.proofs.lines.right_of.Goals as goal

pub returns-in-32 : goal.returns-in-32
unfolding tokens_of
returns-in-32 c =
    let text = text_from_reads c.args.line.now (codes " rw") (omega arith) (omega arith, (omega arith, (omega arith, tt))) in
    last_to_write ∙ ap (λ xs. first_by right_of (tokens_of xs)) (sym text)

pub returns-in-32-2 : goal.returns-in-32-2
unfolding tokens_of
returns-in-32-2 c =
    let text = text_from_reads c.args.line.now (codes " ro") (omega arith) (omega arith, (omega arith, (omega arith, tt))) in
    last_to_read ∙ ap (λ xs. first_by right_of (tokens_of xs)) (sym text)
