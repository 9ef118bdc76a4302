use Rattle.std.proofs.Common.{ap, ◌∙◌}
use Rattle.script_run.specs.Lines.{is_blank}
use Rattle.script_run.proofs.TokenLemmas.{blank_front}
use Rattle.script_run.proofs.tokens.is_blank.Goals as goal

pub returns : goal.returns
returns c = c.is_empty.ensures ∙ blank_front c.trimmed.result.now c.trimmed.ensures.front ∙ ap is_blank c.trimmed.ensures.tokens
