use Rattle.std.proofs.Common.{◌∙◌}
use Rattle.wide_image.specs.Pieces.{so_far}
use Rattle.wide_image.proofs.Pieces.{text_first}
use Rattle.wide_image.proofs.reader.WideReader.begin.Goals as goal

pub returns-clause-text : goal.returns-clause-text
returns-clause-text c =
    (λ i. so_far (record { front = c.in_ok-front.front; offers = c.new.ensures.items i; roles = c.in-Some.ensures.roles.0 i; bytes = c.in-Some.ensures.bytes.0 i }))
    ∙ text_first c.in_ok-front.front _ c.in_ok-front.ensures.text
