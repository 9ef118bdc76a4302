use Rattle.std.proofs.Common.{◌++◌, sym, ◌∙◌, ap}
use Rattle.locked_core.proofs.book.Front.teach.Goals as goal

pub returns-clause-both : goal.returns-clause-both
returns-clause-both g c =
    let mine = c.learn.ensures.2 in
    let other = c.learn.ensures.3 in
    ((mine.0, sym mine.1), (other.0, sym other.1 ∙ ap (λ l. l ++ other.0) c.self.view_is))
