use Rattle.std.proofs.Common.{refl, sym, ap, ◌∙◌}
use Rattle.shadow_tables.specs.Shadow.{at_page}
use Rattle.shadow_tables.proofs.SlotLemmas.{false_true, get-out, out_of}
use Rattle.shadow_tables.specs.Tables.{word_of, translation_in}
use Rattle.shadow_tables.proofs.ChangeLemmas.{read_at, read_none}
use Rattle.shadow_tables.proofs.tables.Tables.translation.Goals as goal

pub returns-in_err-table : goal.returns-in_err-table
returns-in_err-table c = c.from_residual.ensures ∙ sym (read_none c.args.self.now c.args.pid c.args.page c.table.ensures.process (c.if-not-in_user_range.ensures.0 refl) (sym c.in_err-table.ensures.way))

pub returns : goal.returns
returns c =
    let t = c.args.self.now in
    let table = c.in_ok-table.table in
    c.translation_in.ensures ∙ ap (translation_in t.block) (c.word.ensures ∙ ap (word_of t table) c.index_at.ensures.value)
    ∙ sym (read_at t c.args.pid c.args.page table c.table.ensures.process (c.if-not-in_user_range.ensures.0 refl) (sym c.in_ok-table.ensures.way))

pub returns-then-not-in_user_range : goal.returns-then-not-in_user_range
returns-then-not-in_user_range c = sym (get-out c.args.self.now (at_page c.args.pid c.args.page) (out_of c.args.pid c.args.page (λ user. absurd (false_true (c.if-not-in_user_range.ensures.1 user)))))
