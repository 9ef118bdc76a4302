use Rattle.std.proofs.Common.{◌∙◌, sym, refl, arith}
use Rattle.shadow_tables.specs.Shadow.{at_page}
use Rattle.shadow_tables.proofs.WayLemmas.{nothing_after, missing_same}
use Rattle.shadow_tables.proofs.SlotLemmas.{false_true, translations-remove, remove-out, out_of}
use Rattle.shadow_tables.proofs.tables.Tables.forget_page.Goals as goal

pub returns-in-Some-clause-translations : goal.returns-in-Some-clause-translations
returns-in-Some-clause-translations c =
    let changed = c.change.ensures in
    translations-remove c.args.self.now c.change.new.self c.args.pid c.args.page c.table.ensures.process (c.if-not-in_user_range.ensures.0 refl) changed.is changed.others

pub returns-in_default-clause-translations : goal.returns-in_default-clause-translations
returns-in_default-clause-translations c =
    translations-remove c.args.self.now c.args.self.now c.args.pid c.args.page c.table.ensures.process (c.if-not-in_user_range.ensures.0 refl) (nothing_after c.args.self.now c.args.pid c.args.page 3 (omega arith) (sym c.in_default.ensures.way)) (λ q at _ _ _. refl)

pub returns-then-not-in_user_range-clause-translations : goal.returns-then-not-in_user_range-clause-translations
returns-then-not-in_user_range-clause-translations c = remove-out c.args.self.now (at_page c.args.pid c.args.page) (out_of c.args.pid c.args.page (λ user. absurd (false_true (c.if-not-in_user_range.ensures.1 user))))

pub returns-in-Some-clause-missing : goal.returns-in-Some-clause-missing
returns-in-Some-clause-missing c =
    λ p at user. missing_same c.args.self.now c.change.new.self p at (λ d deep. c.change.ensures.ways p at d user deep)

pub returns-in-Some-clause-ways : goal.returns-in-Some-clause-ways
returns-in-Some-clause-ways c = λ q at d frame user deep is. c.change.ensures.ways q at d user deep ∙ is
