use Rattle.std.proofs.Common.{◌≡◌, ℕ, false, subst}
use Rattle.kernel_calls.specs.Translations.{is_all_of}
use Rattle.kernel_calls.specs.Written.{WritesItsOwn}
use Rattle.shadow_tables.specs.Needs.{TablesStay}
use Rattle.shadow_core.specs.Paired.{Paired}
use Rattle.shadow_core.proofs.ShadowedCore.event.Goals as goal

pub returns-clause-tables : goal.returns-clause-tables
returns-clause-tables c =
    subst (λ (w : Paired). (p : ℕ) → is_all_of c.carry_out.result.1 p ≡ false → TablesStay w.shadow p c.carry_out.new.shadow) c.self.view_is c.carry_out.ensures.tables

pub returns-clause-writes : goal.returns-clause-writes
returns-clause-writes c =
    subst (λ (w : Paired). WritesItsOwn w.core c.carry_out.new.core c.args.event.now) c.self.view_is c.carry_out.ensures.writes
