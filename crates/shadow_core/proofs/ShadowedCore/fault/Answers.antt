use Rattle.std.proofs.Common.{ℕ, subst}
use Rattle.shadow_tables.specs.Needs.{TablesStay}
use Rattle.shadow_core.specs.Paired.{Paired, RootsStay}
use Rattle.shadow_core.proofs.ShadowedCore.fault.Goals as goal

pub returns-clause-roots : goal.returns-clause-roots
returns-clause-roots c = subst (λ (w : Paired). RootsStay w.shadow c.args.pid c.handle_fault.new.shadow) c.self.view_is c.handle_fault.ensures.roots

pub returns-clause-tables : goal.returns-clause-tables
returns-clause-tables c = subst (λ (w : Paired). (p : ℕ) → TablesStay w.shadow p c.handle_fault.new.shadow) c.self.view_is c.handle_fault.ensures.tables
