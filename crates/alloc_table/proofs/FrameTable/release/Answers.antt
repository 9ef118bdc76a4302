use Rattle.std.proofs.Common.{rules, ◌≡◌, ◌≢◌, Some, sym, ap, ◌∙◌, true, false, arith}
use Rattle.std.specs.Prelude.{slice_get}
use Rattle.std.proofs.lemmas.Option.{slice_get_within}
use Rattle.alloc_table.specs.declared.Role.TheVariants.{Free}
use Rattle.alloc_table.specs.Roles.{released}
use Rattle.alloc_table.proofs.RoleLemmas.{get-set_same}
use Rattle.alloc_table.proofs.TableSteps.{table-kept, table-freed, put_back-may, released_held, released_not_free, role_is}
use Rattle.alloc_table.proofs.FrameTable.release.Goals as goal

pub put_back-requires-clause-in_use : goal.put_back-requires-clause-in_use
put_back-requires-clause-in_use c =
    grind (arith, put_back-may, c.requires.is, c.self.invariant, c.requires.role, c.requires.in_use)

pub invariant_of-self : goal.invariant_of-self
invariant_of-self c =
    grind (arith, table-freed, c.requires.is, c.put_back.ensures, c.self.invariant, c.requires.role, c.requires.in_use)

pub invariant_of-self-else-freed : goal.invariant_of-self-else-freed
invariant_of-self-else-freed c =
    let was = ap (λ l. slice_get l c.args.frame) c.self.view_is ∙ c.requires.is in
    let read : slice_get c.self.inside.roles.items c.args.frame ≡ Some c.role_at-was.result = ap (λ l. slice_get l c.args.frame) (sym c.deref.ensures.value) ∙ c.role_at-was.ensures in
    let role : c.after_release-role.result ≡ released c.requires.role = c.after_release-role.ensures ∙ ap released (role_is c.role_at-was.result c.requires.role (sym read ∙ was)) in
    let other : c.after_release-role.result ≢ Free = search rules in
    rw (c.frame.view_is, role) (table-kept c.self.inside.ledger c.self.inside.roles.items c.self.invariant c.args.frame c.requires.role (released c.requires.role) was c.requires.in_use
    (released_not_free c.requires.role (λ e. other (role ∙ e))) (released_held c.requires.role))

pub returns-then-freed-clause-freed : goal.returns-then-freed-clause-freed
returns-then-freed-clause-freed c =
    grind (arith, get-set_same, slice_get_within, c.requires.is, c.requires.role, c.if-freed.true)

pub returns-else-freed-clause-freed : goal.returns-else-freed-clause-freed
returns-else-freed-clause-freed c =
    grind (arith, get-set_same, slice_get_within, role_is, c.requires.is, c.requires.role, c.if-freed.false)
