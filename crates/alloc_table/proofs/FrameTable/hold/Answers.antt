use Rattle.std.proofs.Common.{◌≡◌, ◌+◌, Some, refl, sym, ap, ◌∙◌, arith}
use Rattle.std.specs.Prelude.{slice_get}
use Rattle.alloc_table.specs.declared.Role.TheVariants.{Page}
use Rattle.alloc_table.proofs.TableSteps.{table-kept}
use Rattle.alloc_table.proofs.FrameTable.hold.Goals as goal

pub invariant_of-self : goal.invariant_of-self
invariant_of-self c =
    let page : slice_get c.self.inside.roles.items c.frame.inside.0 ≡ Some (Page c.in-Page.count) =
    ap (slice_get c.self.inside.roles.items) c.frame.view_is ∙ ap (λ l. slice_get l c.args.frame) (sym c.deref.ensures.value) ∙ c.in-Page.ensures
    in
    table-kept c.self.inside.ledger c.self.inside.roles.items c.self.invariant c.frame.inside.0 (Page c.in-Page.count) (Page (c.in-Page.count + 1)) page refl refl
    (λ count e. let is : c.in-Page.count + 1 ≡ count = cc in omega arith)
