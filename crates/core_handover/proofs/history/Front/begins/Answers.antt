use Rattle.std.proofs.Common.{ap, sym, subst, List}
use mathlib.Core.List.{IsPrefix}
use Rattle.core_handover.proofs.Beginnings.{begins_either}
use Rattle.core_handover.specs.Histories.{Begins}
use Rattle.core_handover.specs.declared.given.Given.{Given}
use Rattle.core_handover.proofs.history.Front.begins.Goals as goal

pub returns : goal.returns
returns c =
    let both : List Given = c.learn.new.self.log in
    let this : IsPrefix c.self.inside.seen.log both = subst (λ (l : List Given). IsPrefix l both) (ap (λ s. s.log) c.again-both.ensures) c.learn.ensures.2 in
    let that = c.learn.ensures.3 in
    let one : Begins both c.self.inside.seen.log = (this.0, sym this.1) in
    let other : Begins both c.other.inside.seen.log = (that.0, sym that.1) in
    rw (← c.self.view_is, ← c.other.view_is)
    (begins_either both c.self.inside.seen.log c.other.inside.seen.log c.self.inside.count c.other.inside.count c.self.invariant c.other.invariant one other)
