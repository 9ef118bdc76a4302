use Rattle.std.proofs.Common.{ap, sym, subst, List}
use mathlib.Core.List.{IsPrefix}
use Rattle.locked_core.proofs.Moments.{begins_either, starts_of}
use Rattle.locked_core.proofs.Prefixes.{starts_either}
use Rattle.locked_core.specs.Moments.{Begins, entries_in}
use Rattle.locked_core.specs.declared.moment.Moment.{Moment}
use Rattle.locked_core.proofs.book.Front.begins.Goals as goal

pub returns-clause-order : goal.returns-clause-order
returns-clause-order g c =
    let both : List Moment = c.learn.new.self.log in
    let this : IsPrefix c.self.inside.seen.log both = subst (λ (l : List Moment). IsPrefix l both) (ap (λ s. s.log) c.again-both.ensures) c.learn.ensures.2 in
    let that = c.learn.ensures.3 in
    let one : Begins both c.self.inside.seen.log = (this.0, sym this.1) in
    let other : Begins both c.other.inside.seen.log = (that.0, sym that.1) in
    rw (← c.self.view_is, ← c.other.view_is)
    (starts_either (entries_in both) (entries_in c.self.inside.seen.log) (entries_in c.other.inside.seen.log) c.self.inside.count c.other.inside.count c.self.invariant.0 c.other.invariant.0 (starts_of both c.self.inside.seen.log one) (starts_of both c.other.inside.seen.log other))

pub returns-clause-moments : goal.returns-clause-moments
returns-clause-moments g c =
    let both : List Moment = c.learn.new.self.log in
    let this : IsPrefix c.self.inside.seen.log both = subst (λ (l : List Moment). IsPrefix l both) (ap (λ s. s.log) c.again-both.ensures) c.learn.ensures.2 in
    let that = c.learn.ensures.3 in
    let one : Begins both c.self.inside.seen.log = (this.0, sym this.1) in
    let other : Begins both c.other.inside.seen.log = (that.0, sym that.1) in
    rw (← c.self.view_is, ← c.other.view_is)
    (begins_either both c.self.inside.seen.log c.other.inside.seen.log c.self.inside.count c.other.inside.count c.self.invariant.0 c.other.invariant.0 one other)
