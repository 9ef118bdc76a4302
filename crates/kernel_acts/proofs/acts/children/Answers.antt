use Rattle.kernel_acts.proofs.Prelude.{◌≡◌, ◌∙◌, ap, filter, arith, range_with_len, is_child_of}
use Rattle.kernel_acts.proofs.Lists.{filter_range_more, one_more_or_none, rest_later}
use Rattle.kernel_acts.proofs.acts.children.Goals as goal

pub loop-number-preserved : goal.loop-number-preserved
loop-number-preserved c =
    grind (
      arith,
      one_more_or_none,
      filter_range_more,
      rest_later,
      c.loop-number.invariant,
      c.note_if-count.ensures,
      c.is_child.result,
      c.is_child.ensures,
    )

pub returns-clause-children : goal.returns-clause-children
returns-clause-children c =
    let i = c.loop-number.invariant in
    let e : c.loop-number.number ≡ 64 = omega arith in
    i.found ∙ ap (λ n. filter (is_child_of c.args.core.now.state c.args.pid) (range_with_len 0 n)) e
