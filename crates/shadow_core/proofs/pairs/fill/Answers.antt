use Rattle.shadow_core.proofs.Pairing.{shadowed_fill, has_filled}
use Rattle.shadow_core.proofs.pairs.fill.Goals as goal

pub returns-clause-kept : goal.returns-clause-kept
returns-clause-kept c =
    let t = c.translation_of-translation in
    shadowed_fill c.args.core.now c.args.shadow.now c.fill_along.new.self c.args.pid c.args.address c.page_of.result t.result c.page_of.ensures.value c.requires.shadowed
    c.fill_along.ensures.filled c.fill_along.ensures.fixed.size t.ensures.given

pub returns-clause-filled : goal.returns-clause-filled
returns-clause-filled c =
    let t = c.translation_of-translation in
    has_filled c.args.core.now c.args.shadow.now c.fill_along.new.self c.args.pid c.args.address c.page_of.result c.args.access t.result c.page_of.ensures.value c.requires.user
    t.ensures.given t.ensures.write c.requires.finds c.requires.marked c.fill_along.ensures.filled c.fill_along.ensures.root c.walks.ensures.walks
