use Rattle.page_map.proofs.Prelude
use Prelude.{is_present, counted, ap, ◌∙◌, sym, arith}
use Rattle.page_map.proofs.PageLemmas.{bool_counted, count_range-zero, count_word}
use Rattle.page_map.proofs.words_present.Goals as goal

pub loop-index-init : goal.loop-index-init
loop-index-init c = (sym (count_range-zero _ 0), omega arith)

pub loop-index-preserved : goal.loop-index-preserved
loop-index-preserved c =
    let bit = bool_counted c.present.result in
    let there = ap is_present (c.read.ensures ∙ c.word.ensures) in
    (count_word _ c.loop-index.index c.loop-index.count _ c.loop-index.invariant.0 (bit.0 ∙ ap counted (c.present.ensures ∙ there)), omega (arith, c.loop-index.invariant.1, bit.1))
