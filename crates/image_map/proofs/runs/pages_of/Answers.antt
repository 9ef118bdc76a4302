use Rattle.std.proofs.Common.{◌≡◌, ◌+◌, ◌*◌, ◌++◌, sym, ap, ◌∙◌, arith}
use Rattle.std.specs.List.{flat_map, range_with_len}
use Rattle.address_space.specs.Image.{word_of}
use Rattle.memory_image.specs.Image.{memory_of}
use Rattle.image_map.specs.Runs.{page_of, pages_of}
use Rattle.image_map.proofs.RangeTexts.{range_more}
use Rattle.image_map.proofs.runs.pages_of.Goals as goal

pub loop-index-preserved : goal.loop-index-preserved
loop-index-preserved c =
    let page = 1024 * c.args.slot + c.loop-index.index in (
      c.push_page.ensures.items
          ∙ (λ i. c.loop-index.invariant.0 i ++ page_of page (c.word.ensures i))
          ∙ sym (range_more (λ i. page_of (1024 * c.args.slot + i) (word_of (memory_of c.args.image.now) c.args.table i)) 0 c.loop-index.index c.loop-index.index (omega arith)),
      omega (arith, c.loop-index.invariant.1, c.push_page.ensures.len),
    )

pub returns : goal.returns
unfolding pages_of
returns c = c.loop-index.invariant.0 ∙ ap (λ n. flat_map (λ i. page_of (1024 * c.args.slot + i) (word_of (memory_of c.args.image.now) c.args.table i)) (range_with_len 0 n)) (let e : c.loop-index.index ≡ 1024 = omega arith in e)
