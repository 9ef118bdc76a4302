use Rattle.std.proofs.Common.{ap, sym, ◌∙◌, arith}
use Rattle.std.specs.Prelude.{if◌then◌else◌, None}
use Rattle.page_words.specs.Words.{is_present}
use Rattle.page_map.specs.Pages.{counted}
use Rattle.page_map.proofs.PageLemmas.{count_range-zero, count_word}
use Rattle.address_space.specs.Image.{word_of}
use Rattle.memory_image.specs.Image.{memory_of}
use Rattle.address_space.specs.ImageWords.{own_frame}
use Rattle.image_check.specs.Counts.{is_this}
use Rattle.image_check.specs.Adds.{frame_named}
use Rattle.image_check.specs.Verdict.{maps_page}
use Rattle.image_check.proofs.RangeLemmas.{all_starts, all_grows, all_ends}
use Rattle.image_check.proofs.AddLemmas.{adds_begins, adds_goes_on, adds_done, room_goes_on, adds_of}
use Rattle.image_check.proofs.walking.walk_table.Goals as goal

pub loop-index-init : goal.loop-index-init
loop-index-init c = (
  all_starts (λ i. maps_page c.args.image.now (word_of (memory_of c.args.image.now) c.args.table i)) 0,
  sym (count_range-zero _ 0),
  omega arith,
  adds_begins (λ f i. is_this f (frame_named c.args.image.now c.args.table i)) c.args.maps.now 0,
)

pub count_one-requires : goal.count_one-requires
count_one-requires c = room_goes_on (λ f i. is_this f (frame_named c.args.image.now c.args.table i)) c.args.maps.now c.loop-index.maps 0 1024 c.loop-index.index (omega arith) (omega arith) c.requires c.loop-index.invariant.3

pub loop-index-preserved : goal.loop-index-preserved
loop-index-preserved c =
    let image = c.args.image.now in
    let read = c.word-word.ensures in (
      all_grows (λ i. maps_page image (word_of (memory_of image) c.args.table i)) 0 c.loop-index.index c.loop-index.right c.maps_page-right.result (omega arith) c.loop-index.invariant.0 (c.maps_page-right.ensures ∙ ap (maps_page image) read),
      count_word _ c.loop-index.index c.loop-index.words c.word_count-words.result c.loop-index.invariant.1 (c.word_count-words.ensures.count ∙ ap (λ w. counted (is_present w)) read),
      omega (arith, c.loop-index.invariant.2, c.word_count-words.ensures.bound),
      adds_goes_on (λ f i. is_this f (frame_named image c.args.table i)) c.args.maps.now c.loop-index.maps c.count_one.new.counts 0 c.loop-index.index (omega arith) c.loop-index.invariant.3
          (adds_of c.loop-index.maps c.count_one.new.counts c.frame_named.result (frame_named image c.args.table c.loop-index.index)
          (c.frame_named.ensures ∙ ap (λ w. if is_present w then own_frame image.version w else None) read) c.count_one.ensures),
    )

pub returns-clause-right : goal.returns-clause-right
returns-clause-right c = all_ends (λ i. maps_page c.args.image.now (word_of (memory_of c.args.image.now) c.args.table i)) 0 1024 c.loop-index.index c.loop-index.right (omega arith) c.loop-index.invariant.0

pub returns-clause-maps : goal.returns-clause-maps
returns-clause-maps c = adds_done (λ f i. is_this f (frame_named c.args.image.now c.args.table i)) c.args.maps.now c.loop-index.maps 0 1024 c.loop-index.index (omega arith) c.loop-index.invariant.3
