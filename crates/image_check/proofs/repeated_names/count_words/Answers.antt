use Rattle.std.proofs.Common.{◌≡◌, ◌*◌, ap, subst, ◌∙◌, sym, arith, Option, ℕ}
use Rattle.std.specs.Prelude.{if◌then◌else◌, None}
use Rattle.page_words.specs.Words.{is_present}
use Rattle.page_map.specs.Pages.{counted, count_range}
use Rattle.address_space.specs.ImageWords.{own_frame}
use Rattle.image_check.specs.Counts.{is_this}
use Rattle.image_check.specs.Adds.{Adds, MayGrow, frame_named}
use Rattle.image_check.proofs.NamingLemmas.{times_begin, times_go_on, times_room}
use Rattle.image_check.proofs.repeated_names.count_words.Goals as goal

pub loop-index-init : goal.loop-index-init
loop-index-init c = times_begin (λ f i. is_this f (frame_named c.args.image.now c.args.table i)) c.args.maps.now c.args.times

pub count_more-requires : goal.count_more-requires
count_more-requires c =
    let image = c.args.image.now in
    let named : c.frame_named.result ≡ frame_named image c.args.table c.loop-index.index = c.frame_named.ensures ∙ ap (λ w. if is_present w then own_frame image.version w else None) c.word.ensures in
    subst (λ (x : Option ℕ). MayGrow c.loop-index.maps (λ f. c.args.times * counted (is_this f x))) (sym named)
    (times_room (λ f i. is_this f (frame_named image c.args.table i)) c.args.maps.now c.loop-index.maps c.args.times 1024 c.loop-index.index (omega arith) c.requires c.loop-index.invariant)

pub loop-index-preserved : goal.loop-index-preserved
loop-index-preserved c =
    let image = c.args.image.now in
    let named : c.frame_named.result ≡ frame_named image c.args.table c.loop-index.index = c.frame_named.ensures ∙ ap (λ w. if is_present w then own_frame image.version w else None) c.word.ensures in
    times_go_on (λ f i. is_this f (frame_named image c.args.table i)) c.args.maps.now c.loop-index.maps c.count_more.new.counts c.args.times c.loop-index.index c.loop-index.invariant
    (subst (λ (x : Option ℕ). Adds c.loop-index.maps c.count_more.new.counts (λ f. c.args.times * counted (is_this f x))) named c.count_more.ensures)

pub returns : goal.returns
returns c =
    let end : c.loop-index.index ≡ 1024 = omega arith in
    subst (λ k. Adds c.args.maps.now c.loop-index.maps (λ f. c.args.times * count_range (λ i. is_this f (frame_named c.args.image.now c.args.table i)) 0 k)) end c.loop-index.invariant
