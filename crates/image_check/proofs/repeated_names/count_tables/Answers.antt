use Rattle.std.proofs.Common.{◌≡◌, ◌∙◌, arith, ap}
use Rattle.image_check.specs.Counts.{sum_range, maps_by}
use Rattle.image_check.specs.Adds.{maps_first}
use Rattle.image_check.proofs.AddLemmas.{adds_alike, sums_begin, sums_go_on}
use Rattle.image_check.proofs.NamingLemmas.{maps_by_first, room_by_first, term_room}
use Rattle.image_check.proofs.repeated_names.count_tables.Goals as goal

pub loop-count-init : goal.loop-count-init
loop-count-init c = sums_begin (λ f k. maps_first c.args.image.now c.args.pid k f) c.args.maps.now

pub count_table-requires-clause-maps : goal.count_table-requires-clause-maps
count_table-requires-clause-maps c = term_room (λ f k. maps_first c.args.image.now c.args.pid k f) c.args.maps.now c.loop-count.maps 704 c.loop-count.count (omega arith)
    (room_by_first c.args.image.now c.args.pid c.args.maps.now c.within.ensures.size c.requires.maps) c.loop-count.invariant

pub loop-count-preserved : goal.loop-count-preserved
loop-count-preserved c = sums_go_on (λ f k. maps_first c.args.image.now c.args.pid k f) c.args.maps.now c.loop-count.maps c.count_table.new.maps c.loop-count.count c.loop-count.invariant c.count_table.ensures

pub returns : goal.returns
returns c =
    let end : c.loop-count.count ≡ 704 = omega arith in
    adds_alike c.args.maps.now c.loop-count.maps (λ f. sum_range (λ k. maps_first c.args.image.now c.args.pid k f) 0 c.loop-count.count) (λ f. maps_by c.args.image.now c.args.pid f)
    (λ f. ap (sum_range (λ k. maps_first c.args.image.now c.args.pid k f) 0) end ∙ maps_by_first c.args.image.now c.args.pid f c.within.ensures.size) c.loop-count.invariant
