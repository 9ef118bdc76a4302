use Rattle.std.proofs.Common.{◌≡◌, sym, arith, is_some}
use Rattle.page_map.proofs.PageLemmas.{count_range-zero, count_slot, count_end}
use Rattle.address_space.specs.Image.{table_at, page_word}
use Rattle.address_space.specs.Spaces.{at_page}
use Rattle.memory_image.specs.Image.{memory_of}
use Rattle.image_check.specs.Counts.{is_this, frame_of}
use Rattle.image_check.specs.Verdict.{table_is_right}
use Rattle.image_check.proofs.RangeLemmas.{all_starts, all_grows, all_ends, count_begins, count_goes_on, count_done}
use Rattle.image_check.proofs.AddLemmas.{adds_begins, adds_goes_on, adds_done, room_goes_on, pages_begin, pages_go_on, pages_done, pages_room}
use Rattle.image_check.proofs.walking.walk_tables.Goals as goal

pub loop-slot-init : goal.loop-slot-init
loop-slot-init c =
    let image = c.args.image.now in
    let pid = c.args.pid in (
      all_starts (λ s. table_is_right image (table_at (memory_of image) pid s)) 256,
      count_begins (λ s. is_some (table_at (memory_of image) pid s)) 256,
      omega arith,
      sym (count_range-zero _ 0x40000),
      omega arith,
      adds_begins (λ f s. is_this f (table_at (memory_of image) pid s)) c.args.names.now 256,
      pages_begin (λ f page. is_this f (frame_of image pid page)) c.args.maps.now,
    )

pub walk_slot-found-requires-clause-names : goal.walk_slot-found-requires-clause-names
walk_slot-found-requires-clause-names c = room_goes_on (λ f s. is_this f (table_at (memory_of c.args.image.now) c.args.pid s)) c.args.names.now c.loop-slot.names 256 704 c.loop-slot.slot (omega arith) (omega arith) c.requires.names c.loop-slot.invariant.5

pub walk_slot-found-requires-clause-maps : goal.walk_slot-found-requires-clause-maps
walk_slot-found-requires-clause-maps c = pages_room (λ f page. is_this f (frame_of c.args.image.now c.args.pid page)) c.args.maps.now c.loop-slot.maps c.loop-slot.slot (omega arith) (omega arith) c.requires.maps c.loop-slot.invariant.6

pub loop-slot-preserved : goal.loop-slot-preserved
loop-slot-preserved c =
    let image = c.args.image.now in
    let pid = c.args.pid in
    let slot = c.loop-slot.slot in
    let was = c.loop-slot.invariant in
    let found = c.walk_slot-found.ensures in
    let more = c.walk_slot-found.result in (
      all_grows (λ s. table_is_right image (table_at (memory_of image) pid s)) 256 slot c.loop-slot.right more.right (omega arith) was.0 found.right,
      count_goes_on (λ s. is_some (table_at (memory_of image) pid s)) 256 slot c.loop-slot.tables more.tables (omega arith) was.1 found.tables,
      omega (arith, was.2, found.few.0),
      count_slot (λ page. is_some (page_word (memory_of image) (at_page pid page))) slot c.loop-slot.pages more.pages (omega arith) was.3 found.pages,
      omega (arith, was.4, found.few.1),
      adds_goes_on (λ f s. is_this f (table_at (memory_of image) pid s)) c.args.names.now c.loop-slot.names c.walk_slot-found.new.names 256 slot (omega arith) was.5 found.names,
      pages_go_on (λ f page. is_this f (frame_of image pid page)) c.args.maps.now c.loop-slot.maps c.walk_slot-found.new.maps slot (omega arith) was.6 found.maps,
    )

pub returns-clause-right : goal.returns-clause-right
returns-clause-right c = all_ends (λ s. table_is_right c.args.image.now (table_at (memory_of c.args.image.now) c.args.pid s)) 256 704 c.loop-slot.slot c.loop-slot.right (omega arith) c.loop-slot.invariant.0

pub returns-clause-tables : goal.returns-clause-tables
returns-clause-tables c = count_done (λ s. is_some (table_at (memory_of c.args.image.now) c.args.pid s)) 256 704 c.loop-slot.slot c.loop-slot.tables (omega arith) c.loop-slot.invariant.1

pub returns-clause-pages : goal.returns-clause-pages
returns-clause-pages c =
    let end : c.loop-slot.slot ≡ 960 = omega arith in
    count_end (λ page. is_some (page_word (memory_of c.args.image.now) (at_page c.args.pid page))) c.loop-slot.slot c.loop-slot.pages end c.loop-slot.invariant.3

pub returns-clause-names : goal.returns-clause-names
returns-clause-names c = adds_done (λ f s. is_this f (table_at (memory_of c.args.image.now) c.args.pid s)) c.args.names.now c.loop-slot.names 256 704 c.loop-slot.slot (omega arith) c.loop-slot.invariant.5

pub returns-clause-maps : goal.returns-clause-maps
returns-clause-maps c = let end : c.loop-slot.slot ≡ 960 = omega arith in pages_done (λ f page. is_this f (frame_of c.args.image.now c.args.pid page)) c.args.maps.now c.loop-slot.maps c.loop-slot.slot end c.loop-slot.invariant.6
