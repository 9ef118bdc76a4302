use Rattle.std.proofs.Common.{◌-◌, ap, ◌∙◌, arith}
use Rattle.page_map.specs.Pages.{counted}
use Rattle.page_map.proofs.PageLemmas.{count_range-le}
use Rattle.address_space.specs.Image.{table_at}
use Rattle.memory_image.specs.Image.{memory_of}
use Rattle.image_check.specs.Counts.{is_this}
use Rattle.image_check.proofs.RangeLemmas.{count_begins, count_done, count_goes_on}
use Rattle.image_check.proofs.repeated_names.names_before.Goals as goal

pub loop-slot-init : goal.loop-slot-init
loop-slot-init c = count_begins (λ s. is_this c.args.frame (table_at (memory_of c.args.image.now) c.args.pid s)) 256

pub overflow_add-names : goal.overflow_add-names
overflow_add-names c =
    let most = count_range-le (λ s. is_this c.args.frame (table_at (memory_of c.args.image.now) c.args.pid s)) 256 (c.loop-slot.slot - 256) in
    let one = c.named-names.ensures.bound in
    omega (arith, most, one, c.loop-slot.invariant)

pub loop-slot-preserved : goal.loop-slot-preserved
loop-slot-preserved c =
    count_goes_on (λ s. is_this c.args.frame (table_at (memory_of c.args.image.now) c.args.pid s)) 256 c.loop-slot.slot c.loop-slot.names c.named-names.result (omega arith) c.loop-slot.invariant
    (c.named-names.ensures.count ∙ ap (λ x. counted (is_this c.args.frame x)) c.table_at.ensures)

pub returns : goal.returns
returns c = count_done (λ s. is_this c.args.frame (table_at (memory_of c.args.image.now) c.args.pid s)) 256 c.args.count c.loop-slot.slot c.loop-slot.names (omega arith) c.loop-slot.invariant
