use Rattle.std.proofs.Common.{arith}
use Rattle.address_space.specs.Image.{word_of}
use Rattle.memory_image.specs.Image.{memory_of}
use Rattle.image_check.specs.Verdict.{links_table}
use Rattle.image_check.proofs.RangeLemmas.{all_starts, all_grows, all_ends}
use Rattle.image_check.proofs.walking.links_all.Goals as goal

pub loop-slot-init : goal.loop-slot-init
loop-slot-init c = all_starts (λ s. links_table c.args.image.now c.args.pid s (word_of (memory_of c.args.image.now) c.args.directory s)) 0

pub loop-slot-preserved : goal.loop-slot-preserved
loop-slot-preserved c = all_grows (λ s. links_table c.args.image.now c.args.pid s (word_of (memory_of c.args.image.now) c.args.directory s)) 0 c.loop-slot.slot c.loop-slot.links c.links_at-links.result (omega arith) c.loop-slot.invariant c.links_at-links.ensures

pub returns : goal.returns
returns c = all_ends (λ s. links_table c.args.image.now c.args.pid s (word_of (memory_of c.args.image.now) c.args.directory s)) 0 1024 c.loop-slot.slot c.loop-slot.links (omega arith) c.loop-slot.invariant
