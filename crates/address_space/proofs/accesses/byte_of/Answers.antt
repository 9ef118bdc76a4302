use Rattle.address_space.proofs.Prelude.{ap, ◌∙◌, slice_index}
use Rattle.address_space.proofs.entries.Readings.{byte_in_frame}
use Rattle.address_space.proofs.accesses.byte_of.Goals as goal

pub returns : goal.returns
returns c = c.read_byte.ensures ∙ ap (slice_index c.args.memory.now) c.place_of.ensures ∙ byte_in_frame c.args.memory.now c.args.frame c.args.at c.requires.inside
