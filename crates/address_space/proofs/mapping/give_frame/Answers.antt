use Rattle.address_space.proofs.Prelude.{arith, refl, slice_get_within}
use Rattle.address_space.proofs.mapping.give_frame.Goals as goal

pub put_entry-requires-clause-frame : goal.put_entry-requires-clause-frame
put_entry-requires-clause-frame c = grind (arith, slice_get_within, c.take-frame.ensures.was_free, c.requires.few)

pub returns : goal.returns
returns c = record {
  frame = c.take-frame.result;
  same = refl;
  taken = c.take-frame.ensures;
  between = c.zero_frame.new.self;
  zeros = c.zero_frame.ensures.bytes;
  between_long = c.zero_frame.ensures.length;
  entry = c.put_entry.ensures.frames;
  long = c.put_entry.ensures.length;
}
