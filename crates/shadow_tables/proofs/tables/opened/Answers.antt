use Rattle.std.proofs.Common.{refl}
use Rattle.shadow_tables.proofs.OpeningLemmas.{opened_stands, opened_seen}
use Rattle.shadow_tables.proofs.tables.opened.Goals as goal

pub returns-clause-stands : goal.returns-clause-stands
returns-clause-stands c = opened_stands _ (record {
  held = c.requires.held;
  counts = c.requires.counts;
  roots = refl;
  blocks = record { bytes = c.requires.size; kernel = c.requires.half; words = c.requires.words; roots = refl; pool = c.requires.pool; pool_end = c.requires.pool_end; block = c.requires.block; block_end = c.requires.block_end };
})

pub returns-clause-seen : goal.returns-clause-seen
returns-clause-seen c = opened_seen _ (record {
  held = c.requires.held;
  counts = c.requires.counts;
  roots = refl;
  blocks = record { bytes = c.requires.size; kernel = c.requires.half; words = c.requires.words; roots = refl; pool = c.requires.pool; pool_end = c.requires.pool_end; block = c.requires.block; block_end = c.requires.block_end };
})
