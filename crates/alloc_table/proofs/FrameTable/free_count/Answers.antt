use Rattle.std.proofs.Common.{ap, ◌∙◌}
use Rattle.alloc_table.specs.Roles.{free_frames}
use Rattle.alloc_table.proofs.TableSteps.{len-free}
use Rattle.alloc_table.proofs.FrameTable.free_count.Goals as goal

pub returns : goal.returns
returns c = c.free_count.ensures ∙ len-free c.self.inside.ledger c.self.inside.roles.items c.self.invariant ∙ ap free_frames c.self.view_is
