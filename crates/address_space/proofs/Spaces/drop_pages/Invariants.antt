use Rattle.address_space.proofs.Prelude.{◌≡◌, ◌-◌, ◌*◌, cost, DroppedBelow}
use Rattle.address_space.proofs.Spaces.drop_pages.Given as goal

abbrev pub invariant-loop-region : goal.invariant-loop-region
invariant-loop-region l = record {
  so_far : DroppedBelow l.fn.self l.pid (1024 * l.first) l.self;
  used : l.used ≡ cost l.self.spaces l.pid;
}

abbrev pub decreases-loop-region : goal.decreases-loop-region
decreases-loop-region l = 960 - l.first
