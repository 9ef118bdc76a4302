use Rattle.address_space.proofs.Prelude.{◌≡◌, ◌≤◌, ◌+◌, ◌-◌, ◌*◌, length, View, cost, DroppedBelow}
use Rattle.address_space.proofs.steps.RegionDrops.{RegionLeft}
use Rattle.address_space.proofs.Spaces.drop_region.Given as goal

abbrev pub invariant-loop-listed : goal.invariant-loop-listed
invariant-loop-listed l = record {
  so_far : (v : View) → DroppedBelow v l.pid (1024 * l.slot) l.fn.self → DroppedBelow v l.pid (1024 * l.slot + l.index) l.self;
  used : l.used ≡ cost l.self.spaces l.pid;
  same : l.self.directories ≡ l.fn.self.directories;
  left : RegionLeft l.self.bytes l.directory l.slot l.table l.index l.left;
  inside : 4096 * l.table + 4096 ≤ length l.self.bytes;
  within : l.index ≤ 1024;
}

abbrev pub decreases-loop-listed : goal.decreases-loop-listed
decreases-loop-listed l = 1024 - l.index
