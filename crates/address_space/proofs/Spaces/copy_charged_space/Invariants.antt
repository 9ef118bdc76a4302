use Rattle.address_space.proofs.Prelude.{◌≡◌, ◌*◌, ◌-◌, cost, spaces_in, CopiedBelow}
use Rattle.address_space.proofs.Spaces.copy_charged_space.Given as goal

abbrev pub invariant-loop-region : goal.invariant-loop-region
invariant-loop-region l = record {
  so_far : CopiedBelow l.fn.self.directories l.fn.from l.to (1024 * l.first) l.fn.self.bytes l.fn.self.roles l.self.bytes l.self.roles;
  same : l.self.directories ≡ l.fn.self.directories;
  made : l.made ≡ cost (spaces_in l.fn.self.directories l.self.bytes) l.to;
}

abbrev pub decreases-loop-region : goal.decreases-loop-region
decreases-loop-region l = 960 - l.first
