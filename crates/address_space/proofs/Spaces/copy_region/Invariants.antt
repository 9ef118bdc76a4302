use Rattle.address_space.proofs.Prelude.{◌+◌, is_some, counted, ◌≡◌, ◌≤◌, ◌-◌, ℕ, List, frame_bytes, Role, directory_of, table_in, cost, spaces_in, CopyIn, words_left, IsCounted, region_pages}
use Rattle.address_space.proofs.steps.RegionCopies.{count_made}
use Rattle.address_space.proofs.Spaces.copy_region.Given as goal

abbrev pub invariant-loop-listed : goal.invariant-loop-listed
invariant-loop-listed l = record {
  so_far : (from source : ℕ) (bytes : List ℕ) (roles : List Role) → CopyIn l.fn.self.directories from source l.to l.slot l.table 0 bytes roles l.fn.self.bytes l.fn.self.roles
      → CopyIn l.fn.self.directories from source l.to l.slot l.table l.index bytes roles l.self-inside.memory l.self-inside.frames;
  same : l.self-inside.directories ≡ l.fn.self.directories;
  linked : l.linked ≡ table_in (directory_of l.fn.self.directories) (frame_bytes l.self-inside.memory) l.to l.slot;
  left : l.left ≡ words_left l.self-inside.memory l.table l.index;
  used : cost (spaces_in l.fn.self.directories l.self-inside.memory) l.to + l.left ≡ l.fn.used + l.pages + counted (is_some l.linked);
  within : l.index ≤ 1024;
  counted : IsCounted (spaces_in l.fn.self.directories l.self-inside.memory) l.self-inside.frames
      (count_made l.self-inside.counts.items l.linked (region_pages (spaces_in l.fn.self.directories l.self-inside.memory) l.to l.slot));
  mapped : region_pages (spaces_in l.fn.self.directories l.self-inside.memory) l.to l.slot + l.left ≡ l.pages;
}

abbrev pub decreases-loop-listed : goal.decreases-loop-listed
decreases-loop-listed l = 1024 - l.index
