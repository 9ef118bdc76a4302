use Rattle.std.proofs.Common.{◌≡◌, map, take}
use Rattle.tower_c.specs.Holders.{holder_of}
use Rattle.tower_c.proofs.holders.list.Given as goal

-- the slots so far stand in the first places
abbrev pub invariant-loop-i : goal.invariant-loop-i
invariant-loop-i l = record {
  told : map holder_of (take l.i l.lost) ≡ take l.i l.holders;
}
