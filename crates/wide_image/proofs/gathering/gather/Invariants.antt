use Rattle.std.proofs.Common.{◌+◌, ◌*◌, ◌-◌, ◌≤◌, ◌^◌}
use Rattle.wide_image.specs.Gathered.{ListedBelow, place_of}
use Rattle.wide_image.proofs.gathering.gather.Given as goal

abbrev pub invariant-next : goal.invariant-next
invariant-next l = record {
  listed : ListedBelow l.core.state.offers (place_of l.pid (64 * l.page + l.target)) l.offers.items;
  few : l.target ≤ 64;
  most : 64 * l.page + l.target ≤ 67108864;
}

abbrev pub decreases-next : goal.decreases-next
decreases-next l = 2 ^ 39 - (64 * l.page + l.target)
