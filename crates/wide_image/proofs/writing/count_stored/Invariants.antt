use Rattle.std.proofs.Common.{◌≡◌, ◌≤◌, take}
use Rattle.wide_image.specs.Layout.{frames_stored}
use Rattle.wide_image.proofs.writing.count_stored.Given as goal

abbrev pub invariant-loop-place : goal.invariant-loop-place
invariant-loop-place l = record { is : l.count ≡ frames_stored (take l.place l.roles); most : l.count ≤ l.place }
