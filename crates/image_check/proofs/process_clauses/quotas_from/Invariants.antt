use Rattle.std.proofs.Common.{◌≡◌, ◌*◌, ◌≤◌, ◌^◌}
use Rattle.image_check.specs.Counts.{sum_range}
use Rattle.memory_image.specs.Sound.{account_at}
use Rattle.process_table.specs.Image.{quota_from}
use Rattle.image_check.proofs.process_clauses.quotas_from.Given as goal

abbrev pub invariant-loop-number : goal.invariant-loop-number
invariant-loop-number l = (l.sum ≡ sum_range (λ q. quota_from l.fn.pid q (account_at l.image q)) 0 l.number) × (l.sum ≤ 2 ^ 32 * l.number)
