use Rattle.std.proofs.Common.{◌≡◌, ap, ◌∙◌, arith}
use Rattle.image_check.specs.Counts.{sum_range}
use Rattle.memory_image.specs.Sound.{account_at}
use Rattle.process_table.specs.Image.{quota_from}
use Rattle.image_check.specs.Verdict.{quotas_from}
use Rattle.image_check.proofs.RangeLemmas.{sum_begins, sum_goes_on}
use Rattle.image_check.proofs.process_clauses.quotas_from.Goals as goal

pub loop-number-init : goal.loop-number-init
loop-number-init c = (sum_begins (λ q. quota_from c.args.pid q (account_at c.args.image.now q)), omega arith)

pub loop-number-preserved : goal.loop-number-preserved
loop-number-preserved c = (
  sum_goes_on (λ q. quota_from c.args.pid q (account_at c.args.image.now q)) c.loop-number.number c.loop-number.sum c.quota_from.result c.loop-number.invariant.0 c.quota_from.ensures,
  omega (arith, c.loop-number.invariant.1),
)

pub returns : goal.returns
unfolding quotas_from
returns c =
    let end : c.loop-number.number ≡ 64 = omega arith in
    c.loop-number.invariant.0 ∙ ap (sum_range (λ q. quota_from c.args.pid q (account_at c.args.image.now q)) 0) end
