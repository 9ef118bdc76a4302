use Rattle.std.proofs.Common.{◌-◌, length, replicate, refl, ap, ◌∙◌, arith}
use Rattle.std.proofs.lemmas.List.FromFn.{length-map-range_with_len}
use Rattle.std.specs.Prelude.{slice_set}
use Rattle.shadow_tables.proofs.HoldingLemmas.{opens}
use Rattle.shadow_tables.proofs.holdings.Holdings.new.Goals as goal

pub returns-clause-held : goal.returns-clause-held
returns-clause-held c =
    opens _ c.args.frames (omega (arith, c.ranges.frames)) c.in_ok-next.ensures (ap (λ n. slice_set (replicate 65 0) 64 n) c.saturating_sub.ensures) refl

pub returns-clause-frames : goal.returns-clause-frames
returns-clause-frames c = ap length c.in_ok-next.ensures ∙ length-map-range_with_len (λ frame. frame - 1) 0 c.args.frames
