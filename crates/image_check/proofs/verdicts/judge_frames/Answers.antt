use Rattle.std.proofs.Common.{◌≡◌, ℕ, ◌+◌, ◌<◌, sym, subst, ◌∙◌, arith, Option}
use Rattle.std.specs.Prelude.{slice_get, slice_set, Some}
use Rattle.image_check.specs.declared.clauses.FrameClause.{FrameClause}
use Rattle.memory_image.specs.Image.{frames}
use Rattle.image_check.specs.Verdict.{frame_clause}
use Rattle.memory_image.proofs.FillLemmas.{fill_goes_on, filled_to}
use Rattle.image_check.proofs.verdicts.judge_frames.Goals as goal

pub loop-frame-preserved : goal.loop-frame-preserved
loop-frame-preserved c =
    subst (λ (x : Option FrameClause). (f : ℕ) → f < c.loop-frame.frame + 1 → slice_get (slice_set c.loop-frame.clauses c.loop-frame.frame x) f ≡ Some (frame_clause c.args.image.now f)) (sym c.frame_clause.ensures)
    (fill_goes_on (frame_clause c.args.image.now) c.loop-frame.clauses c.loop-frame.frame (omega (arith, c.requires.length)) c.loop-frame.invariant)

pub returns-clause-clauses : goal.returns-clause-clauses
returns-clause-clauses c = filled_to (frame_clause c.args.image.now) (frames c.args.image.now) c.loop-frame.clauses (c.loop-frame.auto.clauses ∙ c.requires.length) (λ f low. c.loop-frame.invariant f (omega (arith, low, c.frames-frames.ensures.count, c.loop-frame-test.false)))
