use Rattle.std.proofs.Common.{rules, arith, subst}
use Rattle.text_output.specs.Output.{AppendsFront, LeavesUnwritten}
use Rattle.text_output.proofs.OutputLemmas.{wrote_piece, cut_piece}
use Rattle.wide_image.specs.Layout.{frame_text, frames_text}
use Rattle.wide_image.proofs.FrameTexts.{frames_left, no_frame_left}
use Rattle.wide_image.proofs.WrittenWhole.{all_written}
use Rattle.wide_image.proofs.writing.write_frames.Goals as goal

pub loop-place-preserved : goal.loop-place-preserved
loop-place-preserved g c =
    wrote_piece _ _ _ (frames_text 0 c.args.roles.now c.args.bytes.now) (frame_text c.loop-place.place c.index-roles-place.result c.part_at-part.result.now) _
    (subst (LeavesUnwritten (g.W.Write.contents c.args.writer.now) (g.W.Write.contents c.loop-place.writer) (frames_text 0 c.args.roles.now c.args.bytes.now))
    (frames_left c.args.roles.now c.args.bytes.now c.loop-place.place c.index-roles-place.result c.part_at-part.result.now (omega arith) c.index-roles-place.is c.part_at-part.ensures)
    c.loop-place.invariant)
    c.in_ok-write_frame.ensures.ok

pub returns-in_err-write_frame-clause-err : goal.returns-in_err-write_frame-clause-err
returns-in_err-write_frame-clause-err g c =
    let front : AppendsFront (g.W.Write.contents c.args.writer.now) (g.W.Write.contents c.write_frame.new.writer) (frames_text 0 c.args.roles.now c.args.bytes.now) =
    cut_piece _ _ _ (frames_text 0 c.args.roles.now c.args.bytes.now) (frame_text c.loop-place.place c.index-roles-place.result c.part_at-part.result.now) _
    (subst (LeavesUnwritten (g.W.Write.contents c.args.writer.now) (g.W.Write.contents c.loop-place.writer) (frames_text 0 c.args.roles.now c.args.bytes.now))
    (frames_left c.args.roles.now c.args.bytes.now c.loop-place.place c.index-roles-place.result c.part_at-part.result.now (omega arith) c.index-roles-place.is c.part_at-part.ensures)
    c.loop-place.invariant)
    c.in_err-write_frame.ensures.err in
    search rules

pub returns-clause-ok : goal.returns-clause-ok
returns-clause-ok g c =
    all_written _ _ _ _ (no_frame_left c.args.roles.now c.args.bytes.now c.loop-place.place (omega arith)) c.loop-place.invariant
