use Rattle.std.proofs.Common.{rules, refl}
use Rattle.text_output.specs.Output.{AppendsFront}
use Rattle.text_output.proofs.OutputLemmas.{wrote_first, cut_first, wrote_piece, cut_piece, wrote_last, cut_last}
use Rattle.image_map.proofs.TextParts.{map_parts}
use Rattle.image_map.specs.Text.{limit, map_text}
use Rattle.image_map.proofs.text.write_map.Goals as goal

pub returns-in_err-write_image_line-clause-err : goal.returns-in_err-write_image_line-clause-err
returns-in_err-write_image_line-clause-err g c =
    let cut : AppendsFront (g.W.Write.contents c.args.writer.now) (g.W.Write.contents c.write_image_line.new.writer) (map_text c.args.format c.args.image.now) =
    cut_first _ _ _ _ _ (map_parts c.args.format c.args.image.now (limit c.args.image.now) c.args.verdict.now refl c.requires) c.in_err-write_image_line.ensures.err in
    search rules

pub returns-in_err-write_processes-clause-err : goal.returns-in_err-write_processes-clause-err
returns-in_err-write_processes-clause-err g c =
    let one = wrote_first _ _ _ _ _ (map_parts c.args.format c.args.image.now c.limit.result c.args.verdict.now c.limit.ensures c.requires) c.in_ok-write_image_line.ensures.ok in
    let cut : AppendsFront (g.W.Write.contents c.args.writer.now) (g.W.Write.contents c.write_processes.new.writer) (map_text c.args.format c.args.image.now) =
    cut_piece _ _ _ _ _ _ one c.in_err-write_processes.ensures.err in
    search rules

pub returns-in_err-write_frames-clause-err : goal.returns-in_err-write_frames-clause-err
returns-in_err-write_frames-clause-err g c =
    let one = wrote_first _ _ _ _ _ (map_parts c.args.format c.args.image.now c.limit.result c.args.verdict.now c.limit.ensures c.requires) c.in_ok-write_image_line.ensures.ok in
    let two = wrote_piece _ _ _ _ _ _ one c.in_ok-write_processes.ensures.ok in
    let cut : AppendsFront (g.W.Write.contents c.args.writer.now) (g.W.Write.contents c.write_frames.new.writer) (map_text c.args.format c.args.image.now) =
    cut_piece _ _ _ _ _ _ two c.in_err-write_frames.ensures.err in
    search rules

pub returns-clause-ok : goal.returns-clause-ok
returns-clause-ok g c =
    let one = wrote_first _ _ _ _ _ (map_parts c.args.format c.args.image.now c.limit.result c.args.verdict.now c.limit.ensures c.requires) c.in_ok-write_image_line.ensures.ok in
    let two = wrote_piece _ _ _ _ _ _ one c.in_ok-write_processes.ensures.ok in
    let three = wrote_piece _ _ _ _ _ _ two c.in_ok-write_frames.ensures.ok in
    wrote_last _ _ _ _ _ c.write_text.result three c.write_text.ensures.ok

pub returns-clause-err : goal.returns-clause-err
returns-clause-err g c =
    let one = wrote_first _ _ _ _ _ (map_parts c.args.format c.args.image.now c.limit.result c.args.verdict.now c.limit.ensures c.requires) c.in_ok-write_image_line.ensures.ok in
    let two = wrote_piece _ _ _ _ _ _ one c.in_ok-write_processes.ensures.ok in
    let three = wrote_piece _ _ _ _ _ _ two c.in_ok-write_frames.ensures.ok in
    cut_last _ _ _ _ _ c.write_text.result three c.write_text.ensures.err
