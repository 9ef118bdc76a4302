use Rattle.std.proofs.Common.{rules, refl}
use Rattle.text_output.specs.Output.{AppendsFront}
use Rattle.text_output.proofs.OutputLemmas.{wrote_first, cut_first, wrote_last, cut_last}
use Rattle.image_map.specs.Text.{frames_heading, rows_text, frames_text}
use Rattle.image_map.proofs.text.write_frames.Goals as goal

pub returns-in_err-write_heading-clause-err : goal.returns-in_err-write_heading-clause-err
unfolding frames_text
returns-in_err-write_heading-clause-err g c =
    let cut : AppendsFront (g.W.Write.contents c.args.writer.now) (g.W.Write.contents c.write_heading.new.writer) (frames_text c.args.image.now) =
    cut_first _ _ _ frames_heading (rows_text c.args.image.now) refl c.in_err-write_heading.ensures.err in
    search rules

pub returns-clause-ok : goal.returns-clause-ok
unfolding frames_text
returns-clause-ok g c =
    let one = wrote_first _ _ (frames_text c.args.image.now) frames_heading (rows_text c.args.image.now) refl c.in_ok-write_heading.ensures.ok in
    wrote_last _ _ _ _ _ c.write_rows.result one c.write_rows.ensures.ok

pub returns-clause-err : goal.returns-clause-err
unfolding frames_text
returns-clause-err g c =
    let one = wrote_first _ _ (frames_text c.args.image.now) frames_heading (rows_text c.args.image.now) refl c.in_ok-write_heading.ensures.ok in
    cut_last _ _ _ _ _ c.write_rows.result one c.write_rows.ensures.err
