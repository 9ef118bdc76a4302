use Rattle.std.proofs.Common.{rules, sym, Some}
use Rattle.text_output.specs.Output.{AppendsFront}
use Rattle.text_output.proofs.OutputLemmas.{wrote_first, cut_first, wrote_piece, cut_piece, wrote_last, cut_last}
use Rattle.memory_image.proofs.References.{directory_read}
use Rattle.image_map.proofs.TextParts.{process_parts}
use Rattle.image_map.specs.Text.{process_text}
use Rattle.image_map.proofs.text.write_live.Goals as goal

pub returns-in_err-write_process_line-clause-err : goal.returns-in_err-write_process_line-clause-err
returns-in_err-write_process_line-clause-err g c =
    let cut : AppendsFront (g.W.Write.contents c.args.writer.now) (g.W.Write.contents c.write_process_line.new.writer) (process_text c.args.image.now c.args.most c.args.pid (Some c.args.process.now)) =
    cut_first _ _ _ _ _ (process_parts c.args.image.now c.args.most c.args.pid c.number.result c.args.process.now c.number.ensures.value) c.in_err-write_process_line.ensures.err in
    search rules

pub returns-in_err-write_bar-clause-err : goal.returns-in_err-write_bar-clause-err
returns-in_err-write_bar-clause-err g c =
    let one = wrote_first _ _ _ _ _ (process_parts c.args.image.now c.args.most c.args.pid c.number.result c.args.process.now c.number.ensures.value) c.in_ok-write_process_line.ensures.ok in
    let cut : AppendsFront (g.W.Write.contents c.args.writer.now) (g.W.Write.contents c.write_bar.new.writer) (process_text c.args.image.now c.args.most c.args.pid (Some c.args.process.now)) =
    cut_piece _ _ _ _ _ _ one c.in_err-write_bar.ensures.err in
    search rules

pub write_pages-requires : goal.write_pages-requires
write_pages-requires g c = sym (directory_read c.args.image.now c.args.pid (Some c.args.process.now) (sym c.requires))

pub returns-clause-ok : goal.returns-clause-ok
returns-clause-ok g c =
    let one = wrote_first _ _ _ _ _ (process_parts c.args.image.now c.args.most c.args.pid c.number.result c.args.process.now c.number.ensures.value) c.in_ok-write_process_line.ensures.ok in
    let two = wrote_piece _ _ _ _ _ _ one c.in_ok-write_bar.ensures.ok in
    wrote_last _ _ _ _ _ c.write_pages.result two c.write_pages.ensures.ok

pub returns-clause-err : goal.returns-clause-err
returns-clause-err g c =
    let one = wrote_first _ _ _ _ _ (process_parts c.args.image.now c.args.most c.args.pid c.number.result c.args.process.now c.number.ensures.value) c.in_ok-write_process_line.ensures.ok in
    let two = wrote_piece _ _ _ _ _ _ one c.in_ok-write_bar.ensures.ok in
    cut_last _ _ _ _ _ c.write_pages.result two c.write_pages.ensures.err
