use Rattle.std.proofs.Common.{rules, ◌++◌, ap, sym}
use Rattle.text_output.specs.Output.{AppendsFront}
use Rattle.text_output.proofs.OutputLemmas.{wrote_first, cut_first, wrote_last, cut_last}
use Rattle.image_check.specs.Text.{lines_from, process_line, frame_line, process_lines, frame_lines}
use Rattle.image_check.proofs.text.write_failing.Goals as goal

pub returns-in_err-write_processes-clause-err : goal.returns-in_err-write_processes-clause-err
returns-in_err-write_processes-clause-err g c =
    let told = c.args.verdict.now in
    let cut : AppendsFront (g.W.Write.contents c.args.writer.now) (g.W.Write.contents c.write_processes.new.writer) (process_lines c.args.verdict.now ++ frame_lines c.args.verdict.now) =
    cut_first _ _ _ (lines_from process_line 0 c.processes.result.now) (frame_lines told) (sym (ap (λ cs. lines_from process_line 0 cs ++ frame_lines c.args.verdict.now) c.processes.ensures.clauses)) c.in_err-write_processes.ensures.err in
    search rules

pub returns-clause-ok : goal.returns-clause-ok
returns-clause-ok g c =
    let one = wrote_first _ _ (process_lines c.args.verdict.now ++ frame_lines c.args.verdict.now) (lines_from process_line 0 c.processes.result.now) (lines_from frame_line 0 c.frames.result.now)
    (sym (λ i. lines_from process_line 0 (c.processes.ensures.clauses i) ++ lines_from frame_line 0 (c.frames.ensures.clauses i))) c.in_ok-write_processes.ensures.ok in
    wrote_last _ _ _ _ _ c.write_frames.result one c.write_frames.ensures.ok

pub returns-clause-err : goal.returns-clause-err
returns-clause-err g c =
    let one = wrote_first _ _ (process_lines c.args.verdict.now ++ frame_lines c.args.verdict.now) (lines_from process_line 0 c.processes.result.now) (lines_from frame_line 0 c.frames.result.now)
    (sym (λ i. lines_from process_line 0 (c.processes.ensures.clauses i) ++ lines_from frame_line 0 (c.frames.ensures.clauses i))) c.in_ok-write_processes.ensures.ok in
    cut_last _ _ _ _ _ c.write_frames.result one c.write_frames.ensures.err
