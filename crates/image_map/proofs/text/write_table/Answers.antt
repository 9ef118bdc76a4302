use Rattle.std.proofs.Common.{rules, ◌++◌, ◌-◌, sym, length}
use Rattle.std.specs.List.{flat_map}
use Rattle.text_output.specs.Output.{AppendsFront}
use Rattle.text_output.proofs.OutputLemmas.{wrote_first, cut_first, wrote_last, cut_last}
use Rattle.image_map.specs.Text.{run_line, more_line, runs_text}
use Rattle.image_map.proofs.text.write_table.Goals as goal

pub returns-in_err-write_runs-clause-err : goal.returns-in_err-write_runs-clause-err
returns-in_err-write_runs-clause-err g c =
    let cut : AppendsFront (g.W.Write.contents c.args.writer.now) (g.W.Write.contents c.write_runs.new.writer) (runs_text c.args.image.now c.args.most c.args.runs.now) =
    cut_first _ _ _ (flat_map (run_line c.args.image.now) c.listed.result.now) (more_line (length c.args.runs.now - c.args.most))
    (sym (λ i. flat_map (run_line c.args.image.now) (c.listed.ensures i) ++ more_line (length c.args.runs.now - c.args.most))) c.in_err-write_runs.ensures.err in
    search rules

pub returns-clause-ok : goal.returns-clause-ok
returns-clause-ok g c =
    let one = wrote_first _ _ (runs_text c.args.image.now c.args.most c.args.runs.now) (flat_map (run_line c.args.image.now) c.listed.result.now) (more_line (length c.args.runs.now - c.args.most))
    (sym (λ i. flat_map (run_line c.args.image.now) (c.listed.ensures i) ++ more_line (length c.args.runs.now - c.args.most))) c.in_ok-write_runs.ensures.ok in
    wrote_last _ _ _ _ _ c.write_more.result one c.write_more.ensures.ok

pub returns-clause-err : goal.returns-clause-err
returns-clause-err g c =
    let one = wrote_first _ _ (runs_text c.args.image.now c.args.most c.args.runs.now) (flat_map (run_line c.args.image.now) c.listed.result.now) (more_line (length c.args.runs.now - c.args.most))
    (sym (λ i. flat_map (run_line c.args.image.now) (c.listed.ensures i) ++ more_line (length c.args.runs.now - c.args.most))) c.in_ok-write_runs.ensures.ok in
    cut_last _ _ _ _ _ c.write_more.result one c.write_more.ensures.err
