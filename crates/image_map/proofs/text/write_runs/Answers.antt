use Rattle.std.proofs.Common.{rules, arith}
use Rattle.std.specs.List.{flat_map}
use Rattle.text_output.specs.Output.{AppendsFront}
use Rattle.text_output.proofs.OutputLemmas.{wrote_next, cut_next}
use Rattle.image_map.specs.Text.{run_line}
use Rattle.image_map.proofs.text.write_runs.Goals as goal

pub loop-place-preserved : goal.loop-place-preserved
loop-place-preserved g c = wrote_next (run_line c.args.image.now) c.args.runs.now _ _ _ c.loop-place.place c.index-runs-place.result (omega arith) c.index-runs-place.is c.loop-place.invariant c.in_ok-write_run.ensures.ok

pub returns-in_err-write_run-clause-err : goal.returns-in_err-write_run-clause-err
returns-in_err-write_run-clause-err g c =
    let front : AppendsFront (g.W.Write.contents c.args.writer.now) (g.W.Write.contents c.write_run.new.writer) (flat_map (run_line c.args.image.now) c.args.runs.now) =
    cut_next (run_line c.args.image.now) c.args.runs.now _ _ _ c.loop-place.place c.index-runs-place.result (omega arith) c.index-runs-place.is c.loop-place.invariant c.in_err-write_run.ensures.err in
    search rules
