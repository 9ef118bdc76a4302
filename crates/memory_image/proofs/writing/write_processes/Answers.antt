use Rattle.std.proofs.Common.{rules, arith}
use Rattle.std.specs.List.{flat_map}
use Rattle.text_output.specs.Output.{AppendsFront}
use Rattle.memory_image.specs.Spelling.{process_bytes}
use Rattle.text_output.proofs.OutputLemmas.{wrote_next, cut_next}
use Rattle.memory_image.proofs.writing.write_processes.Goals as goal

pub loop-place-preserved : goal.loop-place-preserved
loop-place-preserved g c = wrote_next process_bytes c.args.processes.now _ _ _ c.loop-place.place c.index-processes-place.result (omega arith) c.index-processes-place.is c.loop-place.invariant c.in_ok-write_process.ensures.ok

pub returns-in_err-write_process-clause-err : goal.returns-in_err-write_process-clause-err
returns-in_err-write_process-clause-err g c =
    let front : AppendsFront (g.W.Write.contents c.args.writer.now) (g.W.Write.contents c.write_process.new.writer) (flat_map process_bytes c.args.processes.now) =
    cut_next process_bytes c.args.processes.now _ _ _ c.loop-place.place c.index-processes-place.result (omega arith) c.index-processes-place.is c.loop-place.invariant c.in_err-write_process.ensures.err in
    search rules
