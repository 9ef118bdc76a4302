use Rattle.std.proofs.Common.{rules, None, arith}
use Rattle.text_output.specs.Output.{AppendsFront}
use Rattle.image_check.specs.Text.{lines_from, process_line}
use Rattle.image_check.proofs.TextLemmas.{wrote_line, cut_line}
use Rattle.image_check.proofs.text.write_processes.Goals as goal

pub loop-number-preserved : goal.loop-number-preserved
loop-number-preserved g c = wrote_line process_line c.args.clauses.now _ _ _ _ c.loop-number.number None (omega arith) c.loop-number.invariant c.in_ok-write_process.ensures.ok

pub returns-in_err-write_process-clause-err : goal.returns-in_err-write_process-clause-err
returns-in_err-write_process-clause-err g c =
    let front : AppendsFront (g.W.Write.contents c.args.writer.now) (g.W.Write.contents c.write_process.new.writer) (lines_from process_line 0 c.args.clauses.now) =
    cut_line process_line c.args.clauses.now _ _ _ _ c.loop-number.number None (omega arith) c.loop-number.invariant c.in_err-write_process.ensures.err in
    search rules
