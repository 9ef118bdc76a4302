use Rattle.std.proofs.Common.{rules, arith, refl, ◌-◌}
use Rattle.text_output.specs.Output.{AppendsFront}
use Rattle.memory_image.specs.Image.{process_at}
use Rattle.image_map.specs.Text.{process_text, processes_text}
use Rattle.image_map.proofs.RangeTexts.{writes_none, wrote_number, cut_number, wrote_range}
use Rattle.image_map.proofs.text.write_processes.Goals as goal

pub loop-number-init : goal.loop-number-init
unfolding processes_text
loop-number-init g c = writes_none (λ p. process_text c.args.image.now c.args.most p (process_at c.args.image.now p)) (g.W.Write.contents c.args.writer.now) (processes_text c.args.image.now c.args.most) 0 (64) (64) (omega arith) refl

pub loop-number-preserved : goal.loop-number-preserved
loop-number-preserved g c = wrote_number (λ p. process_text c.args.image.now c.args.most p (process_at c.args.image.now p)) _ _ (processes_text c.args.image.now c.args.most) c.loop-number.number (64) _ (omega arith) c.loop-number.invariant c.in_ok-write_process.ensures.ok

pub returns-in_err-write_process-clause-err : goal.returns-in_err-write_process-clause-err
returns-in_err-write_process-clause-err g c =
    let front : AppendsFront (g.W.Write.contents c.args.writer.now) (g.W.Write.contents c.write_process.new.writer) (processes_text c.args.image.now c.args.most) =
    cut_number (λ p. process_text c.args.image.now c.args.most p (process_at c.args.image.now p)) _ _ (processes_text c.args.image.now c.args.most) c.loop-number.number (64) _ (omega arith) c.loop-number.invariant c.in_err-write_process.ensures.err in
    search rules

pub returns-clause-ok : goal.returns-clause-ok
returns-clause-ok g c = wrote_range (λ p. process_text c.args.image.now c.args.most p (process_at c.args.image.now p)) _ _ (processes_text c.args.image.now c.args.most) c.loop-number.number (64) (omega arith) c.loop-number.invariant
