-- What is not written yet are the lines from the next number on.
use Rattle.std.proofs.Common.{◌-◌}
use Rattle.std.specs.List.{flat_map, range_with_len}
use Rattle.text_output.specs.Output.{LeavesUnwritten}
use Rattle.memory_image.specs.Image.{process_at}
use Rattle.image_map.specs.Text.{process_text, processes_text}
use Rattle.image_map.proofs.text.write_processes.Given as goal

abbrev pub invariant-loop-number : goal.invariant-loop-number
invariant-loop-number g l = LeavesUnwritten (g.W.Write.contents l.fn.writer) (g.W.Write.contents l.writer) (processes_text l.image l.fn.most) (flat_map (λ p. process_text l.image l.fn.most p (process_at l.image p)) (range_with_len l.number (64 - l.number)))
