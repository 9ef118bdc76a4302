use Rattle.text_output.proofs.OutputLemmas.{wrote_more}
use Rattle.text_output.proofs.output.write_whole.Goals as goal

pub loop-rest-preserved : goal.loop-rest-preserved
loop-rest-preserved g c = wrote_more _ _ _ _ _ _ c.loop-rest.invariant c.in-Ok.ensures.bytes
