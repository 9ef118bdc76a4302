use Rattle.memory_image.specs.Machine.{HaveWords}
use Rattle.memory_image.proofs.core_image.have_words.Given as goal

abbrev pub invariant-loop-place : goal.invariant-loop-place
invariant-loop-place l = HaveWords l.roles l.place
