use Rattle.std.proofs.Common.{ap, ◌∙◌}
use Rattle.locked_core.proofs.Eight.{same_elsewhere}
use Rattle.std.specs.Prelude.{slice_index_or}
use Rattle.locked_core.proofs.tally.Rest.take.Goals as goal

-- each part but the own one stays
pub returns-clause-others : goal.returns-clause-others
returns-clause-others g c = λ k apart. (
  same_elsewhere _ _ _ _ _ _ _ _ _ _ _ _ _ _ _ _ c.args.number (λ no. ap (λ r. r.parts) (c.part_of.ensures.other no)) (λ no. ap (λ r. r.parts) (c.part_of-2.ensures.other no)) (λ no. ap (λ r. r.parts) (c.part_of-3.ensures.other no)) (λ no. ap (λ r. r.parts) (c.part_of-4.ensures.other no)) (λ no. ap (λ r. r.parts) (c.part_of-5.ensures.other no)) (λ no. ap (λ r. r.parts) (c.part_of-6.ensures.other no)) (λ no. ap (λ r. r.parts) (c.part_of-7.ensures.other no)) (λ no. ap (λ r. r.parts) (c.part_of-8.ensures.other no)) k apart ∙ ap (λ s. slice_index_or s.parts k 0) c.self.view_is,
  same_elsewhere _ _ _ _ _ _ _ _ _ _ _ _ _ _ _ _ c.args.number (λ no. ap (λ r. r.amount) (c.part_of.ensures.other no)) (λ no. ap (λ r. r.amount) (c.part_of-2.ensures.other no)) (λ no. ap (λ r. r.amount) (c.part_of-3.ensures.other no)) (λ no. ap (λ r. r.amount) (c.part_of-4.ensures.other no)) (λ no. ap (λ r. r.amount) (c.part_of-5.ensures.other no)) (λ no. ap (λ r. r.amount) (c.part_of-6.ensures.other no)) (λ no. ap (λ r. r.amount) (c.part_of-7.ensures.other no)) (λ no. ap (λ r. r.amount) (c.part_of-8.ensures.other no)) k apart ∙ ap (λ s. slice_index_or s.amounts k 0) c.self.view_is,
)
