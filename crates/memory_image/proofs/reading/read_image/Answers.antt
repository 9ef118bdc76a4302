use Rattle.std.proofs.Common.{sym, subst, ◌∙◌, arith}
use Rattle.memory_image.specs.Spelling.{Spells}
use Rattle.memory_image.proofs.ReadingLemmas.{kept_of, spelled, is_image, has_parent, has_owner}
use Rattle.memory_image.proofs.RespellLemmas.{unfaulted}
use Rattle.memory_image.proofs.reading.read_image.Goals as goal

pub image_in-requires-clause-most : goal.image_in-requires-clause-most
image_in-requires-clause-most c = (kept_of c.args.bytes.now (sym c.fault_in.ensures ∙ c.in-None.is)).most

pub image_in-requires-clause-long : goal.image_in-requires-clause-long
image_in-requires-clause-long c = (kept_of c.args.bytes.now (sym c.fault_in.ensures ∙ c.in-None.is)).long

pub image_in-requires-clause-parents : goal.image_in-requires-clause-parents
image_in-requires-clause-parents c = has_parent c.args.bytes.now (sym c.fault_in.ensures ∙ c.in-None.is)

pub image_in-requires-clause-owners : goal.image_in-requires-clause-owners
image_in-requires-clause-owners c = has_owner c.args.bytes.now (sym c.fault_in.ensures ∙ c.in-None.is)

pub image_in-requires-clause-fields : goal.image_in-requires-clause-fields
image_in-requires-clause-fields c = is_image c.args.bytes.now (λ i. omega (arith, c.type_inv.bytes i)) (kept_of c.args.bytes.now (sym c.fault_in.ensures ∙ c.in-None.is))

pub returns-in-Some-clause-read : goal.returns-in-Some-clause-read
returns-in-Some-clause-read c image s = absurd (let a = sym (unfaulted c.args.bytes.now image s) ∙ sym c.fault_in.ensures ∙ c.in-Some.is in cc)

pub returns-in-Some-image_in-clause-spelled : goal.returns-in-Some-image_in-clause-spelled
returns-in-Some-image_in-clause-spelled c =
    subst (Spells c.args.bytes.now) (sym c.in-Some-image_in.ensures) (spelled c.args.bytes.now (λ i. omega (arith, c.type_inv.bytes i)) (sym c.fault_in.ensures ∙ c.in-None.is))
