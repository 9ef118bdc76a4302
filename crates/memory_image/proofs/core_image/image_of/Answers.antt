use Rattle.std.proofs.Common.{◌≡◌, arith, length, ap, sym, subst, ◌∙◌}
use Rattle.memory_image.specs.Image as image
use Rattle.memory_image.specs.Machine.{IsImageOf}
use Rattle.memory_image.proofs.MachineLemmas.{narrowed}
use Rattle.memory_image.proofs.core_image.image_of.Goals as goal

-- the parts are those of the image where they lie
pub with_parts-requires : goal.with_parts-requires
with_parts-requires c =
    let path : ◌≡◌ {A = image.Image} c.of_core.result (record { version = 2; processes = c.processes_of-processes.result; roles = c.in_ok-roles.roles.items; bytes = c.in_ok-bytes.bytes.items }) =
    c.of_core.ensures.parts ∙ sym (λ i. record { version = 2; processes = c.processes_of-processes.result; roles = c.in_ok-roles.ensures i; bytes = c.in_ok-bytes.ensures i }) in
    let few = c.requires in
    let long = ap (λ (v : image.Image). length v.roles) c.of_core.ensures.parts in
    subst image.IsImage path (narrowed c.of_core.result c.within.ensures (omega (arith, few, long)))

pub returns : goal.returns
returns c =
    let path : ◌≡◌ {A = image.Image} c.of_core.result (record { version = 2; processes = c.processes_of-processes.result; roles = c.in_ok-roles.roles.items; bytes = c.in_ok-bytes.bytes.items }) =
    c.of_core.ensures.parts ∙ sym (λ i. record { version = 2; processes = c.processes_of-processes.result; roles = c.in_ok-roles.ensures i; bytes = c.in_ok-bytes.ensures i }) in
    subst (IsImageOf c.args.core.now) (path ∙ sym c.with_parts.ensures) c.of_core.ensures.shows
