use Rattle.std.proofs.Common.{◌≡◌, sym, subst}
use Rattle.memory_image.specs.Image.{Image, IsWideImage}
use Rattle.memory_image.specs.Restored.{image_with}
use Rattle.memory_image.specs.Sound.{IsSound}
use Rattle.memory_image.proofs.MachineLemmas.{widened}
use Rattle.memory_image.proofs.images.Image.into_core.Goals as goal

pub core_of-requires-clause-fields : goal.core_of-requires-clause-fields
core_of-requires-clause-fields c =
    let parts = c.into_parts-processes in
    let path : ◌≡◌ {A = Image} c.args.self (image_with parts.result.0 parts.result.1.items parts.result.2.items) = λ i. record { version = c.requires.version i; processes = sym parts.ensures.processes i; roles = sym parts.ensures.roles i; bytes = sym parts.ensures.bytes i } in
    subst IsWideImage path (widened c.args.self parts.ensures.fields)

pub core_of-requires-clause-sound : goal.core_of-requires-clause-sound
core_of-requires-clause-sound c =
    let parts = c.into_parts-processes in
    let path : ◌≡◌ {A = Image} c.args.self (image_with parts.result.0 parts.result.1.items parts.result.2.items) = λ i. record { version = c.requires.version i; processes = sym parts.ensures.processes i; roles = sym parts.ensures.roles i; bytes = sym parts.ensures.bytes i } in
    subst IsSound path c.requires.sound
