use Rattle.std.proofs.Common.{◌≡◌, ℕ, ◌<◌, List, length, arith, ap, sym, subst, refl, ◌∙◌}
use Rattle.std.specs.Prelude.{slice_index}
use Rattle.alloc_table.specs.declared.Role.{Role}
use Rattle.memory_image.specs.Image as image
use Rattle.memory_image.specs.Machine.{HaveWords, IsImageOf}
use Rattle.memory_image.proofs.MachineLemmas.{images_stand, machine_fits, told_all}
use Rattle.memory_image.proofs.by_reference.ImageRef.of_core.Goals as goal

pub of_parts-requires : goal.of_parts-requires
of_parts-requires c =
    let roles = c.roles-roles.ensures in
    let bytes = c.bytes-bytes.ensures ∙ c.memory.ensures in
    let long = ap length c.memory-2.ensures in
    let size = c.frames.ensures in
    let few = c.frames-2.ensures in
    let path : ◌≡◌ {A = image.Image} (record { version = 2; processes = c.args.processes.now; roles = c.args.core.now.roles; bytes = c.args.core.now.bytes }) (record { version = 2; processes = c.args.processes.now; roles = c.roles-roles.result.now; bytes = c.bytes-bytes.result.now }) =
    sym (λ i. record { version = 2; processes = c.args.processes.now; roles = roles i; bytes = bytes i }) in
    subst image.IsWideImage path (machine_fits c.args.core.now c.stands.ensures.well_formed 1048576 c.args.processes.now (length c.args.core.now.roles) c.requires.long c.requires.told c.requires.wide
    (subst (λ (rs : List Role). HaveWords rs (length rs)) roles c.have_words.ensures) (omega (arith, size.roles, size.bytes)) refl (omega (arith, size.roles, size.bytes, few.length, few.least, long)) (omega (arith, size.roles, size.bytes, few.length, few.most, long))
    (subst (λ (xs : List ℕ). (i : ℕ) → slice_index xs i < 256) bytes c.are_small.ensures)
    c.stands.ensures.image)

pub returns-clause-shows : goal.returns-clause-shows
returns-clause-shows c = subst (IsImageOf c.args.core.now) (sym c.of_parts.ensures) (record {
  version = refl;
  roles = c.roles-roles.ensures;
  bytes = c.bytes-bytes.ensures ∙ c.memory.ensures;
  processes = told_all c.args.core.now c.stands.ensures.well_formed c.args.processes.now c.requires.long c.requires.told;
})

pub returns-clause-stands : goal.returns-clause-stands
returns-clause-stands c = images_stand c.args.core.now c.of_parts.result (returns-clause-shows c) c.stands.ensures.image
