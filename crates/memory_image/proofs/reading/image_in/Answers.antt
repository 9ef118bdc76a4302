use Rattle.std.proofs.Common.{◌≡◌, sym, subst, ap, ◌∙◌, drop, map}
use Rattle.std.specs.List.{range_with_len}
use Rattle.phys_memory.specs.Bytes.{word_at}
use Rattle.memory_image.specs.Image as spelled
use Rattle.memory_image.specs.Refusals.{role_place}
use Rattle.memory_image.specs.Reading.{role_in, image_in}
use Rattle.memory_image.proofs.reading.image_in.Goals as goal

pub with_parts-requires : goal.with_parts-requires
with_parts-requires c =
    let roles : c.in_ok-roles.roles.items ≡ map (role_in c.args.bytes.now) (range_with_len 0 (word_at c.args.bytes.now 8)) = c.in_ok-roles.ensures ∙ ap (λ n. map (role_in c.args.bytes.now) (range_with_len 0 n)) c.number_at-frames.ensures in
    let body : c.in-Ok.body.items ≡ drop (role_place (word_at c.args.bytes.now 8)) c.args.bytes.now = c.in-Ok.ensures.items ∙ c.body_in.ensures ∙ ap (λ n. drop (role_place n) c.args.bytes.now) c.number_at-frames.ensures in
    let path : ◌≡◌ {A = spelled.Image} (record { version = c.number_at.result; processes = c.processes_in.result; roles = c.in_ok-roles.roles.items; bytes = c.in-Ok.body.items }) (image_in c.args.bytes.now) = λ i. record { version = c.number_at.ensures i; processes = c.processes_in.ensures i; roles = roles i; bytes = body i } in
    subst spelled.IsImage (sym path) c.requires.fields
