use Rattle.std.proofs.Common.{◌≡◌, ◌∙◌, ◌<◌, ℕ, Option, None, get_or, length, ap, sym, subst}
use Rattle.std.specs.Option.{unwrap_or}
use Rattle.std.proofs.lemmas.List.{same_lists}
use Rattle.std.proofs.lemmas.Option.{slice_get-get_or}
use Rattle.process_table.specs.View.{View}
use Rattle.memory_image.specs.declared.processes.Process.{Process}
use Rattle.memory_image.specs.Image.{Image, IsImage, process_at}
use Rattle.memory_image.specs.Machine.{IsImageOf}
use Rattle.memory_image.specs.Spelling.{Spells}
use Rattle.memory_image.proofs.SpellingLemmas.{spelling_is_exact}
use Rattle.image_restore.proofs.laws.restored_cores_have_their_files.Goals as goal

record_is : (image : Image) (p : ℕ) (d : Option Process) → p < length image.processes → get_or image.processes p d ≡ process_at image p
record_is image p d low = sym (ap (λ (o : Option (Option Process)). unwrap_or o None) (slice_get-get_or image.processes p d low))

-- two images that show what one core does
one_image : (core : View) (image other : Image) → IsImageOf core image → IsImageOf core other → IsImage image → IsImage other → image ≡ other
one_image core image other shows also fits fit =
    let long : length image.processes ≡ length other.processes = fits.pids ∙ sym fit.pids in
    let version = shows.version ∙ sym also.version in
    let roles = shows.roles ∙ sym also.roles in
    let bytes = shows.bytes ∙ sym also.bytes in
    let processes = same_lists image.processes other.processes long (λ p d low.
    record_is image p d low ∙ shows.processes p ∙ sym (also.processes p)
    ∙ sym (record_is other p d (subst (λ (n : ℕ). p < n) long low))) in
    λ i. record { version = version i; processes = processes i; roles = roles i; bytes = bytes i }

pub returns : goal.returns
returns c = λ core image other bytes more shows also spelled spells.
    spelling_is_exact.one bytes more other (subst (Spells bytes) (one_image core image other shows also spelled.fits spells.fits) spelled) spells
