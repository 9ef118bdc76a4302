use Rattle.std.proofs.Common.{◌≡◌, ℕ, List, Option, ap, inl, inr, refl, subst}
use Rattle.memory_image.proofs.RespellLemmas.{unfaulted}
use Rattle.memory_image.specs.Image.{Image}
use Rattle.memory_image.specs.Spelling.{Spells}
use Rattle.memory_image.specs.declared.faults.ImageFault.TheVariants.{NoMemory}
use Rattle.command_answers.proofs.Writers.{keeps_itself}
use Rattle.command_answers.specs.declared.faults.ToolFault.{ToolFault}
use Rattle.image_map.specs.declared.formats.Format.{Format}
use Rattle.image_map.specs.declared.formats.Format.TheVariants as format
use Rattle.map_jobs.specs.declared.drawing.Form.{Form}
use Rattle.map_jobs.specs.Drawings.{EndsDrawing, EndsForm, ShowsFront}
use Rattle.map_jobs.proofs.drawing.draw_bytes.Goals as goal

-- there is no memory for the check of an image that was read
pub returns-in_default-clause-fault : goal.returns-in_default-clause-fault
returns-in_default-clause-fault g c = inl (NoMemory, refl, inr (refl, unfaulted c.args.bytes.now c.in-Ok.image c.in-Ok.ensures.spelled), keeps_itself (g.W.Write.contents c.args.writer.now))

-- there is none for its picture, or a write failed
ends : (form : Form) (bytes : List ℕ) (kind : Format) (shown image : Image) (fault : ToolFault) (held holds : Option (List ℕ)) → kind ≡ format.Image image.version → shown ≡ image → Spells bytes image → EndsForm form kind shown fault held holds
    → EndsDrawing form bytes fault held holds
ends form bytes kind shown image fault held holds k s spelled (inl memory) = inl (NoMemory, memory.0, inr (refl, unfaulted bytes image spelled), memory.1)
ends form bytes kind shown image fault held holds k s spelled (inr write) =
    inr (image, write.0, spelled, subst (λ (f : Format). ShowsFront form f image held holds) k (subst (λ (m : Image). ShowsFront form kind m held holds) s write.1))

pub returns-clause-fault : goal.returns-clause-fault
returns-clause-fault g c =
    ends c.args.form c.args.bytes.now (format.Image c.version-version.result) c.by_ref.result c.in-Ok.image c.in-Err-write_form.fault (g.W.Write.contents c.args.writer.now) (g.W.Write.contents c.write_form.new.writer) (ap format.Image c.version-version.ensures) c.by_ref.ensures c.in-Ok.ensures.spelled
    c.in-Err-write_form.ensures.fault
