use Rattle.image_restore.proofs.Resuming.{resumes as law}
use Rattle.image_restore.proofs.laws.stored_machines_resume.Goals as goal

pub returns : goal.returns
returns c = law
