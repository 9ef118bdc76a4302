use Rattle.std.proofs.Common.{inr, refl}
use Rattle.memory_image.proofs.RespellLemmas.{unfaulted}
use Rattle.tower_cli.proofs.images.restore_bytes.Goals as goal

-- there is no memory for the check or the core of an image that was read
pub returns-in-Err-NoMemory-clause-fault : goal.returns-in-Err-NoMemory-clause-fault
returns-in-Err-NoMemory-clause-fault c = inr (refl, unfaulted c.args.bytes.now c.in-Ok.image c.in-Ok.ensures.spelled)
