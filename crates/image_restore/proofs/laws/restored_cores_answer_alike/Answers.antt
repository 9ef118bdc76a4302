use Rattle.std.proofs.Common.{◌≡◌, ap}
use Rattle.kernel_calls.specs.Machine.{answers, end_of}
use Rattle.memory_image.specs.Sound.{shown_by}
use Rattle.process_table.specs.State.{State}
use Rattle.process_table.proofs.ImageStanding.{stands_for_one_state}
use Rattle.image_restore.proofs.laws.restored_cores_answer_alike.Goals as goal

pub returns : goal.returns
returns c = λ image s t f g offers events.
    let one = stands_for_one_state (shown_by image) s t f g in
    let same : s ≡ t = λ i. record { spaces = one.0 i; book = one.1 i; offers = offers i } in
    (ap (λ (s : State). answers s events) same, ap (λ (s : State). end_of s events) same)
