-- Cores that one image represents give the same replies, and images that show one core are one.
use Rattle.std.specs.Prelude.{◌≡◌, ℕ, List}
use Rattle.kernel_calls.specs.declared.calls.Event.{Event}
use Rattle.kernel_calls.specs.Machine.{answers, end_of}
use Rattle.memory_image.specs.Image.{Image}
use Rattle.memory_image.specs.Machine.{IsImageOf}
use Rattle.memory_image.specs.Sound.{StandsFor}
use Rattle.memory_image.specs.Spelling.{Spells}
use Rattle.process_table.specs.State.{State}
use Rattle.process_table.specs.View.{View}

-- states for which one image stands, with the same offers: each list of events is answered alike, and ends alike
abbrev pub AnswerAlike : Type 0
AnswerAlike = (image : Image) (s t : State) → StandsFor image s → StandsFor image t → s.offers ≡ t.offers
    → (events : List Event) → (answers s events ≡ answers t events) × (end_of s events ≡ end_of t events)

-- all bytes that encode an image which shows what one core does are the same
abbrev pub ShowOneFile : Type 0
ShowOneFile = (core : View) (image other : Image) (bytes more : List ℕ) → IsImageOf core image → IsImageOf core other → Spells bytes image → Spells more other → bytes ≡ more
