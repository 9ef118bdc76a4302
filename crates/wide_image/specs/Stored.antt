-- What is written of a machine.
use Rattle.std.specs.Prelude.{◌≡◌, ◌⊎◌, ℕ, List, [], ◌++◌, length, Option, Some, None, slice_get}
use Rattle.std.specs.List.{flat_map, range_with_len}
use Rattle.std.specs.Io.KnownBytes.{Appends}
use Rattle.text_output.specs.Output.{AppendsFront}
use Rattle.phys_memory.specs.Bytes.{frame_bytes}
use Rattle.alloc_table.specs.declared.Role.{Role}
use Rattle.process_table.specs.View.{View}
use Rattle.memory_image.specs.Sound.{StandsFor}
use Rattle.wide_image.specs.Layout.{frame_text}
use Rattle.wide_image.specs.Wide.{WideImage, HasWideFields, head_text, text}
use Rattle.wide_image.specs.InUse.{ShowsMachine}

-- a snapshot that shows what a machine does, and represents its state
pub record IsWholeMachine (v : View) (w : WideImage) : Type 0 where
  pub shows : ShowsMachine v w
  pub fields : HasWideFields w
  pub stands : StandsFor w.image v.state

-- the text of the machine's snapshot was written
abbrev pub StoresMachine : View → Option (List ℕ) → Option (List ℕ) → Type 0
StoresMachine v old new = (w : WideImage) × IsWholeMachine v w × Appends old new (text w)

-- nothing was written, or a front of the text of the machine's snapshot
abbrev pub StoresFront : View → Option (List ℕ) → Option (List ℕ) → Type 0
StoresFront v old new = (new ≡ old) ⊎ ((w : WideImage) × IsWholeMachine v w × AppendsFront old new (text w))

-- ---- The same in pieces: all before the frames' records, then each record

-- what the snapshot of the machine begins with, up to the frames' records
pub record IsHeadOf (v : View) (bytes : List ℕ) : Type 0 where
  pub image : WideImage
  pub machine : IsWholeMachine v image
  pub is : bytes ≡ head_text image

-- such a beginning was written
abbrev pub StoresHead : View → Option (List ℕ) → Option (List ℕ) → Type 0
StoresHead v old new = (head : List ℕ) × IsHeadOf v head × Appends old new head

-- nothing was written, or a front of such a beginning
abbrev pub StoresHeadFront : View → Option (List ℕ) → Option (List ℕ) → Type 0
StoresHeadFront v old new = (new ≡ old) ⊎ ((head : List ℕ) × IsHeadOf v head × AppendsFront old new head)

-- the record of a frame with this role; there is none past the last frame
abbrev pub record_with : View → ℕ → Option Role → List ℕ
record_with v f None = []
record_with v f (Some role) = frame_text f role (frame_bytes v.bytes f)

-- the record of a machine's frame
abbrev pub frame_record : View → ℕ → List ℕ
frame_record v f = record_with v f (slice_get v.roles f)

-- the records of all its frames
abbrev pub frame_records : View → List ℕ
frame_records v = flat_map (frame_record v) (range_with_len 0 (length v.roles))

-- the beginning, and then the records of all frames, are the machine's snapshot
abbrev pub PiecesMakeImages : Type 0
PiecesMakeImages = (v : View) (head : List ℕ) → IsHeadOf v head → (w : WideImage) × IsWholeMachine v w × (text w ≡ head ++ frame_records v)
