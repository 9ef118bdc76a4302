-- Images that differ in free frames alone, and what a snapshot has of a machine.
use Rattle.std.specs.Prelude.{◌≡◌, ℕ, false, length, Some, slice_get}
use Rattle.phys_memory.specs.Bytes.{frame_bytes}
use Rattle.alloc_table.specs.declared.Role.{Role}
use Rattle.alloc_table.specs.Roles.{is_free}
use Rattle.process_table.specs.State.{State}
use Rattle.process_table.specs.View.{View}
use Rattle.memory_image.specs.Image.{Image}
use Rattle.memory_image.specs.Machine.{IsImageOf}
use Rattle.memory_image.specs.Sound.{StandsFor}
use Rattle.memory_image.specs.Image.{IsWideImage}
use Rattle.wide_image.specs.Offers.{AreListed}
use Rattle.wide_image.specs.Wide.{WideImage, HasWideFields, text, Encodes}

-- the same frames in the same roles, with the same bytes in each that isn't free
pub record AgreeInUse (image other : Image) : Type 0 where
  pub version : image.version ≡ other.version
  pub processes : image.processes ≡ other.processes
  pub roles : image.roles ≡ other.roles
  pub size : length image.bytes ≡ length other.bytes
  pub bytes : (f : ℕ) (role : Role) → slice_get image.roles f ≡ Some role → is_free role ≡ false → frame_bytes image.bytes f ≡ frame_bytes other.bytes f

-- what a free frame holds is no part of the state
abbrev pub FreeFramesDoNotMatter : Type 0
FreeFramesDoNotMatter = (image other : Image) (s : State) → IsWideImage image → image.version ≡ 2 → AgreeInUse image other → StandsFor image s → StandsFor other s

-- two snapshots have one text exactly if they agree in use and have the same offers
abbrev pub TextsTellMachines : Type 0
TextsTellMachines = (w v : WideImage) → HasWideFields w → HasWideFields v → text w ≡ text v → AgreeInUse w.image v.image × (w.offers ≡ v.offers)

-- a snapshot that shows what a machine does, with its offers
pub record ShowsMachine (v : View) (w : WideImage) : Type 0 where
  pub image : IsImageOf v w.image
  pub offers : AreListed v.state.offers w.offers

-- the snapshot that is read of a machine's bytes represents its state
abbrev pub MachinesAreRead : Type 0
MachinesAreRead = (v : View) (w read : WideImage) → HasWideFields w → ShowsMachine v w → StandsFor w.image v.state → Encodes (text w) read
    → StandsFor read.image v.state × AreListed v.state.offers read.offers
