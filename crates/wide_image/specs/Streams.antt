-- A snapshot that is read from a reader of std.
use Rattle.std.specs.Prelude.{◌≡◌, ◌≢◌, ◌⊎◌, ◌++◌, ◌<◌, ℕ, List, [], length, take, Option, Some, None, IfSome}
use Rattle.std.specs.Io.KnownBytes.{Consumes}
use Rattle.wide_image.specs.declared.faults.WideImageFault.{WideImageFault}
use Rattle.wide_image.specs.declared.faults.WideImageFault.TheVariants.{BadLength, NoMemory}
use Rattle.wide_image.specs.declared.streams.WideReadFault.{WideReadFault}
use Rattle.wide_image.specs.declared.streams.WideReadFault.TheVariants.{ReadFailed, NotRead}
use Rattle.wide_image.specs.Faults.{fault_of}
use Rattle.wide_image.specs.Pieces.{Begun, IsBegun, front_fault, piece_fault, so_far, wanted}
use Rattle.wide_image.specs.Wide.{WideImage, Encodes}

-- a snapshot grew by a piece, which the reader lost
abbrev pub ReadsOn : Begun → Begun → Option (List ℕ) → Option (List ℕ) → Type 0
ReadsOn old new before after = (piece : List ℕ) × (so_far new ≡ so_far old ++ piece) × Consumes before after piece

-- all bytes that were left encode the snapshot
abbrev pub EncodesAll : Option (List ℕ) → WideImage → Type 0
EncodesAll remaining image = IfSome remaining (λ bytes. Encodes bytes image)

-- there is a reason against these bytes, and all that are left behind them
abbrev pub NoneEncode : List ℕ → Option (List ℕ) → Type 0
NoneEncode text remaining = IfSome remaining (λ bytes. fault_of (text ++ bytes) ≡ None → ⊥)

-- why a snapshot isn't read on behind these bytes of it: a read failed, there is no memory, or there is such a reason
abbrev pub IsRefusedBehind : List ℕ → Option (List ℕ) → WideReadFault → Type 0
IsRefusedBehind text remaining ReadFailed = Unit {0}
IsRefusedBehind text remaining (NotRead fault) = (fault ≡ NoMemory) ⊎ NoneEncode text remaining

-- fewer bytes are left than so many, or a read failed
abbrev pub IsShort : Option (List ℕ) → ℕ → WideReadFault → Type 0
IsShort remaining count ReadFailed = Unit {0}
IsShort remaining count (NotRead fault) = IfSome remaining (λ bytes. length bytes < count)

-- a read failed, or the length is wrong
abbrev pub IsOfLength : WideReadFault → Type 0
IsOfLength ReadFailed = Unit {0}
IsOfLength (NotRead fault) = fault ≡ BadLength

-- bytes are left, or a read failed
abbrev pub HasMore : Option (List ℕ) → WideReadFault → Type 0
HasMore remaining ReadFailed = Unit {0}
HasMore remaining (NotRead fault) = IfSome remaining (λ bytes. bytes ≡ [] → ⊥)

-- a snapshot is read from these bytes up to a piece, of which the fault names the first field that breaks its rule
pub record RefusesPiece (bytes : List ℕ) (fault : WideImageFault) : Type 0 where
  pub begun : Begun
  pub kept : IsBegun begun
  pub piece : List ℕ
  pub rest : List ℕ
  pub all : bytes ≡ so_far begun ++ (piece ++ rest)
  pub some : 0 < wanted begun
  pub long : length piece ≡ wanted begun
  pub refused : piece_fault begun piece ≡ Some fault

-- a snapshot is read from these bytes, which end within its next piece, or go on after its last
pub record EndsElsewhere (bytes : List ℕ) : Type 0 where
  pub begun : Begun
  pub kept : IsBegun begun
  pub rest : List ℕ
  pub all : bytes ≡ so_far begun ++ rest
  pub elsewhere : (length rest < wanted begun) ⊎ ((wanted begun ≡ 0) × (rest ≢ []))

-- the fault names the first reason against these bytes, in the order in which they are read: one against the front, the
-- first field of a piece that breaks its rule, or BadLength
abbrev pub NamesReason : List ℕ → WideImageFault → Type 0
NamesReason bytes fault = (front_fault (take 1556 bytes) ≡ Some fault) ⊎ (RefusesPiece bytes fault ⊎ ((fault ≡ BadLength) × EndsElsewhere bytes))

-- what a fault says of these bytes of a snapshot, and all that are left behind them: a read failed, there is no memory,
-- or it names the first reason
abbrev pub NamesBehind : List ℕ → Option (List ℕ) → WideReadFault → Type 0
NamesBehind text remaining ReadFailed = Unit {0}
NamesBehind text remaining (NotRead fault) = (fault ≡ NoMemory) ⊎ IfSome remaining (λ bytes. NamesReason (text ++ bytes) fault)

-- a read failed, or there is no memory
abbrev pub IsForWant : WideReadFault → Type 0
IsForWant ReadFailed = Unit {0}
IsForWant (NotRead fault) = fault ≡ NoMemory
