-- Why a file gives no snapshot, as a fault of a command.
use Rattle.std.proofs.Common.{◌≡◌, ℕ, List, [], Option, inl, inr}
use Rattle.std.specs.Prelude.{◌⊎◌, IfSome}
use Rattle.wide_image.specs.Streams.{IsRefusedBehind, NamesBehind, NamesReason, NoneEncode}
use Rattle.wide_image.specs.declared.faults.WideImageFault.{WideImageFault}
use Rattle.wide_image.specs.declared.faults.WideImageFault.TheVariants as wide
use Rattle.wide_image.specs.declared.streams.WideReadFault.{WideReadFault}
use Rattle.wide_image.specs.declared.streams.WideReadFault.TheVariants.{ReadFailed, NotRead}
use Rattle.command_answers.specs.Faults.{IsFileFault, tool_of_whole}

-- a fault other than NoMemory comes only if the bytes encode no image, and names the first reason against them
refusing : (file : Option (List ℕ)) (fault : WideImageFault) → (fault ≡ wide.NoMemory) ⊎ NoneEncode [] file → (fault ≡ wide.NoMemory) ⊎ IfSome file (λ bytes. NamesReason bytes fault)
    → IsFileFault file (tool_of_whole (NotRead fault))
refusing file wide.NotImage (inl is) named = cc
refusing file wide.NotImage (inr none) (inl is) = cc
refusing file wide.NotImage (inr none) (inr reason) = (none, reason)
refusing file wide.BadLength (inl is) named = cc
refusing file wide.BadLength (inr none) (inl is) = cc
refusing file wide.BadLength (inr none) (inr reason) = (none, reason)
refusing file wide.BadVersion (inl is) named = cc
refusing file wide.BadVersion (inr none) (inl is) = cc
refusing file wide.BadVersion (inr none) (inr reason) = (none, reason)
refusing file (wide.BadField offset) (inl is) named = cc
refusing file (wide.BadField offset) (inr none) (inl is) = cc
refusing file (wide.BadField offset) (inr none) (inr reason) = (none, reason)
refusing file wide.NoMemory why named = tt

pub file_fault : (file : Option (List ℕ)) (fault : WideReadFault) → IsRefusedBehind [] file fault → NamesBehind [] file fault
    → IsFileFault file (tool_of_whole fault)
file_fault file ReadFailed why named = tt
file_fault file (NotRead fault) why named = refusing file fault why named
