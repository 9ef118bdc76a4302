-- Bytes that begin as a snapshot encode no image, and bytes that begin as an image encode no snapshot.
use Rattle.std.specs.Prelude.{◌≡◌, ℕ, true, List, Some}
use Rattle.memory_image.specs.declared.faults.ImageFault.TheVariants as image
use Rattle.memory_image.specs.Refusals.{begins, fault_of as image_fault}
use Rattle.wide_image.specs.declared.faults.WideImageFault.TheVariants.{NotImage}
use Rattle.wide_image.specs.Faults.{fault_of}
use Rattle.wide_image.specs.FirstBytes.{begins_snapshot}

-- the first reason against each of them is that it is none, whatever its version
abbrev pub FormatsAreApart : Type 0
FormatsAreApart = (bytes : List ℕ) → (begins_snapshot bytes ≡ true → image_fault bytes ≡ Some image.NotImage) × (begins bytes ≡ true → fault_of bytes ≡ Some NotImage)
