-- A snapshot: what a machine is at one moment, with its pending offers, and as bytes.
use Rattle.std.specs.Prelude.{◌≡◌, ℕ, List, ◌++◌, length, Some, slice_get}
use Rattle.std.specs.List.{flat_map}
use Rattle.memory_image.specs.Image.{Image, IsWideImage, frames}
use Rattle.memory_image.specs.Spelling.{number, process_bytes}
use Rattle.wide_image.specs.declared.offers.PendingOffer.{PendingOffer}
use Rattle.wide_image.specs.FirstBytes.{snapshot_magic}
use Rattle.wide_image.specs.Layout.{frames_text, frames_stored, AreBlank}
use Rattle.wide_image.specs.Offers.{IsPending, Rise, offer_bytes}

-- a machine's image with the words of version 2, and its offers
pub record WideImage : Type 0 where
  pub image : Image
  pub offers : List PendingOffer

-- offers whose numbers are within their limits, in order
pub record AreOffers (offers : List PendingOffer) : Type 0 where
  pub pending : (i : ℕ) (o : PendingOffer) → slice_get offers i ≡ Some o → IsPending o
  pub rise : Rise 0 offers

-- a snapshot of up to 1,048,576 frames, and offers, whose numbers are within their limits
pub record HasWideFields (w : WideImage) : Type 0 where
  pub image : IsWideImage w.image
  pub today : w.image.version ≡ 2
  pub offers : AreOffers w.offers

-- all before the frames' records: place 0, 4, 8, 12, 1548, 1552 and 1556
unfoldable pub head_text : WideImage → List ℕ
head_text w = snapshot_magic ++ (number 1 ++ (number (frames w.image) ++ (flat_map process_bytes w.image.processes ++ (number (length w.offers) ++ (number (frames_stored w.image.roles) ++ flat_map offer_bytes w.offers)))))

-- place 0, 4, 8, 12, 1548, 1552, 1556, and 1556 and 16 for each offer
unfoldable pub text : WideImage → List ℕ
text w = snapshot_magic ++ (number 1 ++ (number (frames w.image) ++ (flat_map process_bytes w.image.processes ++ (number (length w.offers) ++ (number (frames_stored w.image.roles) ++ (flat_map offer_bytes w.offers ++ frames_text 0 w.image.roles w.image.bytes))))))

-- a snapshot whose free frames hold zeros: of several that have one text, the one that is read from it
pub record IsWhole (w : WideImage) : Type 0 where
  pub fields : HasWideFields w
  pub blank : AreBlank w.image.roles w.image.bytes

-- bytes encode a snapshot
pub record Encodes (bytes : List ℕ) (w : WideImage) : Type 0 where
  pub whole : IsWhole w
  pub is : bytes ≡ text w
