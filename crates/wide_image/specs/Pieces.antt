-- A snapshot that is read piece by piece: its front of 1,556 bytes, then each offer, then each frame's record.
use Rattle.std.specs.Prelude.{◌≡◌, ℕ, ◌+◌, ◌-◌, ◌*◌, ◌<◌, ◌≤◌, ◌||◌, not, ◌==◌, nat_lt, if◌then◌else◌, List, [], ◌∷◌, ◌++◌, length, replicate, Option, Some, None, slice_get}
use Rattle.std.specs.Option.{option_map, unwrap_or}
use Rattle.std.specs.List.{flat_map}
use Rattle.phys_memory.specs.Bytes.{word_at}
use Rattle.alloc_table.specs.declared.Role.{Role}
use Rattle.alloc_table.specs.declared.Role.TheVariants.{Free}
use Rattle.alloc_table.specs.Roles.{is_free}
use Rattle.memory_image.specs.declared.processes.Process.{Process}
use Rattle.memory_image.specs.Image.{IsProcess, IsRole, IsWord}
use Rattle.memory_image.specs.Refusals.{Field}
use Rattle.memory_image.specs.Spelling.{number, process_bytes}
use Rattle.memory_image.specs.Tests.{first_failing}
use Rattle.wide_image.specs.declared.faults.WideImageFault.{WideImageFault}
use Rattle.wide_image.specs.declared.faults.WideImageFault.TheVariants.{NotImage, BadLength, BadVersion, BadField}
use Rattle.wide_image.specs.declared.fronts.Front.{Front}
use Rattle.wide_image.specs.declared.offers.PendingOffer.{PendingOffer}
use Rattle.wide_image.specs.Faults.{offer_tests, frame_tests, front_fields, bad_field}
use Rattle.wide_image.specs.FirstBytes.{begins_snapshot, snapshot_magic}
use Rattle.wide_image.specs.Layout.{frames_text, frames_stored, AreBlank}
use Rattle.wide_image.specs.Offers.{rank_of, offer_bytes}
use Rattle.wide_image.specs.Wide.{AreOffers}

-- ---- The front

-- the first 1,556 bytes
unfoldable pub front_text : Front → List ℕ
front_text f = snapshot_magic ++ (number 1 ++ (number f.frames ++ (flat_map process_bytes f.processes ++ (number f.offers ++ number f.stored))))

-- its numbers are within their limits
pub record IsFront (f : Front) : Type 0 where
  pub fewest : 16 ≤ f.frames
  pub most : f.frames ≤ 1048576
  pub offers : IsWord f.offers
  pub stored : f.stored ≤ f.frames
  pub pids : length f.processes ≡ 64
  pub processes : (p : ℕ) (r : Process) → unwrap_or (slice_get f.processes p) None ≡ Some r → IsProcess f.frames p r

-- the first field of a front that breaks its rule, where it says that it has n frames
unfoldable pub front_bad : List ℕ → ℕ → ℕ → Option WideImageFault
front_bad bytes n stored = option_map bad_field (first_failing (front_fields bytes n stored))

-- the first fault of a front that says it has n frames
abbrev pub front_fault_with : List ℕ → ℕ → Option WideImageFault
front_fault_with bytes n =
    if nat_lt n 16 || nat_lt 1048576 n then Some (BadField 8)
    else if nat_lt (length bytes) 1556 then Some BadLength
    else front_bad bytes n (word_at bytes 1552)

-- the first reason against bytes as a front
unfoldable pub front_fault : List ℕ → Option WideImageFault
front_fault bytes =
    if not (begins_snapshot bytes) then Some NotImage
    else if nat_lt (length bytes) 12 then Some BadLength
    else if not (word_at bytes 4 == 1) then Some BadVersion
    else front_fault_with bytes (word_at bytes 8)

-- ---- What is read of the rest

-- a snapshot as far as it was read: its front, offers, and frames up to the last whose record was read
pub record Begun : Type 0 where
  pub front : Front
  pub offers : List PendingOffer
  pub roles : List Role
  pub bytes : List ℕ

-- the bytes that were read
unfoldable pub so_far : Begun → List ℕ
so_far b = front_text b.front ++ (flat_map offer_bytes b.offers ++ frames_text 0 b.roles b.bytes)

-- how many they are
abbrev pub place_of : Begun → ℕ
place_of b = 1556 + 16 * length b.offers + 4116 * frames_stored b.roles

-- how many bytes the next piece has: an offer's, a frame's record's, or none at the end
abbrev pub wanted : Begun → ℕ
wanted b =
    if nat_lt (length b.offers) b.front.offers then 16
    else if nat_lt (frames_stored b.roles) b.front.stored then 4116
    else 0

-- how many pieces are left
abbrev pub left : Begun → ℕ
left b = b.front.offers + b.front.stored - (length b.offers + frames_stored b.roles)

-- the place after that of the last offer, among all that there can be
abbrev pub next_rank : ℕ → List PendingOffer → ℕ
next_rank from [] = from
next_rank from (o ∷ os) = next_rank (rank_of o + 1) os

-- the frame after the last that isn't free
abbrev pub next_frame : ℕ → ℕ → List Role → ℕ
next_frame from f [] = from
next_frame from f (role ∷ roles) = next_frame (if is_free role then from else f + 1) (f + 1) roles

-- the tests of an offer in these bytes, which stand at a place
abbrev pub offer_piece : List ℕ → ℕ → ℕ → List Field
offer_piece piece from place = offer_tests from place (word_at piece 0) (word_at piece 4) (word_at piece 8) (word_at piece 12)

-- the tests of a frame's record in these bytes, which stand at a place
abbrev pub frame_piece : List ℕ → ℕ → ℕ → ℕ → List Field
frame_piece piece n from place = frame_tests n from place (word_at piece 0) (word_at piece 4) (word_at piece 8) (word_at piece 12) (word_at piece 16)

-- the tests of the next piece
abbrev pub piece_fields : Begun → List ℕ → List Field
piece_fields b piece =
    if nat_lt (length b.offers) b.front.offers then offer_piece piece (next_rank 0 b.offers) (place_of b)
    else frame_piece piece b.front.frames (length b.roles) (place_of b)

-- the first field of the next piece that breaks its rule
abbrev pub piece_fault : Begun → List ℕ → Option WideImageFault
piece_fault b piece = option_map bad_field (first_failing (piece_fields b piece))

-- an offer more
abbrev pub with_offer : Begun → PendingOffer → Begun
with_offer b offer = record b { offers = b.offers ++ offer ∷ [] }

-- a frame more, after free ones that hold zeros
abbrev pub with_frame : Begun → ℕ → Role → List ℕ → Begun
with_frame b frame role part = record b {
  roles = b.roles ++ (replicate (frame - length b.roles) Free ++ role ∷ []);
  bytes = b.bytes ++ (replicate (4096 * (frame - length b.roles)) 0 ++ part);
}

-- numbers within their limits; offers come first, and the last frame isn't free
pub record IsBegun (b : Begun) : Type 0 where
  pub front : IsFront b.front
  pub offers : AreOffers b.offers
  pub offers_most : length b.offers ≤ b.front.offers
  pub offers_first : length b.offers < b.front.offers → b.roles ≡ []
  pub inside : length b.roles ≤ b.front.frames
  pub last : next_frame 0 0 b.roles ≡ length b.roles
  pub roles : (f : ℕ) (r : Role) → slice_get b.roles f ≡ Some r → IsRole r
  pub size : length b.bytes ≡ 4096 * length b.roles
  pub blank : AreBlank b.roles b.bytes
  pub stored_most : frames_stored b.roles ≤ b.front.stored
