-- Slots whose walk leads to the same frame after a change.
use Rattle.address_space.proofs.Prelude.{arith, ◌≡◌, ℕ, false, List, refl, ap, sym, ◌∙◌, Option, Some, option_map, option_and_then, frame_number, slot_number, frame_bytes, Role, PageEntry, Slot, at_page, Image, directory_at, page_word, image_from, directory_of, entries_in, IsSound, LooseStay, way_of, Gone, FramesStay, none_goes, entry_frame, PlacesStay}
use Rattle.address_space.proofs.standing.Standing.{read_entry, same_table}

-- the frame of a slot's word is that of its entry
pub frame_read : (directories : List (Option ℕ)) (bytes : List ℕ) (roles : List Role) → IsSound directories bytes roles
    → (slot : Slot)
    → entry_frame (entries_in (directory_of directories) (frame_bytes bytes)) slot ≡ option_map frame_number
    (page_word (image_from directories bytes roles) slot)
frame_read directories bytes roles sound slot = ap (option_map (λ (x : PageEntry). x.frame))
    (read_entry directories bytes roles sound slot) ∙ (grind arith)

-- a way is a directory and a frame
pub record Way (image : Image) (slot : Slot) (directory frame : ℕ) : Type 0 where
  pub live : directory_at image slot.pid ≡ Some directory
  pub names : option_map frame_number (page_word image slot) ≡ Some frame

pub way_parts : (image : Image) (slot : Slot) (directory frame : ℕ) → way_of image slot ≡ Some (directory, frame)
    → Way image slot directory frame
way_parts image slot directory frame h =
    grind (arith, directory_at, page_word, option_and_then, option_map, frame_number)

pub way_whole : (image : Image) (slot : Slot) (directory frame : ℕ) → Way image slot directory frame
    → way_of image slot ≡ Some (directory, frame)
way_whole image slot directory frame way = grind (arith, option_and_then, option_map, frame_number, page_word)

-- where directories stay, and entries with their tables
pub frames_stay_by : (gone : Gone) (directories directories' : List (Option ℕ)) (bytes bytes' : List ℕ)
    (roles roles' : List Role) → IsSound directories bytes roles → IsSound directories' bytes' roles'
    → ((slot : Slot) (d f : ℕ) → gone slot f ≡ false → directory_of directories slot.pid ≡ Some d
    → directory_of directories' slot.pid ≡ Some d)
    → PlacesStay gone (directory_of directories) (frame_bytes bytes) (directory_of directories') (frame_bytes bytes')
    → FramesStay gone (image_from directories bytes roles) (image_from directories' bytes' roles')
frames_stay_by gone directories directories' bytes bytes' roles roles' sound sound' dirs stay = record {
  directories = λ q d spared live. dirs (at_page q spared.page) d spared.frame spared.stays live;
  tables = λ slot d f t stays way is.
      let was = way_parts (image_from directories bytes roles) slot d f way in
      same_table directories' bytes' roles' sound' slot.pid (slot_number slot.page)
      ∙ stay.tables slot f t stays (frame_read directories bytes roles sound slot ∙ was.names)
      (sym (same_table directories bytes roles sound slot.pid (slot_number slot.page)) ∙ is);
  ways = λ slot d f stays way.
      let was = way_parts (image_from directories bytes roles) slot d f way in
      way_whole (image_from directories' bytes' roles') slot d f
      (record {
        live = dirs slot d f stays was.live;
        names = grind (arith, frame_read);
      });
}

-- where directories are the same
pub frames_stay : (gone : Gone) (directories : List (Option ℕ)) (bytes bytes' : List ℕ) (roles roles' : List Role)
    → IsSound directories bytes roles → IsSound directories bytes' roles'
    → PlacesStay gone (directory_of directories) (frame_bytes bytes) (directory_of directories) (frame_bytes bytes')
    → FramesStay gone (image_from directories bytes roles) (image_from directories bytes' roles')
frames_stay gone directories bytes bytes' roles roles' sound h stay = grind (arith, frames_stay_by)

-- nothing changed
pub stays_same : {gone : Gone} {a : Image} → FramesStay gone a a
stays_same = grind arith

-- one change after another
pub stays_then : {gone : Gone} {a b c : Image} → FramesStay gone a b → FramesStay gone b c → FramesStay gone a c
stays_then first second = grind arith

-- where fewer go
pub stays_more : {gone gone' : Gone} {a b : Image}
    → ((slot : Slot) (frame : ℕ) → gone slot frame ≡ false → gone' slot frame ≡ false)
    → FramesStay gone' a b → FramesStay gone a b
stays_more fewer stay = grind arith

pub stays_most : {gone : Gone} {a b : Image} → FramesStay none_goes a b → FramesStay gone a b
stays_most stay = stays_more (λ q f stays. refl) stay

-- ---- Frames of pages, and free ones

pub loose_same : {a : Image} → LooseStay a a
loose_same = record { each = λ f loose. (refl, loose) }

pub loose_then : {a b c : Image} → LooseStay a b → LooseStay b c → LooseStay a c
loose_then one two = grind arith
