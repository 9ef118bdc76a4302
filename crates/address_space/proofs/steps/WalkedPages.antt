-- What memory is after accesses that a processor makes, by its walk or by translations that it kept.
use Rattle.address_space.proofs.Prelude.{◌≡◌, ℕ, zero, suc, ◌+◌, ◌*◌, ◌/◌, ◌%◌, ◌^◌, ◌<◌, Bool, true, cond, List, [], ◌∷◌, refl, ap, sym, ◌∙◌, subst, arith, inl, inr, Option, Some, None, ◌&&◌, IsOk, Ok, slice_set, length-set, option_map, is_ok, unwrap_or, and_parts, page_number, offset_number, start_number, second_page, byte_count, touched, page_and, Size, Role, Access, Read, Write, walk_of, finds_at, finds, byte_place, Image, image_from, Slot, slot_order, Cell, Spaces, fresh, set_bytes, write_at, bytes_of, stored, cell_or_fresh, slot_at, all_accessed, all_stored, get-insert, get-map_values, same_or_not, directory_of, spaces_in, IsSound, Touched, is_marked, kept_place, written_at, marked, CanBeMarked, after_walked_load, after_walked_store, LeadTo}
use Rattle.table_walk.proofs.MarkLemmas.{marks_keep_walks}
use Rattle.address_space.proofs.steps.Finding.{found_at, found_each, found_fits}
use Rattle.address_space.proofs.steps.WalkSteps.{found_entry, load_marked, byte_written, byte_put, touched_then, walk_named}
use Rattle.page_words.specs.FiniteMap as map

-- the walk of the first page, and that of the second where there is one
pub finds_first : (image : Image) (p address : ℕ) (size : Size) (access : Access) → finds image p address size access ≡ true → finds_at image p access address ≡ true
finds_first image p address size access h = (and_parts (finds_at image p access address) _ h).0

pub finds_second : (image : Image) (p address : ℕ) (size : Size) (access : Access) (page : ℕ) → second_page address size ≡ Some page → finds image p address size access ≡ true → finds_at image p access (start_number page) ≡ true
finds_second image p address size access page is h = grind (arith, and_parts)

-- the slots that had both flags have them after a store
marked_stored : (S : Spaces) (slot : Slot) (at : ℕ) (ys : List ℕ) (q : Slot) → is_marked S q ≡ true → is_marked (stored S slot at ys) q ≡ true
marked_stored S slot at ys q h =
    ap flags (get-insert T slot new q)
    ∙ elim (same_or_not slot_order q slot) [
      | inl k ↦ ap (λ b. flags (cond b (Some new) (map.get T q))) k.1
      | inr k ↦ grind (arith, flags, new, T, get-map_values, cell, bytes)
    ]
  where
    flags : Option Cell → Bool
    flags x = (unwrap_or x (fresh q true)).accessed && (unwrap_or x (fresh q true)).dirty

    cell : Cell
    cell = cell_or_fresh S slot

    bytes : List ℕ
    bytes = write_at cell.bytes at ys

    T : Spaces
    T = set_bytes S cell.holders bytes

    new : Cell
    new = record cell { bytes = bytes; accessed = true; dirty = true }

module _ (directories : List (Option ℕ)) (roles : List Role) (p d : ℕ) (live : directory_of directories p ≡ Some d) where
  unchanged : (bytes : List ℕ) → IsSound directories bytes roles → Touched directories (spaces_in directories bytes) bytes roles bytes
  unchanged bytes sound = record {
    sound = sound;
    spaces = refl;
    cost = refl;
    in_use = λ used. used;
    lazy = refl;
    stay = record { entries = λ slot frame stays is. is; tables = λ slot frame table stays is there. there };
  }

  can_mark : (bytes : List ℕ) (address : ℕ) (access : Access) → IsSound directories bytes roles → address < 2 ^ 32 → IsOk (walk_of bytes d address access) → CanBeMarked bytes d address access
  can_mark bytes address access sound small ok =
      let size = sound.size in
      record { size = omega (arith, size, sound.few); whole = omega (arith, size); fits = small; found = ok }

  -- ---- A load: the words that lead to each page are marked

  load_at : (bytes : List ℕ) (address : ℕ) → IsSound directories bytes roles → address < 2 ^ 32 → IsOk (walk_of bytes d address Read)
      → Touched directories (all_accessed (spaces_in directories bytes) p (page_number address ∷ [])) bytes roles (marked bytes d address Read)
  load_at bytes address sound small ok = load_marked directories bytes roles p d address sound live (found_entry directories bytes roles p d sound live address Read small ok)

  pub load_walked : (bytes : List ℕ) (address : ℕ) (size : Size) → IsSound directories bytes roles → finds (image_from directories bytes roles) p address size Read ≡ true
      → Touched directories (all_accessed (spaces_in directories bytes) p (touched address size)) bytes roles (after_walked_load bytes d address (second_page address size))
  load_walked bytes address size sound test = by (second_page address size) refl
    where
      image : Image
      image = image_from directories bytes roles

      first : (address < 2 ^ 32) × IsOk (walk_of bytes d address Read)
      first = found_at image p d address Read live (finds_first image p address size Read test)

      one : List ℕ
      one = marked bytes d address Read

      left : Touched directories (all_accessed (spaces_in directories bytes) p (page_number address ∷ [])) bytes roles one
      left = load_at bytes address sound first.0 first.1

      by : (x : Option ℕ) → second_page address size ≡ x
          → Touched directories (all_accessed (spaces_in directories bytes) p (page_and (page_number address) x)) bytes roles (unwrap_or (option_map (λ page. marked one d (start_number page) Read) x) one)
      by None is = left
      by (Some page) is =
          let at = found_at image p d (start_number page) Read live (finds_second image p address size Read page is test) in
          let walks = marks_keep_walks bytes d address Read (can_mark bytes address Read sound first.0 first.1) in
          let same : page_number (start_number page) ≡ page = omega arith in
          let later = load_at one (start_number page) left.sound at.0 (subst IsOk (sym (walks d (start_number page) Read)) at.1) in
          subst (λ n. Touched directories (all_accessed (spaces_in directories bytes) p (page_number address ∷ n ∷ [])) bytes roles (marked one d (start_number page) Read)) same
          (subst (λ (S : Spaces). Touched directories (all_accessed S p (page_number (start_number page) ∷ [])) bytes roles (marked one d (start_number page) Read)) left.spaces
          (touched_then directories _ _ bytes one (marked one d (start_number page) Read) roles left later))

  -- ---- A store: the words that lead to each byte are marked, and it is written where they lead

  bytes_walked : (n : ℕ) (bytes : List ℕ) (address v : ℕ) → IsSound directories bytes roles → ((i : ℕ) → i < n → IsOk (walk_of bytes d (address + i) Write)) → address + n < 2 ^ 32
      → Touched directories (all_stored (spaces_in directories bytes) p address (bytes_of n v)) bytes roles (after_walked_store bytes d address (bytes_of n v))
  bytes_walked zero bytes address v sound found fits = unchanged bytes sound
  bytes_walked (suc n) bytes address v sound found fits =
      let here : address + 0 ≡ address = omega arith in
      let small : address < 2 ^ 32 = omega (arith, fits) in
      let ok : IsOk (walk_of bytes d address Write) = subst (λ a. IsOk (walk_of bytes d a Write)) here (found 0 (omega arith)) in
      let first : List ℕ = marked bytes d address Write in
      let two : List ℕ = slice_set first (byte_place bytes d address) (v % 256) in
      let put = byte_written directories bytes two roles p d address v sound live small ok
      (marks_keep_walks bytes d address Write (can_mark bytes address Write sound small ok)) refl (length-set first (byte_place bytes d address) (v % 256)) in
      let later = bytes_walked n two (address + 1) (v / 256) put.touched.sound
      (λ i l. let next : address + suc i ≡ address + 1 + i = omega arith in
      subst IsOk (sym (put.walks (address + 1 + i) Write (omega (arith, fits, l)))) (subst (λ a. IsOk (walk_of bytes d a Write)) next (found (suc i) (omega (arith, l)))))
      (omega (arith, fits)) in
      subst (λ (S : Spaces). Touched directories (all_stored S p (address + 1) (bytes_of n (v / 256))) bytes roles (after_walked_store two d (address + 1) (bytes_of n (v / 256)))) put.touched.spaces
      (touched_then directories _ _ bytes two _ roles put.touched later)

  pub store_walked : (bytes : List ℕ) (address : ℕ) (size : Size) (value : ℕ) → IsSound directories bytes roles → finds (image_from directories bytes roles) p address size Write ≡ true
      → Touched directories (all_stored (spaces_in directories bytes) p address (bytes_of (byte_count size) value)) bytes roles (after_walked_store bytes d address (bytes_of (byte_count size) value))
  store_walked bytes address size value sound test =
      let each = found_each directories bytes roles p d address size Write sound live test in
      bytes_walked (byte_count size) bytes address value sound each.found (found_fits bytes d address size Write each)

  -- ---- A store by translations that were kept: where both flags of each slot are set, its bytes are written

  pub bytes_kept : (frames : ℕ → ℕ) (n : ℕ) (bytes : List ℕ) (address v : ℕ) → IsSound directories bytes roles
      → ((i : ℕ) → i < n → walk_of bytes d (address + i) Write ≡ Ok (frames (page_number (address + i))))
      → ((i : ℕ) → i < n → is_marked (spaces_in directories bytes) (slot_at p (address + i)) ≡ true) → address + n < 2 ^ 32
      → Touched directories (all_stored (spaces_in directories bytes) p address (bytes_of n v)) bytes roles (written_at frames bytes address (bytes_of n v))
  bytes_kept frames zero bytes address v sound lead flags fits = unchanged bytes sound
  bytes_kept frames (suc n) bytes address v sound lead flags fits =
      let here : address + 0 ≡ address = omega arith in
      let small : address < 2 ^ 32 = omega (arith, fits) in
      let slot : Slot = slot_at p address in
      let walk : walk_of bytes d address Write ≡ Ok (frames (page_number address)) = subst (λ a. walk_of bytes d a Write ≡ Ok (frames (page_number a))) here (lead 0 (omega arith)) in
      let set : is_marked (spaces_in directories bytes) slot ≡ true = subst (λ a. is_marked (spaces_in directories bytes) (slot_at p a) ≡ true) here (flags 0 (omega arith)) in
      let two : List ℕ = slice_set bytes (kept_place frames address) (v % 256) in
      let is : two ≡ slice_set bytes (byte_place bytes d address) (v % 256) =
      ap (λ f. slice_set bytes (4096 * f + offset_number address) (v % 256)) (walk_named bytes d address (frames (page_number address)) Write walk) in
      let put = byte_put directories bytes two roles p d address v sound live small (ap is_ok walk) set is (length-set bytes (kept_place frames address) (v % 256)) in
      let later = bytes_kept frames n two (address + 1) (v / 256) put.touched.sound
      (λ i l. let next : address + suc i ≡ address + 1 + i = omega arith in
      put.walks (address + 1 + i) Write (omega (arith, fits, l)) ∙ subst (λ a. walk_of bytes d a Write ≡ Ok (frames (page_number a))) next (lead (suc i) (omega (arith, l))))
      (λ i l. let next : address + suc i ≡ address + 1 + i = omega arith in
      ap (λ (S : Spaces). is_marked S (slot_at p (address + 1 + i))) put.touched.spaces
      ∙ marked_stored (spaces_in directories bytes) slot (offset_number address) (v % 256 ∷ []) (slot_at p (address + 1 + i))
      (subst (λ a. is_marked (spaces_in directories bytes) (slot_at p a) ≡ true) next (flags (suc i) (omega (arith, l)))))
      (omega (arith, fits)) in
      subst (λ (S : Spaces). Touched directories (all_stored S p (address + 1) (bytes_of n (v / 256))) bytes roles (written_at frames two (address + 1) (bytes_of n (v / 256)))) put.touched.spaces
      (touched_then directories _ _ bytes two _ roles put.touched later)

  pub store_kept : (frames : ℕ → ℕ) (bytes : List ℕ) (address : ℕ) (size : Size) (value : ℕ) → IsSound directories bytes roles → finds (image_from directories bytes roles) p address size Write ≡ true
      → LeadTo bytes d Write frames address size → ((i : ℕ) → i < byte_count size → is_marked (spaces_in directories bytes) (slot_at p (address + i)) ≡ true)
      → Touched directories (all_stored (spaces_in directories bytes) p address (bytes_of (byte_count size) value)) bytes roles (written_at frames bytes address (bytes_of (byte_count size) value))
  store_kept frames bytes address size value sound test lead flags =
      let each = found_each directories bytes roles p d address size Write sound live test in
      bytes_kept frames (byte_count size) bytes address value sound lead flags (found_fits bytes d address size Write each)
