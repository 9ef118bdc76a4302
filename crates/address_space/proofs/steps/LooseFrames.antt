-- Frames of pages and free ones, where a page leaves or a frame is released.
use Rattle.address_space.proofs.Prelude.{◌≡◌, ◌≢◌, ℕ, List, refl, ap, sym, ◌∙◌, subst, inl, inr, Option, Some, None, arith, ◌⊎◌, slice_get, option_and_then, cases_eq, slice_get_within, slot_number, frame_number, frame_bytes, with_frame-other, Role, Free, Directory, Table, Page, IsReleased, released, get-set_same, get-set_other, PageEntry, Frames, IsCleared, dir_word, table_of, image_from, LooseStay, IsSound, directory_of, EntryLeft, TableFreed}

-- by its role
abbrev Loose : Option Role → Type 0
Loose role = (role ≡ Some Free) ⊎ ((c : ℕ) × (role ≡ Some (Page c)))

-- one frame is released
release : (roles new : List Role) (g f : ℕ) → IsReleased roles g new → Loose (slice_get roles f) → Loose (slice_get new f)
release roles new g f r loose = grind (arith, cases_eq, slice_get_within, get-set_same, get-set_other)

pub loose_released : (directories later : List (Option ℕ)) (bytes : List ℕ) (roles new : List Role) (g : ℕ) → IsReleased roles g new
    → LooseStay (image_from directories bytes roles) (image_from later bytes new)
loose_released directories later bytes roles new g r = record { each = λ f loose. (refl, release roles new g f r loose) }

module _ (directories : List (Option ℕ)) (bytes two : List ℕ) (roles one last : List Role) (p d page table : ℕ) (e : PageEntry) (freed : Option ℕ)
    (sound : IsSound directories bytes roles) (live : directory_of directories p ≡ Some d) (linked : table_of (frame_bytes bytes) d (slot_number page) ≡ Some table)
    (cleared : IsCleared (frame_bytes bytes) d page freed (frame_bytes two)) (left : EntryLeft roles e one) (table_freed : TableFreed one freed last) where
  abbrev m : Frames
  m = frame_bytes bytes

  -- the table is the one that the word names
  names : frame_number (dir_word m d (slot_number page)) ≡ table
  names = grind arith

  in_table : slice_get roles table ≡ Some (Table p (slot_number page))
  in_table = sound.tables.table p (slot_number page) table (ap (option_and_then (λ d. table_of m d (slot_number page))) live ∙ linked)

  bytes_stay : (f : ℕ) → f ≢ table → f ≢ d → frame_bytes two f ≡ m f
  bytes_stay f other apart = grind (arith, with_frame-other, names)

  roles_stay : (f : ℕ) → Loose (slice_get roles f) → Loose (slice_get last f)
  roles_stay f loose = by freed refl
    where
      by : (x : Option ℕ) → freed ≡ x → Loose (slice_get last f)
      by None is = subst (λ l. Loose (slice_get l f)) (sym (table_freed.kept is)) (grind (arith, release))
      by (Some t) is = release one last t f (table_freed.released t is) (grind (arith, release))

  apart_by : (f g : ℕ) (r : Role) → slice_get roles g ≡ Some r → (Loose (Some r) → ⊥) → Loose (slice_get roles f) → f ≢ g
  apart_by f g r is not loose same = not (subst Loose (ap (slice_get roles) same ∙ is) loose)

  no_table : (q s : ℕ) → Loose (Some (Table q s)) → ⊥
  no_table q s (inl h) = cc
  no_table q s (inr h) = let k = h.1 in cc

  no_directory : (q : ℕ) → Loose (Some (Directory q)) → ⊥
  no_directory q (inl h) = cc
  no_directory q (inr h) = let k = h.1 in cc

  pub loose_gone : LooseStay (image_from directories bytes roles) (image_from directories two last)
  loose_gone = record {
    each = λ f loose. (
      bytes_stay f (apart_by f table (Table p (slot_number page)) in_table (no_table p (slot_number page)) loose)
          (apart_by f d (Directory p) (sound.tables.directory p d live) (no_directory p) loose),
      roles_stay f loose,
    );
  }
