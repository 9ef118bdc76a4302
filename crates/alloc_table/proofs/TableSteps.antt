-- What a frame table keeps, where it opens and after each change of a role.
use Rattle.std.proofs.Common.{◌≡◌, ◌≢◌, ℕ, zero, suc, ◌+◌, ◌-◌, ◌<◌, ◌≤◌, true, false, cond, List, [], ◌∷◌, length}
use Rattle.std.proofs.Common.{replicate, map, get_or, refl, ap, sym, ◌∙◌, Some, unwrap_or, arith, length-set, count_by}
use Rattle.std.specs.Prelude.{slice_get, slice_set}
use Rattle.std.proofs.lemmas.List.{map-set, set-get_or, length-replicate, length-map}
use Rattle.std.proofs.lemmas.List.Sums.{sum_by-cons}
use Rattle.std.proofs.lemmas.Option.{slice_get_within}
use Rattle.page_words.specs.FiniteSet as set
use Rattle.page_words.specs.Marked.{marked_numbers}
use Rattle.page_words.proofs.SetLemmas.{same_cases}
use Rattle.page_words.proofs.Marks.{contains-marked, len-marked, marked_from-replicate, marked-set_true, marked-set_false}
use Rattle.frame_ledger.specs.FreeFrames.{FreeFrames, opening, with_free, without_free}
use Rattle.alloc_table.specs.declared.Role.{Role}
use Rattle.alloc_table.specs.declared.Role.TheVariants.{Reserved, Free, Page}
use Rattle.alloc_table.specs.Roles.{is_free, is_in_use, free_frames, opening_roles, CanBeTaken, released}
use Rattle.alloc_table.specs.Invariant.{IsFrameTable}
use Rattle.alloc_table.specs.Weights.{EachPageHeld}
use Rattle.alloc_table.proofs.RoleLemmas.{get-set_same, get-set_other, free_is}

pub role_is : (r s : Role) → Some r ≡ Some s → r ≡ s
role_is r s e = ap (λ o. unwrap_or o r) e

-- whether the frame is free, in the list of truth values
free_at : (roles : List Role) (f : ℕ) (role : Role) → slice_get roles f ≡ Some role → get_or (map is_free roles) f false ≡ is_free role
free_at [] f role h = cc
free_at (r ∷ roles) zero role h = ap is_free (role_is r role h)
free_at (r ∷ roles) (suc f) role h = free_at roles f role h

role_where_free : (roles : List Role) (f : ℕ) → get_or (map is_free roles) f false ≡ true → slice_get roles f ≡ Some Free
role_where_free [] f h = cc
role_where_free (r ∷ roles) zero h = ap Some (free_is r h)
role_where_free (r ∷ roles) (suc f) h = role_where_free roles f h

in_use_not_free : (r : Role) → is_in_use r ≡ true → is_free r ≡ false
in_use_not_free r h = grind arith

not_Reserved : (r : Role) → is_in_use r ≡ true → r ≢ Reserved
not_Reserved r used e = let x : true ≡ false = sym used ∙ ap is_in_use e in cc

taken_not_free : (r : Role) → CanBeTaken r → is_free r ≡ false
taken_not_free r can = grind arith

taken_held : (r : Role) → CanBeTaken r → (count : ℕ) → r ≡ Page count → 0 < count
taken_held r can count e = grind arith

-- what is left of a role in use
pub released_held : (r : Role) (count : ℕ) → released r ≡ Page count → 0 < count
released_held r count e = grind arith

pub released_not_free : (r : Role) → released r ≢ Free → is_free (released r) ≡ false
released_not_free r n = grind arith

not_page_free : (n i count : ℕ) → slice_get (replicate n Free) i ≢ Some (Page count)
not_page_free zero i count h = cc
not_page_free (suc n) zero count h = cc
not_page_free (suc n) (suc i) count h = not_page_free n i count h

all_free : (n : ℕ) → map is_free (replicate n Free) ≡ replicate n true
all_free zero = refl
all_free (suc n) = ap (λ marks. true ∷ marks) (all_free n)

pub table-opening : (frames : ℕ) → 16 ≤ frames → IsFrameTable (opening frames) (opening_roles frames)
unfolding opening opening_roles marked_numbers
table-opening frames h = grind (arith, length-set, length-replicate, marked_from-replicate, all_free, not_page_free)

module _ (l : FreeFrames) (roles : List Role) (kept : IsFrameTable l roles) where
  pub contains-role : (f : ℕ) (role : Role) → slice_get roles f ≡ Some role → set.contains l.free f ≡ is_free role
  contains-role f role h = ap (λ s. set.contains s f) kept.free ∙ contains-marked (map is_free roles) f ∙ free_at roles f role h

  pub role-free : (f : ℕ) → set.contains l.free f ≡ true → slice_get roles f ≡ Some Free
  role-free f h = role_where_free roles f (sym (contains-marked (map is_free roles) f) ∙ sym (ap (λ s. set.contains s f) kept.free) ∙ h)

  pub len-free : set.len l.free ≡ free_frames roles
  len-free = ap set.len kept.free ∙ len-marked (map is_free roles) ∙ counted roles
    where
      counted : (roles : List Role) → count_by (λ mark. mark) (map is_free roles) ≡ count_by is_free roles
      counted [] = refl
      counted (r ∷ roles) =
          let a = sum_by-cons (λ mark. cond mark 1 0) (is_free r) (map is_free roles) in
          let b = sum_by-cons (λ x. cond (is_free x) 1 0) r roles in
          a ∙ ap (λ n. cond (is_free r) 1 0 + n) (counted roles) ∙ sym b

  -- frame 0 is neither free nor in use
  not_reserved : (f : ℕ) (was : Role) → slice_get roles f ≡ Some was → was ≢ Reserved → f ≢ 0
  not_reserved f was h n e = n (role_is was Reserved (sym h ∙ ap (slice_get roles) e ∙ kept.reserved))

  held_after : (f : ℕ) (role : Role) → f < length roles → ((count : ℕ) → role ≡ Page count → 0 < count) → EachPageHeld (slice_set roles f role)
  held_after f role within own i count h = grind (arith, same_cases, role_is, get-set_same, get-set_other)

  module _ (f : ℕ) (was role : Role) (h : slice_get roles f ≡ Some was) (n : was ≢ Reserved) (own : (count : ℕ) → role ≡ Page count → 0 < count) where
    -- the table with a role changed, beside the ledger whose free frames follow
    after : (new : FreeFrames) → new.frames ≡ l.frames → new.free ≡ marked_numbers (map is_free (slice_set roles f role)) → IsFrameTable new (slice_set roles f role)
    after new frames free = record {
      frames = frames ∙ kept.frames ∙ sym (length-set roles f role);
      free = free;
      reserved = get-set_other roles f 0 role (λ e. not_reserved f was h n (sym e)) ∙ kept.reserved;
      held = held_after f role (slice_get_within roles f was h) own;
    }

  within_marks : (f : ℕ) (was : Role) → slice_get roles f ≡ Some was → f < length (map is_free roles)
  within_marks f was h = let within = slice_get_within roles f was h in omega (arith, length-map roles is_free)

  -- a frame in use is in use under another role
  pub table-kept : (f : ℕ) (was role : Role) → slice_get roles f ≡ Some was → is_in_use was ≡ true → is_free role ≡ false
      → ((count : ℕ) → role ≡ Page count → 0 < count) → IsFrameTable l (slice_set roles f role)
  table-kept f was role h used other own = after f was role h (not_Reserved was used) own l refl
      (kept.free ∙ ap marked_numbers (sym (set-get_or (map is_free roles) f false) ∙ ap (λ b. slice_set (map is_free roles) f b) (free_at roles f was h ∙ in_use_not_free was used ∙ sym other) ∙ sym (map-set is_free roles f role)))

  -- a frame in use is free
  pub table-freed : (f : ℕ) (was : Role) → slice_get roles f ≡ Some was → is_in_use was ≡ true → IsFrameTable (with_free l f) (slice_set roles f Free)
  table-freed f was h used = after f was Free h (not_Reserved was used) (λ count e. cc) (with_free l f) refl
      (ap (λ s. set.insert s f) kept.free ∙ sym (marked-set_true (map is_free roles) f (within_marks f was h)) ∙ ap marked_numbers (sym (map-set is_free roles f Free)))

  -- a frame in use may be put back
  pub put_back-may : (f : ℕ) (was : Role) → slice_get roles f ≡ Some was → is_in_use was ≡ true → (1 ≤ f) × (f < l.frames) × (set.contains l.free f ≡ false)
  put_back-may f was h used =
      grind (arith, slice_get_within, not_reserved, not_Reserved, contains-role, in_use_not_free)

  -- a free frame is in use
  pub table-taken : (f : ℕ) (role : Role) → set.contains l.free f ≡ true → CanBeTaken role → IsFrameTable (without_free l f) (slice_set roles f role)
  table-taken f role h can =
      let was = role-free f h in
      after f Free role was (λ e. cc) (taken_held role can) (without_free l f) refl
      (ap (λ s. set.remove s f) kept.free ∙ sym (marked-set_false (map is_free roles) f (within_marks f Free was)) ∙ ap marked_numbers (ap (λ b. slice_set (map is_free roles) f b) (sym (taken_not_free role can)) ∙ sym (map-set is_free roles f role)))
