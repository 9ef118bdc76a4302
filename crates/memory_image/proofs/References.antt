-- What an image's directories name.
use Rattle.std.proofs.Common.{◌≡◌, ℕ, ◌<◌, ◌≤◌, Bool, true, false, length, refl, ap, arith, Option, Some, None, is_some}
use Rattle.std.specs.Prelude.{slice_get, nat_le, nat_lt, if◌then◌else◌}
use Rattle.std.specs.Option.{option_and_then, option_map, unwrap_or}
use Rattle.std.proofs.lemmas.Bool.{and_parts, leb-true, ltb-true}
use Rattle.std.proofs.lemmas.Option.{slice_get_within}
use Rattle.address_space.specs.Image as memory
use Rattle.address_space.specs.Image.{directory_at, is_user_slot}
use Rattle.memory_image.specs.declared.processes.Process.{Process}
use Rattle.memory_image.specs.Image.{Image, process_at, directory_from, memory_of}

pub is_there : {A : Type 0} (x : Option A) → is_some x ≡ true → (a : A) × (x ≡ Some a)
is_there None h = cc
is_there (Some a) h = (a, refl)

pub from_map : {A B : Type 0} (f : A → B) (x : Option A) (y : B) → option_map f x ≡ Some y → (a : A) × (x ≡ Some a) × (f a ≡ y)
from_map f None y h = cc
from_map f (Some a) y h = (a, refl, ap (λ o. unwrap_or o (f a)) h)

pub same_some : {A : Type 0} (x y : A) → ◌≡◌ {A = Option A} (Some x) (Some y) → x ≡ y
same_some x y h = ap (λ o. unwrap_or o x) h

pub chosen_some : {A : Type 0} (b : Bool) (x y : A) → (if b then Some x else None) ≡ Some y → (b ≡ true) × (x ≡ y)
chosen_some true x y h = (refl, same_some x y h)
chosen_some false x y h = cc

pub then_some : {A B : Type 0} (f : A → Option B) (x : Option A) (y : B) → option_and_then f x ≡ Some y → (a : A) × (x ≡ Some a) × (f a ≡ Some y)
then_some f None y h = cc
then_some f (Some a) y h = (a, refl, h)

pub user_range : (s : ℕ) → is_user_slot s ≡ true → (256 ≤ s) × (s < 960)
user_range s h = let a = and_parts (nat_le 256 s) (nat_lt s 960) h in (leb-true 256 s a.0, ltb-true s 960 a.1)

module _ (image : Image) where
  abbrev pub M : memory.Image
  M = memory_of image

  pub directory-of : (p : ℕ) (r : Process) → process_at image p ≡ Some r → directory_at M p ≡ Some r.directory
  directory-of p r live = ap directory_from live

  pub live-of : (p d : ℕ) → directory_at M p ≡ Some d → (r : Process) × (process_at image p ≡ Some r) × (r.directory ≡ d)
  live-of p d h = from_map (λ (r : Process). r.directory) (process_at image p) d h

  pub pid-small : length image.processes ≡ 64 → (p : ℕ) (r : Process) → process_at image p ≡ Some r → p < 64
  pid-small pids p r h = by (slice_get image.processes p) refl
    where
      by : (x : Option (Option Process)) → slice_get image.processes p ≡ x → p < 64
      by None e = let n : process_at image p ≡ None = ap (λ o. unwrap_or o None) e in cc
      by (Some y) e = let w = slice_get_within image.processes p y e in omega (arith, w, pids)

pub directory_read : (image : Image) (p : ℕ) (x : Option Process) → x ≡ process_at image p → directory_from x ≡ directory_at (memory_of image) p
directory_read image p x e = ap directory_from e
