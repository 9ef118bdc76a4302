-- What is at an option, and what a map does to it.
use Rattle.std.proofs.Common.{◌≡◌, true, false, Option, None, Some, is_some, arith}
use Rattle.std.specs.Option.{option_map}

pub some_value : {A : Type 0} (x : Option A) → is_some x ≡ true → (a : A) × (x ≡ Some a)
some_value x h = grind arith

pub no_value : {A : Type 0} (x : Option A) → is_some x ≡ false → x ≡ None
no_value x h = grind arith

pub is_some-map : {A B : Type 0} (f : A → B) (x : Option A) → is_some (option_map f x) ≡ is_some x
is_some-map f x = grind arith
