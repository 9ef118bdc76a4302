-- Reports that compare as equal are equal.
use Rattle.std.proofs.Common.{◌≡◌, Bool, true, ◌&&◌, List, [], ◌∷◌, Option, Some, None, refl, ap}
use Rattle.std.specs.Cmp.{unsigned_Decides}
use Rattle.std.specs.Cmp.Lexicographic.{pointwise}
use Rattle.std.specs.Option.{option_eq}
use Rattle.std.specs.Prelude.{nat_eq}
use Rattle.process_table.proofs.CellLaws.{both_true}
use Rattle.memory_report.specs.declared.rows.Row.{Row}

abbrev pub rows_eq : Row → Row → Bool
rows_eq x y = nat_eq x.parent y.parent && (nat_eq x.quota y.quota && (nat_eq x.used y.used && nat_eq x.given y.given))

same_row : (x y : Row) → rows_eq x y ≡ true → x ≡ y
same_row x y is =
    let first = both_true (nat_eq x.parent y.parent) _ is in
    let second = both_true (nat_eq x.quota y.quota) _ first.1 in
    let third = both_true (nat_eq x.used y.used) (nat_eq x.given y.given) second.1 in
    let parent : x.parent ≡ y.parent = (unsigned_Decides _ _).0 first.0 in
    let quota : x.quota ≡ y.quota = (unsigned_Decides _ _).0 second.0 in
    let used : x.used ≡ y.used = (unsigned_Decides _ _).0 third.0 in
    let given : x.given ≡ y.given = (unsigned_Decides _ _).0 third.1 in
    λ i. record { parent = parent i; quota = quota i; used = used i; given = given i }

same_option : (x y : Option Row) → option_eq rows_eq x y ≡ true → x ≡ y
same_option None None is = refl
same_option None (Some y) is = cc
same_option (Some x) None is = cc
same_option (Some x) (Some y) is = ap Some (same_row x y is)

pub same_rows : (xs ys : List (Option Row)) → pointwise (option_eq rows_eq) xs ys ≡ true → xs ≡ ys
same_rows [] [] is = refl
same_rows [] (y ∷ ys) is = cc
same_rows (x ∷ xs) [] is = cc
same_rows (x ∷ xs) (y ∷ ys) is =
    let parts = both_true (option_eq rows_eq x y) (pointwise (option_eq rows_eq) xs ys) is in
    let head = same_option x y parts.0 in
    let rest = same_rows xs ys parts.1 in
    λ i. head i ∷ rest i
