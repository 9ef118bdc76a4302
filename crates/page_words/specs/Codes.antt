-- Codes of finite maps and sets, so that what a model's `Value` holds may be one.
use Rattle.std.proofs.Common.{◌≡◌, T, List}
use mathlib.Core.HLevel.{Σ_prop_path}
use lib.Dec.{T_prop}
use base.Stored.{coded_via, coded_unit}
use Rattle.std.specs.Coded.{Coded, coded×, coded_list}
use Rattle.std.specs.FinMap.Entries.{is_sorted}
use Rattle.page_words.specs.FiniteMap.{Order, Map}
use Rattle.page_words.specs.FiniteSet.{Set}

pub same_entries_map : {K X : Type 0} {o : Order K} (m n : Map o X) → m.entries ≡ n.entries → m ≡ n
same_entries_map {K} {X} {o} m n e =
    let pairs : ◌≡◌ {A = (es : List (K × X)) × T (is_sorted o.cmp es)} (m.entries, m.sorted) (n.entries, n.sorted) = Σ_prop_path (λ es. T_prop _) e in
    λ i. record { entries = (pairs i).0; sorted = (pairs i).1 }

-- the code of finite maps
abbrev pub map_code : {K X : Type 0} {o : Order K} → Coded K → Coded X → Coded (Map o X)
map_code {K} {X} {o} k x = coded_via (coded_list (coded× k x)) (λ (m : Map o X). m.entries) same_entries_map

-- the code of finite sets
abbrev pub set_code : {K : Type 0} {o : Order K} → Coded K → Coded (Set o)
set_code k = map_code k coded_unit
