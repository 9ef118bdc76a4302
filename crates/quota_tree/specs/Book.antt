-- The book: which process gave each live process its quota.
use Rattle.std.proofs.Common.{ℕ, Bool, not, ◌&&◌, ◌==◌, List, filter, length, Option, unwrap_or, sum_by, refl}
use Rattle.std.specs.List.{find, range_with_len}
use Rattle.std.specs.Option.{option_map}
use Rattle.std.specs.Coded.{Coded, code_by, coded×, coded_ℕ}
use Rattle.page_words.specs.FiniteMap as map
use Rattle.page_words.specs.FiniteMap.{Map, nat_order}
use Rattle.page_words.specs.Codes.{map_code}

-- what the book has of a live process
pub record Member : Type 0 where
  pub parent : ℕ
  pub quota : ℕ

-- by the processes' numbers
abbrev pub Book : Type 0
Book = Map nat_order Member

-- the code of members
abbrev pub member_code : Coded Member
member_code = code_by (ℕ × ℕ) (coded× coded_ℕ coded_ℕ) (λ m. (m.parent, m.quota)) (λ p. record { parent = p.0; quota = p.1 }) (λ _. refl)

-- the code of books
abbrev pub book_code : Coded Book
book_code = map_code coded_ℕ member_code

-- whether that entry is of a child of p: process 0 is nobody's child
abbrev pub is_child : ℕ → ℕ × Member → Bool
is_child p entry = not (entry.0 == 0) && (entry.1.parent == p)

-- the live processes other than 0 whose parent is p
abbrev pub children : Book → ℕ → List (ℕ × Member)
children book p = filter (is_child p) book.entries

-- how many children process p has
abbrev pub number_of_children : Book → ℕ → ℕ
number_of_children book p = length (children book p)

-- what p has given to its children
abbrev pub given : Book → ℕ → ℕ
given book p = sum_by (λ entry. entry.1.quota) (children book p)

-- the quota of process p, 0 if it isn't live
abbrev pub quota_of : Book → ℕ → ℕ
quota_of book p = unwrap_or (option_map (λ member. member.quota) (map.get book p)) 0

-- the least number that is not live, if there is one below 64
abbrev pub next_number : Book → Option ℕ
next_number book = find (λ p. not (map.contains_key book p)) (range_with_len 0 64)
