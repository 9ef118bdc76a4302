-- The numbers that a list of truth values marks: those at which it is true.
use Rattle.std.specs.Prelude.{ℕ, ◌+◌, Bool, cond, List, [], ◌∷◌}
use Rattle.page_words.specs.FiniteMap.{nat_order}
use Rattle.page_words.specs.FiniteSet as set
use Rattle.page_words.specs.FiniteSet.{Set}

-- the marked numbers, where the list begins at this number
abbrev pub marked_from : ℕ → List Bool → Set nat_order
marked_from start [] = set.empty
marked_from start (mark ∷ marks) = cond mark (set.insert (marked_from (start + 1) marks) start) (marked_from (start + 1) marks)

-- the set of the numbers of marks that are true
unfoldable pub marked_numbers : List Bool → Set nat_order
marked_numbers marks = marked_from 0 marks
