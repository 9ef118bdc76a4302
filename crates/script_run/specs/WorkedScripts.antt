-- A worked script whose second line names no call, and the reply to its first.
use Rattle.std.specs.Prelude.{ℕ, List, [], ◌∷◌, ◌++◌, codes}

-- a script of three lines, the second malformed
abbrev pub second_line_malformed : List ℕ
second_line_malformed = codes "0 0 quota" ++ 10 ∷ codes "0 0 lode 40000000 4" ++ 10 ∷ codes "0 0 quota" ++ 10 ∷ []

-- the reply to its first line
abbrev pub reply_to_the_first : List ℕ
reply_to_the_first = codes "quota 15 1 0" ++ 10 ∷ []
