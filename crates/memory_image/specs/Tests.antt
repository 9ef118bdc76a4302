-- Tests in order, each with what is said where it doesn't hold.
use Rattle.std.specs.Prelude.{Bool, if◌then◌else◌, List, [], ◌∷◌, Option, Some, None}

-- what is said of the first that doesn't hold
abbrev pub first_failing : {C : Type 0} → List (Bool × C) → Option C
first_failing [] = None
first_failing (c ∷ cs) = if c.0 then first_failing cs else Some c.1
