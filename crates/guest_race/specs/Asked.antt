-- Who was questioned in one round and in several, and the answers.
--     IsAsked      a referee questioned a monitor, whose rows are the round's, and then an audit, which found nothing
--     Times step n before last after      n steps in sequence, and the result of the last
use Rattle.std.specs.Prelude.{◌≡◌, ℕ, ◌+◌, Bool, true, List, Option}
use Rattle.image_check.specs.Told.{Told, fails_nothing}
use Rattle.integrity_checker.specs.Steps.{IsOf}
use Rattle.integrity_checker.specs.Held.{Audited, Helping}
use Rattle.memory_report.specs.declared.rows.Row.{Row}

-- A referee questioned a monitor, which gave these rows, and then an audit, by whose verdict nothing fails.
pub record IsAsked {S : Type 0} (reported : S → List (Option Row) → S → Type 0) (judged : S → Told → S → Type 0) (before : S) (rows : List (Option Row)) (after : S) : Type 0 where
  pub between : S
  pub report : reported before rows between
  pub verdict : Told
  pub judged_so : judged between verdict after
  pub sound : fails_nothing verdict ≡ true

-- the audit gave such a verdict: nothing fails, or something does
abbrev pub Judges : {S : Type 0} → (S → Told → S → Type 0) → S → Bool → S → Type 0
Judges {S} judged before sound after = (verdict : Told) × judged before verdict after × (sound ≡ fails_nothing verdict)

-- a helper of this audit that has answered that no number is left
abbrev pub IsDone : Audited → Helping → Type 0
IsDone audit helper = IsOf audit helper × (helper.done ≡ true)

-- That many steps in sequence, and the result of the last.
pub data Times {S X : Type 0} (step : S → X → S → Type 0) : ℕ → S → X → S → Type 0 where
  once : {s t : S} {x : X} → step s x t → Times step 1 s x t
  more : {n : ℕ} {s t u : S} {x y : X} → Times step n s x t → step t y u → Times step (n + 1) s y u
