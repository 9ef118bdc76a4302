-- What the calls of an audit say.
use Rattle.std.specs.Prelude.{◌≡◌, ◌≢◌, ◌⊎◌, ℕ, ◌<◌, ◌≤◌, List, [], ◌∷◌, ◌++◌, false, sum_by, length}
use Rattle.std.specs.List.{list_all}
use Rattle.memory_image.specs.Image.{Image}
use Rattle.image_check.specs.Draws.{times}
use Rattle.image_check.specs.Verdict.{process_clause}
use Rattle.integrity_checker.specs.Drawn.{once_below}
use Rattle.integrity_checker.specs.Held.{Audited, Helping}
use Rattle.integrity_checker.specs.declared.parts.Step.{Step}
use Rattle.integrity_checker.specs.declared.parts.Step.TheVariants.{Checked, NoneLeft}
use Rattle.integrity_checker.specs.declared.faults.AuditFault.{AuditFault}
use Rattle.integrity_checker.specs.declared.faults.AuditFault.TheVariants.{BadCount, Missing, NoMemory}

-- a helper of this audit
abbrev pub IsOf : Audited → Helping → Type 0
IsOf audit helper = (helper.table ≡ audit.table) × (helper.image ≡ audit.image)

-- a number that was not there is added, and its clause is that of its process; or none is added
abbrev pub Stepped : Image → List ℕ → List ℕ → Step → Type 0
Stepped image before after (Checked p clause) = (after ≡ before ++ p ∷ []) × (times p before ≡ 0) × (p < 64) × (clause ≡ process_clause image p)
Stepped image before after NoneLeft = after ≡ before

-- together they have answered each number below 64 once, and no other
abbrev pub AnsweredAll : List Helping → Type 0
AnsweredAll helpers = (x : ℕ) → sum_by (λ h. times x h.answered) helpers ≡ once_below x 64

-- a helper is not among them, or one of them has not answered that none is left
abbrev pub AreMissing : Audited → List Helping → Type 0
AreMissing audit helpers = (length helpers ≢ audit.helpers) ⊎ (list_all (λ h. h.done) helpers ≡ false)

-- why an audit by so many helpers is not made
abbrev pub IsRefused : ℕ → AuditFault → Type 0
IsRefused helpers BadCount = (helpers < 1) ⊎ (8 < helpers)
IsRefused helpers Missing = ⊥
IsRefused helpers NoMemory = (1 ≤ helpers) × (helpers ≤ 8)
