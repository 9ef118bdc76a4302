use Rattle.std.proofs.Common.{ℕ, List, Option, Some, None, inl, inr, subst}
use Rattle.process_table.specs.View.{View}
use Rattle.tower_cli.specs.Images.{EndsRestore, Restores}
use Rattle.tower_jobs.proofs.commands.plain_core.Goals as goal

pub returns-in-Err-clause-none : goal.returns-in-Err-clause-none
returns-in-Err-clause-none g c = inl c.in-Err.ensures.fault

pub returns-in-Ok-Some-clause-core : goal.returns-in-Ok-Some-clause-core
returns-in-Ok-Some-clause-core g c = (
  c.in-Ok.bytes.items,
  c.in-Ok.ensures.read,
  subst (λ (bytes : List ℕ). Restores bytes (Some c.in-Ok-Some.core)) c.as_slice.ensures.value
      (subst (λ (x : Option View). Restores c.as_slice.result.now x) c.in-Ok-Some.field-0-is c.in-Ok-Some.ensures.restored),
)

pub returns-in-Ok-None-clause-none : goal.returns-in-Ok-None-clause-none
returns-in-Ok-None-clause-none g c = (
  c.in-Ok.bytes.items,
  c.in-Ok.ensures.read,
  subst (λ (bytes : List ℕ). Restores bytes None) c.as_slice.ensures.value
      (subst (λ (x : Option View). Restores c.as_slice.result.now x) c.in-Ok-None.field-0-is c.in-Ok-None.ensures.restored),
)

pub returns-clause-none : goal.returns-clause-none
returns-clause-none g c = inr (
  c.in-Ok.bytes.items,
  c.in-Ok.ensures.read,
  subst (λ (bytes : List ℕ). EndsRestore bytes c.in-Err-restore_bytes.fault) c.as_slice.ensures.value c.in-Err-restore_bytes.ensures.fault,
)
