use Rattle.std.proofs.Common.{◌≡◌, ℕ, ◌+◌, ◌<◌, length-set, ap, sym, subst, ◌∙◌, arith, inl, inr, Option, Some}
use Rattle.std.specs.Prelude.{slice_get, slice_set}
use Rattle.std.proofs.lemmas.Bool.{cases_eq}
use Rattle.memory_image.specs.declared.processes.Process.{Process}
use Rattle.memory_image.specs.Machine.{process_told, IsToldWide}
use Rattle.memory_image.proofs.FillLemmas.{fill_goes_on}
use Rattle.memory_image.proofs.core_image.processes_of.Goals as goal

pub loop-number-preserved : goal.loop-number-preserved
loop-number-preserved c =
    let e : c.process_of.result ≡ process_told c.args.core.now c.loop-number.number = c.process_of.ensures.told ∙ ap (process_told c.args.core.now) c.pid_of.ensures in (
      length-set c.loop-number.processes c.loop-number.number c.process_of.result ∙ c.loop-number.invariant.0,
      subst (λ (x : Option Process). (p : ℕ) → p < c.loop-number.number + 1 → slice_get (slice_set c.loop-number.processes c.loop-number.number x) p ≡ Some (process_told c.args.core.now p)) (sym e)
          (fill_goes_on (process_told c.args.core.now) c.loop-number.processes c.loop-number.number (omega (arith, c.loop-number.invariant.0)) c.loop-number.invariant.1),
      λ p low. elim (cases_eq p c.loop-number.number) [
        | inl same ↦ subst (IsToldWide c.args.core.now) (c.pid_of.ensures ∙ sym same) c.process_of.ensures.wide
        | inr differ ↦ c.loop-number.invariant.2 p (omega arith)
      ],
    )
