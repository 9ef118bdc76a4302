-- What was written of a snapshot.
use Rattle.std.proofs.Common.{◌≡◌, ℕ, Bool, true, false, List, Option, Result, Ok, Err, ap, inl, inr, sym, subst, ◌∙◌}
use Rattle.std.specs.Prelude.{IfOk, IfErr}
use Rattle.std.specs.Io.KnownBytes.{Appends}
use Rattle.image_check.specs.Text.{verdict_text}
use Rattle.image_check.specs.Told.{Told, fails_nothing, verdict_on}
use Rattle.image_restore.specs.Resumed.{IsSoundWide}
use Rattle.text_output.specs.Output.{AppendsFront}
use Rattle.wide_image.specs.Streams.{EncodesAll}
use Rattle.wide_image.specs.Wide.{WideImage}
use Rattle.command_answers.specs.declared.faults.ToolFault.{ToolFault}
use Rattle.command_answers.specs.declared.faults.ToolFault.TheVariants as tool
use Rattle.tower_cli.specs.Whole.{ChecksWhole, EndsCheckWhole, IsTold}

module _ (image : WideImage) (told : Told) (is : told ≡ verdict_on image.image) where
  -- clauses fail
  pub told_failing : fails_nothing told ≡ false → IsTold image false (verdict_text told)
  told_failing fails = inl (subst (λ (t : Told). fails_nothing t ≡ false) is fails, ap verdict_text is)

  -- none does, and no offer is refused
  pub told_sound : IsSoundWide image → IsTold image true (verdict_text told)
  told_sound S = (S, ap verdict_text is)

module _ (file a b : Option (List ℕ)) (image : WideImage) (E : EncodesAll file image) (told : Told) (sound : Bool) (T : IsTold image sound (verdict_text told)) where
  -- the text of the verdict was written
  pub checked : fails_nothing told ≡ sound → (r : Result Bool ToolFault) → IfOk r (λ said. (said ≡ fails_nothing told) × Appends a b (verdict_text told)) → IfOk r (λ said. ChecksWhole file said a b)
  checked is (Ok said) h = subst (λ s. ChecksWhole file s a b) (sym (h.0 ∙ is)) (image, E, verdict_text told, T, h.1)
  checked is (Err fault) h = tt

  -- or a front of it
  pub cut_short : (r : Result Bool ToolFault) → IfErr r (λ fault. (fault ≡ tool.WriteFailed) × AppendsFront a b (verdict_text told)) → IfErr r (λ fault. EndsCheckWhole file fault a b)
  cut_short (Ok said) h = tt
  cut_short (Err fault) h = inr (h.0, (image, E, sound, verdict_text told, T, h.1))
