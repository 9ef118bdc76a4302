use Rattle.std.proofs.Common.{◌≡◌, ◌∙◌, ◌<◌, ℕ, sym, ap, subst, inl, IfErr}
use Rattle.std.specs.Prelude.{IsErrOf, Result, Ok, Err, ◌↔◌}
use Rattle.locked_core.proofs.Sizes.{core_frames}
use Rattle.locked_core.specs.Makers.{IsRefused}
use Rattle.locked_core.specs.declared.faults.Fault.{Fault}
use Rattle.memory_image.specs.declared.faults.CoreImageFault.{CoreImageFault}
use Rattle.memory_image.specs.declared.faults.CoreImageFault.TheVariants.{TooManyFrames, NoMemory}
use Rattle.locked_core.proofs.locked.Locked.snapshot.Goals as goal
use Rattle.locked_core.proofs.locked.Locked.snapshot.Goals.{in-Ok, in-Err-TooManyFrames, in-Err-NoMemory}

-- an image is refused for its frames, as many as there are
module _ {X : Type 0} (r : Result X CoreImageFault) (n m : ℕ) (many : IsErrOf r TooManyFrames ↔ (4096 < n)) (same : n ≡ m) where
  refused : 4096 < m → r ≡ Err TooManyFrames
  refused large = many.1 (subst (λ k. 4096 < k) (sym same) large)

  not_ok : (image : X) → r ≡ Ok image → 4096 < m → ⊥
  not_ok image is large = let h : Ok image ≡ Err TooManyFrames = sym is ∙ refused large in cc

  not_memory : r ≡ Err NoMemory → 4096 < m → ⊥
  not_memory is large = let h : ◌≡◌ {A = Result X CoreImageFault} (Err NoMemory) (Err TooManyFrames) = sym is ∙ refused large in cc

  is_large : r ≡ Err TooManyFrames → 4096 < m
  is_large is = subst (λ k. 4096 < k) same (many.0 is)

pub returns-clause-large : goal.returns-clause-large
returns-clause-large g c = λ large.
    let same = core_frames g.N.Name.frames c.self.inside.log.entries c.self.inside.core c.stands.ensures.core c.self.invariant.stands c.self.invariant.legal.size.0 in
    elim c.match-of.branch [
      | in-Ok w ↦ absurd (not_ok c.of.result _ _ c.of.ensures.many same _ w.in-Ok.is large)
      | in-Err-TooManyFrames w ↦ inl w.result-is
      | in-Err-NoMemory w ↦ absurd (not_memory c.of.result _ _ c.of.ensures.many same (w.in-Err-NoMemory.is ∙ ap Err w.in-Err-NoMemory.field-0-is) large)
    ]

pub returns-clause-refused : goal.returns-clause-refused
returns-clause-refused g c =
    let P : Fault → Type 0 = IsRefused g.N.Name.frames c.args.self.now.log c.args.cpu.now in
    let same = core_frames g.N.Name.frames c.self.inside.log.entries c.self.inside.core c.stands.ensures.core c.self.invariant.stands c.self.invariant.legal.size.0 in
    let found = c.in-Some.ensures in
    elim c.match-of.branch [
      | in-Ok w ↦ subst (λ r. IfErr r P) (sym w.result-is) tt
      | in-Err-TooManyFrames w ↦ subst (λ r. IfErr r P) (sym w.result-is) (is_large c.of.result _ _ c.of.ensures.many same (w.in-Err-TooManyFrames.is ∙ ap Err w.in-Err-TooManyFrames.field-0-is))
      | in-Err-NoMemory w ↦ subst (λ r. IfErr r P) (sym w.result-is) (found.legal, found.fits.0, found.fits.1)
    ]
