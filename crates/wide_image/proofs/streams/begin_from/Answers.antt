use Rattle.std.proofs.Common.{length-take, take, subst, sym, take_all, ◌∙◌, arith, inl, inr}
use Rattle.std.specs.Io.KnownBytes.{Consumes}
use Rattle.wide_image.proofs.Naming.{front_named}
use Rattle.wide_image.proofs.Refusing.{front_refused}
use Rattle.wide_image.proofs.streams.begin_from.Goals as goal

pub returns-in-Ok-clause-begun : goal.returns-in-Ok-clause-begun
returns-in-Ok-clause-begun g c =
    let l = length-take c.in_ok-read.read c.fill.new.buffer in
    subst (Consumes _ _) (sym (c.in-Ok.ensures.text ∙ take_all 1556 _ (omega (arith, l, c.in_ok-read.ensures.length)))) c.in_ok-read.ensures.bytes

pub returns-in-Err-clause-refused : goal.returns-in-Err-clause-refused
returns-in-Err-clause-refused g c =
    let l = length-take c.in_ok-read.read c.fill.new.buffer in
    let long = c.in_ok-read.ensures.length in
    elim c.in-Err.ensures.fault [
      | inl is ↦ inr (front_refused _ _ (take c.in_ok-read.read c.fill.new.buffer) c.in-Err.fault c.in_ok-read.ensures.bytes
          (λ few. c.in_ok-read.ensures.end (omega (arith, l, long, few))) (omega (arith, l, long)) is)
      | inr none ↦ inl none.0
    ]

pub returns-in-Err-clause-named : goal.returns-in-Err-clause-named
returns-in-Err-clause-named g c =
    let l = length-take c.in_ok-read.read c.fill.new.buffer in
    let long = c.in_ok-read.ensures.length in
    elim c.in-Err.ensures.fault [
      | inl is ↦ inr (front_named _ _ (take c.in_ok-read.read c.fill.new.buffer) c.in-Err.fault c.in_ok-read.ensures.bytes
          (λ few. c.in_ok-read.ensures.end (omega (arith, l, long, few))) (omega (arith, l, long)) is)
      | inr none ↦ inl none.0
    ]
