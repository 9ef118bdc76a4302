use Rattle.std.proofs.Common.{sym, ap, subst, ◌∙◌, arith, inl, inr}
use Rattle.std.specs.Prelude.{slice_get}
use Rattle.std.proofs.lemmas.Bool.{cases_eq}
use Rattle.std.proofs.lemmas.Option.{get_or_from_slice_get}
use Rattle.memory_image.specs.Machine.{HasWord}
use Rattle.memory_image.proofs.core_image.have_words.Goals as goal

pub loop-place-preserved : goal.loop-place-preserved
loop-place-preserved c f role low is = elim (cases_eq f c.loop-place.place) [
  | inl same ↦ subst HasWord (c.index-roles-place.is ∙ get_or_from_slice_get c.args.roles.now c.loop-place.place role c.index-roles-place.result (ap (slice_get c.args.roles.now) (sym same) ∙ is)) c.has_word.ensures
  | inr differ ↦ c.loop-place.invariant f role (omega arith) is
]
