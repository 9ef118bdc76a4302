use Rattle.std.proofs.Common.{◌≡◌, ℕ, ◌+◌, ◌<◌, length, length-set, ap, sym, subst, ◌∙◌, arith, Option, Some, None}
use Rattle.std.specs.Prelude.{slice_get, slice_set, slice_index_or}
use Rattle.std.proofs.lemmas.List.{get_or_default}
use Rattle.memory_image.specs.Image.{directory_from}
use Rattle.memory_image.proofs.FillLemmas.{fill_goes_on}
use Rattle.memory_image.proofs.restoring.directories_of.Goals as goal

pub loop-place-preserved : goal.loop-place-preserved
loop-place-preserved c =
    let long : length c.args.processes.now ≡ 64 = c.type_inv.processes in
    let e : c.directory_of.result ≡ directory_from (slice_index_or c.args.processes.now c.loop-place.place None) =
    c.directory_of.ensures ∙ ap directory_from (get_or_default c.args.processes.now c.loop-place.place c.index-processes-place.result None (omega (arith, long, c.loop-place-test.true))) in (
      length-set c.loop-place.directories c.loop-place.place c.directory_of.result ∙ c.loop-place.invariant.0,
      subst (λ (x : Option ℕ). (p : ℕ) → p < c.loop-place.place + 1 → slice_get (slice_set c.loop-place.directories c.loop-place.place x) p ≡ Some (directory_from (slice_index_or c.args.processes.now p None))) (sym e)
          (fill_goes_on (λ p. directory_from (slice_index_or c.args.processes.now p None)) c.loop-place.directories c.loop-place.place (omega (arith, c.loop-place.invariant.0, c.loop-place-test.true)) c.loop-place.invariant.1),
    )
