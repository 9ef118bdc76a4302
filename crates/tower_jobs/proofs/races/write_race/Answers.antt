use Rattle.std.proofs.Common.{◌∙◌, ℕ, List, refl, subst}
use Rattle.std.specs.Io.KnownBytes.{Appends}
use Rattle.std.proofs.lemmas.Result.{err_from_is_err_and}
use Rattle.text_output.proofs.OutputLemmas.{cut_first, cut_last, wrote_first}
use Rattle.text_output.specs.Output.{AppendsFront}
use Rattle.tower_jobs.specs.Races.{race_text}
use Rattle.tower_jobs.proofs.races.write_race.Goals as goal

pub returns-in_err-write_whole-clause-err : goal.returns-in_err-write_whole-clause-err
unfolding race_text
returns-in_err-write_whole-clause-err g c =
    let p = err_from_is_err_and c.from_residual.result c.from_residual.ensures.1 in
    rw p.1 (cut_first _ _ _ _ _ refl (subst (λ (text : List ℕ). AppendsFront (g.W.Write.contents c.args.writer.now) (g.W.Write.contents c.write_whole.new.writer) text) (c.as_slice.ensures.value ∙ c.heading.ensures) c.in_err-write_whole.ensures.err))

pub returns-clause-err : goal.returns-clause-err
unfolding race_text
returns-clause-err g c =
    let first = subst (λ (text : List ℕ). Appends (g.W.Write.contents c.args.writer.now) (g.W.Write.contents c.write_whole.new.writer) text) (c.as_slice.ensures.value ∙ c.heading.ensures) c.in_ok-write_whole.ensures.ok in
    cut_last _ _ _ _ _ c.write_text.result (wrote_first _ _ _ _ _ refl first) c.write_text.ensures.err
