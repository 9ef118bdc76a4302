use Rattle.std.proofs.Common.{List, ℕ, sym, subst, ◌∙◌}
use Rattle.std.specs.Prelude.{OnOk, OnErr}
use Rattle.std.specs.Io.KnownBytes.{Appends}
use Rattle.text_output.specs.Output.{AppendsFront}
use Rattle.image_check.proofs.VerdictTexts.{sound_text, failing_text}
use Rattle.image_check.proofs.verdicts.Verdict.write_text.Goals as goal

pub returns-then-sound-clause-ok : goal.returns-then-sound-clause-ok
returns-then-sound-clause-ok g c = subst (λ (l : List ℕ). OnOk c.write_sound.result (Appends (g.W.Write.contents c.args.writer.now) (g.W.Write.contents c.write_sound.new.writer) l)) (sym (sound_text c.args.self.now (sym c.sound.ensures ∙ c.if-sound.true))) c.write_sound.ensures.ok

pub returns-then-sound-clause-err : goal.returns-then-sound-clause-err
returns-then-sound-clause-err g c = subst (λ (l : List ℕ). OnErr c.write_sound.result (AppendsFront (g.W.Write.contents c.args.writer.now) (g.W.Write.contents c.write_sound.new.writer) l)) (sym (sound_text c.args.self.now (sym c.sound.ensures ∙ c.if-sound.true))) c.write_sound.ensures.err

pub returns-else-sound-clause-ok : goal.returns-else-sound-clause-ok
returns-else-sound-clause-ok g c = subst (λ (l : List ℕ). OnOk c.write_failing.result (Appends (g.W.Write.contents c.args.writer.now) (g.W.Write.contents c.write_failing.new.writer) l)) (sym (failing_text c.args.self.now (sym c.sound.ensures ∙ c.if-sound.false))) c.write_failing.ensures.ok

pub returns-else-sound-clause-err : goal.returns-else-sound-clause-err
returns-else-sound-clause-err g c = subst (λ (l : List ℕ). OnErr c.write_failing.result (AppendsFront (g.W.Write.contents c.args.writer.now) (g.W.Write.contents c.write_failing.new.writer) l)) (sym (failing_text c.args.self.now (sym c.sound.ensures ∙ c.if-sound.false))) c.write_failing.ensures.err
