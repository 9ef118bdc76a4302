use Rattle.std.proofs.Common.{List, ℕ, sym, ap, subst, ◌∙◌, ◌≡◌, []}
use Rattle.std.specs.Io.KnownBytes.{Appends}
use Rattle.std.proofs.KnownBytes.{Appends-nil}
use Rattle.memory_image.specs.Image.{process_at}
use Rattle.image_map.specs.Text.{process_text}
use Rattle.image_map.proofs.text.write_process.Goals as goal

pub returns-in-None-clause-ok : goal.returns-in-None-clause-ok
unfolding process_text
returns-in-None-clause-ok g c =
    let none : [] ≡ process_text c.args.image.now c.args.most c.args.number (process_at c.args.image.now c.args.number) = ap (process_text c.args.image.now c.args.most c.args.number) (sym c.in-None.is ∙ c.process.ensures.process ∙ ap (process_at c.args.image.now) c.pid_of-pid.ensures) in
    subst (λ (l : List ℕ). Appends (g.W.Write.contents c.args.writer.now) (g.W.Write.contents c.args.writer.now) l) none (Appends-nil (g.W.Write.contents c.args.writer.now))
