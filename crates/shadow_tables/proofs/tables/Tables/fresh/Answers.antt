use Rattle.std.proofs.Common.{◌≡◌, ℕ, ◌+◌, ◌*◌, ◌≤◌, length, replicate, refl, ap, subst, ◌∙◌, arith}
use Rattle.std.specs.List.{splice}
use Rattle.shadow_tables.specs.Holdings.{IsTakenBy}
use Rattle.shadow_tables.proofs.LongWordLemmas.{length-zero_frame, written_over}
use Rattle.shadow_tables.proofs.tables.Tables.fresh.Goals as goal

pub returns-clause-fresh : goal.returns-clause-fresh
returns-clause-fresh c =
    let taken = c.in_ok-frame.ensures.taken in
    let bytes : c.clear.new.bytes ≡ splice c.args.self.now.bytes.items (4096 * c.in_ok-frame.frame) (4096 * c.in_ok-frame.frame + 4096) (replicate 4096 0) =
    c.clear.ensures ∙ ap (λ xs. splice xs (4096 * c.in_ok-frame.frame) (4096 * c.in_ok-frame.frame + 4096) (replicate 4096 0)) c.deref_mut.ensures.value in
    let room : 4096 * c.in_ok-frame.frame + 4096 ≤ length c.args.self.now.bytes.items = omega (arith, taken.inside, c.requires.blocks.bytes) in
    let size : length c.clear.new.bytes ≡ length c.args.self.now.bytes.items = ap length bytes ∙ length-zero_frame c.args.self.now.bytes.items c.in_ok-frame.frame room in
    let over = written_over c.args.self.now.bytes.items c.clear.new.bytes c.args.self.now.bytes.len c.args.self.now.bytes.ok.0 size in
    record {
      taken = subst (λ (p : ℕ). IsTakenBy c.args.self.now.holdings p c.in_ok-frame.frame c.take.new.self) c.number.ensures.value taken;
      bytes = over ∙ bytes;
      roots = refl;
      blocks = record { pool = refl; block = refl; kernel = refl; length = ap length over ∙ size; frames = taken.frames };
    }
